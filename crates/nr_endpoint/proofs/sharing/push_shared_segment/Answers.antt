use Rattle.std.proofs.Common.{◌++◌, ◌∙◌, ap}
use Rattle.nr_wire.specs.Segment.{segment_header, segment_tail, ulpdu_size, Segment}
use Rattle.nr_endpoint.specs.OperationSegments.{operation_segment}
use Rattle.nr_endpoint.proofs.Cuts.{segment_pushed, carried_payload, carried_writable}
use Rattle.std.proofs.Common.{sym, subst}
use Rattle.nr_wire.specs.Segment.{IsWritable}
use Rattle.nr_endpoint.proofs.sharing.push_shared_segment.Goals as goal

pub segment_header-header-requires : goal.segment_header-header-requires
segment_header-header-requires c =
    let is = rw (c.as_slice.ensures) at c.segment-framed.ensures in
    subst (λ (s : Segment). IsWritable s) (sym is) (carried_writable c.args.operation c.args.last c.args.offset c.args.payload c.requires.len)

pub returns-clause-items : goal.returns-clause-items
returns-clause-items c =
    let is = rw (c.as_slice.ensures) at c.segment-framed.ensures in
    segment_pushed _ c.args.out.now.items c.as_slice-2.result.now c.args.payload c.segment_tail.result.now (operation_segment c.args.operation c.args.last c.args.offset c.args.payload)
    (c.as_slice-2.ensures.value ∙ c.segment_header-header.ensures.bytes ∙ ap segment_header is)
    (sym (carried_payload c.args.operation c.args.last c.args.offset c.args.payload))
    (c.segment_tail.ensures.bytes ∙ ap segment_tail (c.ulpdu_size-size.ensures ∙ ap ulpdu_size is))
    (c.append-2.ensures.bytes
    ∙ (λ i. c.in_ok-push.ensures.ok i ++ c.segment_tail.result.now)
    ∙ (λ i. (c.append.ensures.bytes i ++ c.args.payload) ++ c.segment_tail.result.now))
