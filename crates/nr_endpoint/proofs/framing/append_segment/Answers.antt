use Rattle.std.proofs.Common.{◌++◌, ◌∙◌, ap}
use Rattle.nr_wire.specs.Segment.{segment_tail}
use Rattle.nr_wire.specs.View.{segment as plain}
use Rattle.nr_endpoint.proofs.Cuts.{segment_pushed}
use Rattle.nr_endpoint.proofs.framing.append_segment.Goals as goal

pub returns-clause-bytes : goal.returns-clause-bytes
returns-clause-bytes c =
    segment_pushed _ c.args.out.now.items c.as_slice.result.now c.payload_in.result.now c.segment_tail.result.now (plain c.args.segment.now)
    (c.as_slice.ensures.value ∙ c.segment_header.ensures.bytes) c.payload_in.ensures (c.segment_tail.ensures.bytes ∙ ap segment_tail c.ulpdu_size.ensures)
    (c.append-3.ensures.bytes
    ∙ (λ i. c.append-2.ensures.bytes i ++ c.segment_tail.result.now)
    ∙ (λ i. (c.append.ensures.bytes i ++ c.payload_in.result.now) ++ c.segment_tail.result.now))
