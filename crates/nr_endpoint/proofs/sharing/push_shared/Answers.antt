use Rattle.std.proofs.Common.{◌≡◌, ℕ, ◌+◌, ◌*◌, List, ◌++◌, eqb, refl, ap, ◌∙◌, arith}
use Rattle.std.proofs.lemmas.List.{append-nil}
use Rattle.nr_link.specs.Limits.{segment_max}
use Rattle.nr_link.specs.Output.{cut, segment_count}
use Rattle.nr_endpoint.specs.OperationSegments.{operation_segment}
use Rattle.nr_endpoint.proofs.Cuts.{pieces_none, payload_short, piece_pushed, all_pushed}
use Rattle.nr_endpoint.proofs.sharing.push_shared.Goals as goal

pub loop-i-init : goal.loop-i-init
loop-i-init c =
    record {
      items = rw (pieces_none c.args.operation c.args.bytes.now, append-nil) refl;
      spare = omega (arith, c.in_ok-reserve.ensures.ok);
    }

pub push_shared_segment-requires-clause-len : goal.push_shared_segment-requires-clause-len
push_shared_segment-requires-clause-len c = rw (c.in_ok-payload.ensures) (payload_short c.args.bytes.now c.loop-i.i)

pub push_shared_segment-requires-clause-room : goal.push_shared_segment-requires-clause-room
push_shared_segment-requires-clause-room c = omega (arith, c.loop-i.invariant.spare, c.loop-i-test.true)

pub loop-i-preserved : goal.loop-i-preserved
loop-i-preserved c =
    let count = rw (c.as_slice.ensures) at c.segment_count-count.ensures in
    record {
      items = piece_pushed _ _ _ _ c.args.operation c.args.bytes.now c.loop-i.i c.loop-i.invariant.items c.in_ok-push_shared_segment.ensures.items
          (λ t. operation_segment c.args.operation (eqb (c.loop-i.i + 1) (count t)) (segment_max * c.loop-i.i) (c.in_ok-payload.ensures t));
      spare = omega (arith, c.loop-i.invariant.spare, c.in_ok-push_shared_segment.ensures.spare);
    }

pub returns : goal.returns
returns c =
    let count = rw (c.as_slice.ensures) at c.segment_count-count.ensures in
    let here : c.loop-i.i ≡ segment_count c.args.bytes.now = omega (arith, count) in
    all_pushed _ _ c.args.operation c.args.bytes.now c.loop-i.i here c.loop-i.invariant.items
    ∙ ap (λ (items : List ℕ). items ++ cut (operation_segment c.args.operation) c.args.bytes.now) c.in_ok-reserve.ensures.items
