use Rattle.std.proofs.Common.{◌≡◌, ◌≤◌, ◌<◌, ◌+◌, ◌*◌, length, refl, arith, ◌∙◌}
use Rattle.std.specs.Prelude.{min}
use Rattle.std.proofs.lemmas.List.{append-nil}
use Rattle.nr_link.specs.Limits.{segment_max}
use Rattle.nr_link.specs.Output.{segment_count}
use Rattle.nr_endpoint.proofs.Cuts.{pieces_none, payload_short, writable_from, piece_pushed, all_pushed, room_for, spare_after}
use Rattle.nr_endpoint.proofs.framing.append_segments.Goals as goal

pub loop-i-init : goal.loop-i-init
loop-i-init c = record { items = rw (pieces_none c.args.operation c.args.bytes.now, append-nil) refl; spare = omega arith; kept = refl }

pub append_segment-requires-clause-writable : goal.append_segment-requires-clause-writable
append_segment-requires-clause-writable c =
    writable_from _ _ _ _ _ c.segment.ensures (rw c.segment_payload-payload.ensures (payload_short c.args.bytes.now c.loop-i.i))

pub append_segment-requires-clause-room : goal.append_segment-requires-clause-room
append_segment-requires-clause-room c =
    let is = rw (c.segment_payload-payload.ensures) at c.segment.ensures in
    let lt : c.loop-i.i < segment_count c.args.bytes.now = omega (arith, c.segment_count-count.ensures, c.loop-i-test.true) in
    let room : length c.args.bytes.now + 27 * segment_count c.args.bytes.now ≤ c.loop-i.out.spare + (27 * c.loop-i.i + min (length c.args.bytes.now) (segment_max * c.loop-i.i)) =
    omega (arith, c.requires.room, c.loop-i.invariant.spare) in
    room_for _ c.args.operation _ _ c.args.bytes.now c.loop-i.i _ is lt room

pub loop-i-preserved : goal.loop-i-preserved
loop-i-preserved c =
    let is = rw (c.segment_count-count.ensures, c.segment_payload-payload.ensures) at c.segment.ensures in
    record {
      items = piece_pushed _ _ _ _ c.args.operation c.args.bytes.now c.loop-i.i c.loop-i.invariant.items c.append_segment.ensures.bytes is;
      spare = spare_after _ c.args.operation _ _ c.args.bytes.now c.loop-i.i _ _ _ is c.loop-i.invariant.spare c.append_segment.ensures.spare;
      kept = c.append_segment.ensures.kept ∙ c.loop-i.invariant.kept;
    }

pub returns-clause-bytes : goal.returns-clause-bytes
returns-clause-bytes c =
    let here : c.loop-i.i ≡ segment_count c.args.bytes.now = omega arith in
    all_pushed _ _ c.args.operation c.args.bytes.now c.loop-i.i here c.loop-i.invariant.items

pub returns-clause-spare : goal.returns-clause-spare
returns-clause-spare c =
    let here : c.loop-i.i ≡ segment_count c.args.bytes.now = omega arith in
    omega (arith, here, c.loop-i.invariant.spare)
