use Rattle.std.proofs.Common.{◌≡◌, ◌++◌, List, ℕ, [], get_or, ap, ◌∙◌, arith}
use Rattle.nr_link.specs.Output.{write}
use Rattle.nr_endpoint.specs.declared.framing.RemoteWrite.{RemoteWrite}
use Rattle.nr_endpoint.proofs.Cuts.{carried_write}
use Rattle.nr_endpoint.proofs.WholeCalls.{write_goes, writes_room_next}
use Rattle.nr_endpoint.proofs.framing.append_writes.Goals as goal

pub append_segments-requires-clause-fits : goal.append_segments-requires-clause-fits
append_segments-requires-clause-fits c = c.requires.fits c.loop-write.write-index _ c.loop-write-test.true

pub append_segments-requires-clause-room : goal.append_segments-requires-clause-room
append_segments-requires-clause-room c =
    let d : RemoteWrite = record { stag = 0; to = 0; bytes = record { ref_ptr = (0, 0); now = [] } } in
    omega (arith, c.requires.room, c.loop-write.invariant.spare, writes_room_next 27 c.args.writes.now c.loop-write.write-index d c.loop-write-test.true)

pub loop-write-preserved : goal.loop-write-preserved
loop-write-preserved c =
    let d : RemoteWrite = record { stag = 0; to = 0; bytes = record { ref_ptr = (0, 0); now = [] } } in
    let w : RemoteWrite = get_or c.args.writes.now c.loop-write.write-index d in
    let is : c.append_segments.new.out.items ≡ c.loop-write.out.items ++ write w.stag w.to w.bytes.now =
    c.append_segments.ensures.bytes ∙ ap (λ (bytes : List ℕ). c.loop-write.out.items ++ bytes) (carried_write w.stag w.to w.bytes.now) in
    record {
      bytes = write_goes c.args.writes.now c.loop-write.write-index d _ c.loop-write.out.items c.append_segments.new.out.items c.loop-write-test.true c.loop-write.invariant.bytes is;
      spare = omega (arith, c.loop-write.invariant.spare, c.append_segments.ensures.spare, writes_room_next 27 c.args.writes.now c.loop-write.write-index d c.loop-write-test.true);
      kept = c.append_segments.ensures.kept ∙ c.loop-write.invariant.kept;
    }
