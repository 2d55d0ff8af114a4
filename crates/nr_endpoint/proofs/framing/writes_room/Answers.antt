use Rattle.std.proofs.Common.{[], arith}
use Rattle.nr_endpoint.specs.declared.framing.RemoteWrite.{RemoteWrite}
use Rattle.nr_endpoint.proofs.WholeCalls.{writes_room_next}
use Rattle.nr_endpoint.proofs.framing.writes_room.Goals as goal

pub loop-write-preserved : goal.loop-write-preserved
loop-write-preserved c =
    let d : RemoteWrite = record { stag = 0; to = 0; bytes = record { ref_ptr = (0, 0); now = [] } } in
    record { room = omega (arith, c.loop-write.invariant.room, writes_room_next 27 c.args.writes.now c.loop-write.write-index d c.loop-write-test.true, c.cut_room-one.ensures) }
