use Rattle.std.proofs.Common.{◌≡◌, ◌+◌, drop}
use Rattle.nr_endpoint.specs.OperationSegments.{writes_room}
use Rattle.nr_endpoint.proofs.framing.writes_room.Given as goal

abbrev pub invariant-loop-write : goal.invariant-loop-write
invariant-loop-write l = record { room : l.room + writes_room 27 (drop l.write-index l.writes) ≡ l.more + writes_room 27 l.writes }
