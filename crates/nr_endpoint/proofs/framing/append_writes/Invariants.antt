use Rattle.std.proofs.Common.{◌≡◌, ◌≤◌, ◌+◌, ◌++◌, drop}
use Rattle.nr_endpoint.specs.OperationSegments.{writes_room}
use Rattle.nr_endpoint.specs.Offering.{writes_output}
use Rattle.nr_endpoint.proofs.framing.append_writes.Given as goal

abbrev pub invariant-loop-write : goal.invariant-loop-write
invariant-loop-write l = record {
  bytes : l.out.items ++ writes_output (drop l.write-index l.writes) ≡ l.initial.out.items ++ writes_output l.writes;
  spare : l.initial.out.spare + writes_room 27 (drop l.write-index l.writes) ≤ l.out.spare + writes_room 27 l.writes;
  kept : l.out.kept ≡ l.initial.out.kept;
}
