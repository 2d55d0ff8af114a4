use Rattle.std.proofs.Common.{◌≡◌, ◌+◌, ◌*◌, ◌≤◌, drop}
use Rattle.nr_reduce.specs.Chunks.{total_at}
use Rattle.nr_reduce.proofs.reading.total_at.Given as goal

abbrev pub invariant-loop-entry : goal.invariant-loop-entry
invariant-loop-entry l = record {
  left : l.total + total_at l.position (drop l.entry-index l.read) ≡ total_at l.position l.read;
  bounded : l.total ≤ l.entry-index * 4294967296;
}
