use Rattle.std.proofs.Common.{◌≡◌, ◌*◌, ◌≤◌, take}
use Rattle.std.specs.Prelude.{sum}
use Rattle.nr_reduce.proofs.planning.sum_of.Given as goal

abbrev pub invariant-loop-length : goal.invariant-loop-length
invariant-loop-length l = record {
  so_far : l.sum ≡ sum (take l.length-index l.lengths);
  bounded : l.sum ≤ l.length-index * 4294967296;
}
