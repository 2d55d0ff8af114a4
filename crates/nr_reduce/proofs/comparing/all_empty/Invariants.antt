use Rattle.std.proofs.Common.{length, drop, ◌-◌, ◌≡◌, ◌≤◌}
use Rattle.std.specs.List.{list_all}
use Rattle.nr_reduce.specs.Chunks.{are_empty}
use Rattle.nr_reduce.proofs.comparing.all_empty.Given as goal

abbrev pub invariant-loop-at : goal.invariant-loop-at
invariant-loop-at l = record {
  within : l.at ≤ length l.chunks;
  left : list_all are_empty (drop l.at l.chunks) ≡ list_all are_empty l.chunks;
}

abbrev pub decreases-loop-at : goal.decreases-loop-at
decreases-loop-at l = length l.chunks - l.at
