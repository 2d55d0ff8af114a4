use Rattle.std.proofs.Common.{length, drop, ◌-◌, ◌≡◌, ◌≤◌}
use Rattle.nr_reduce.specs.Chunks.{returns_each}
use Rattle.nr_reduce.proofs.comparing.returns_each.Given as goal

abbrev pub invariant-loop-at : goal.invariant-loop-at
invariant-loop-at l = record {
  within : l.at ≤ length l.back;
  same : length l.offered ≡ length l.back;
  left : returns_each (drop l.at l.offered) (drop l.at l.back) ≡ returns_each l.offered l.back;
}

abbrev pub decreases-loop-at : goal.decreases-loop-at
decreases-loop-at l = length l.back - l.at
