use Rattle.std.proofs.Common.{length, drop, ◌-◌, ◌≡◌, ◌≤◌}
use Rattle.nr_reduce.specs.Chunks.{returns}
use Rattle.nr_reduce.proofs.comparing.returns.Given as goal

abbrev pub invariant-loop-at : goal.invariant-loop-at
invariant-loop-at l = record {
  within : l.at ≤ length l.back;
  same : length l.offered ≡ length l.back;
  left : returns (drop l.at l.offered) (drop l.at l.back) ≡ returns l.offered l.back;
}

abbrev pub decreases-loop-at : goal.decreases-loop-at
decreases-loop-at l = length l.back - l.at
