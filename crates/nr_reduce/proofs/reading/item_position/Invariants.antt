use Rattle.std.proofs.Common.{length, drop, ◌-◌, ◌≡◌, ◌≤◌}
use Rattle.nr_reduce.specs.Chunks.{item_position}
use Rattle.nr_reduce.proofs.reading.item_position.Given as goal

abbrev pub invariant-loop-at : goal.invariant-loop-at
invariant-loop-at l = record {
  within : l.at ≤ length l.read;
  left : item_position (drop l.at l.read) ≡ item_position l.read;
}

abbrev pub decreases-loop-at : goal.decreases-loop-at
decreases-loop-at l = length l.read - l.at
