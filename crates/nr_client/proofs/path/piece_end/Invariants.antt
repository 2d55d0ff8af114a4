use Rattle.std.proofs.Common.{length, ◌-◌, ◌≡◌, ◌≤◌, ◌+◌, drop}
use Rattle.nr_client.specs.private.Pieces.{piece_length}
use Rattle.nr_client.proofs.path.piece_end.Given as goal

abbrev pub invariant-loop-at : goal.invariant-loop-at
invariant-loop-at l = (l.at + piece_length (drop l.at l.path) ≡ l.fn.from + piece_length (drop l.fn.from l.path)) × (l.at ≤ length l.path)

abbrev pub decreases-loop-at : goal.decreases-loop-at
decreases-loop-at l = length l.path - l.at
