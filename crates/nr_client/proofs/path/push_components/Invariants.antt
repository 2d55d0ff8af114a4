use Rattle.std.proofs.Common.{length, ◌-◌}
use Rattle.nr_client.proofs.Pieces.{Pushed}
use Rattle.nr_client.proofs.path.push_components.Given as goal

abbrev pub invariant-loop-at : goal.invariant-loop-at
invariant-loop-at l = Pushed l.fn.names l.path l.names l.at

abbrev pub decreases-loop-at : goal.decreases-loop-at
decreases-loop-at l = length l.path - l.at
