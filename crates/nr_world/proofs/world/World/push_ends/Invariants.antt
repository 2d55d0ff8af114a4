use Rattle.std.proofs.Common.{◌≡◌, length}
use Rattle.nr_world.proofs.Reporting.{EndsSoFar}
use Rattle.nr_world.proofs.world.World.push_ends.Given as goal

abbrev pub invariant-loop-at : goal.invariant-loop-at
invariant-loop-at l = EndsSoFar l.self l.ends.items l.at × (length l.ends.items ≡ l.at)
