use Rattle.std.proofs.Common.{◌≡◌, length}
use Rattle.nr_world.proofs.Rounds.{RoundSoFar}
use Rattle.nr_world.proofs.world.World.round.Given as goal

abbrev pub invariant-loop-at : goal.invariant-loop-at
invariant-loop-at l = (length l.self.links.items ≡ l.at-end) × RoundSoFar l.initial.self l.self l.at
