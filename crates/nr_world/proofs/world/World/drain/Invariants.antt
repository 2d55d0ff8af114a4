use Rattle.nr_world.proofs.LineSteps.{RoundsSoFar}
use Rattle.nr_world.proofs.world.World.drain.Given as goal

abbrev pub invariant-loop-round : goal.invariant-loop-round
invariant-loop-round l = RoundsSoFar l.initial.self l.self
