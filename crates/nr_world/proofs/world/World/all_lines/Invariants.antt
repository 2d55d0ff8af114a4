use Rattle.nr_world.proofs.LineSteps.{LinesSoFar}
use Rattle.nr_world.proofs.world.World.all_lines.Given as goal

abbrev pub invariant-loop-line : goal.invariant-loop-line
invariant-loop-line l = LinesSoFar l.initial.self l.self l.lines l.line-index
