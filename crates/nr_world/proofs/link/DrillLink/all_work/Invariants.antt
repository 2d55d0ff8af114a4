use Rattle.nr_world.proofs.ReadyCalls.{HasWorked}
use Rattle.nr_world.proofs.link.DrillLink.all_work.Given as goal

abbrev pub invariant-loop-at : goal.invariant-loop-at
invariant-loop-at l = HasWorked l._at l.seconds l.initial.self l.self l.initial.marks l.marks l.initial.server l.server
