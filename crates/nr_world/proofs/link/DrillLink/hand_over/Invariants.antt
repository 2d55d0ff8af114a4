use Rattle.std.proofs.Common.{length, ◌-◌}
use Rattle.nr_world.proofs.HandSteps.{IsHanding}
use Rattle.nr_world.proofs.link.DrillLink.hand_over.Given as goal

abbrev pub invariant-calls : goal.invariant-calls
invariant-calls l = IsHanding l.at l.fn.self l.self l.fn.marks l.marks

abbrev pub decreases-calls : goal.decreases-calls
decreases-calls l = length l.self.awaited - l.at
