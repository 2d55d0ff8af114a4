use Rattle.std.proofs.Common.{◌≡◌}
use Rattle.nr_texts.specs.declared.opening.Opening.{Opening}
use Rattle.nr_world.proofs.OpenLinks.{OpenedSoFar}
use Rattle.nr_world.proofs.world.World.openings.Given as goal

abbrev pub invariant-loop-at : goal.invariant-loop-at
invariant-loop-at l = (opening : Opening) → opening.clients ≡ l.clients → OpenedSoFar opening l.initial.self l.self l.at
