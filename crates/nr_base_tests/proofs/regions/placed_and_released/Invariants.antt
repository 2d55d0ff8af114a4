use Rattle.nr_regions.specs.RegisteredMemory.{IsHeld}
use Rattle.nr_base_tests.proofs.regions.placed_and_released.Given as goal

abbrev pub invariant-loop-row : goal.invariant-loop-row
invariant-loop-row g l = IsHeld l.regions.memory l.registration
