use Rattle.std.proofs.Common.{[], ◌∷◌}
use Rattle.nr_turnstile_tests.proofs.open.open_feeder.Given as goal

abbrev pub ghosts-opened : goal.ghosts-opened
ghosts-opened a = record { noted = a._noted.now ∷ [] }
