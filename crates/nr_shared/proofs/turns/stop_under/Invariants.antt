use Rattle.nr_turnstile.specs.Passes.{seen_by}
use Rattle.nr_turnstile.specs.Turns.{pass_of}
use Rattle.nr_shared.specs.Draining.{stopped_after}
use Rattle.nr_shared.proofs.turns.stop_under.Given as goal

abbrev pub ghosts-append_stopped : goal.ghosts-append_stopped
ghosts-append_stopped g a = record { entry = stopped_after (seen_by (pass_of a.turn.now)) a._cause }
