use Rattle.nr_turnstile.specs.Passes.{seen_by}
use Rattle.nr_turnstile.specs.Turns.{pass_of}
use Rattle.nr_shared.specs.Draining.{fed_after}
use Rattle.nr_shared.proofs.turns.feed_under.Given as goal

abbrev pub ghosts-append_fed : goal.ghosts-append_fed
ghosts-append_fed g a = record { entry = fed_after (seen_by (pass_of a.turn.now)) a._out_of_memory a._piece.now }
