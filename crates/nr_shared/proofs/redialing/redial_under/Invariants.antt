use Rattle.nr_turnstile.specs.Passes.{seen_by}
use Rattle.nr_turnstile.specs.Turns.{pass_of}
use Rattle.nr_shared.specs.Draining.{initial_sink, rejoined_after}
use Rattle.nr_shared.proofs.redialing.redial_under.Given as goal

abbrev pub ghosts-append_rejoin : goal.ghosts-append_rejoin
ghosts-append_rejoin g a = record { entry = rejoined_after (seen_by (pass_of a.turn.now)) (initial_sink g.O.LinkSink.link g.O.Sink.taken g.O.Sink.faults a._sink.now.value) }
