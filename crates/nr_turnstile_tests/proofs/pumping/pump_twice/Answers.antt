use Rattle.nr_turnstile.specs.Passes.{home_of, id_of}
use Rattle.nr_turnstile_tests.proofs.Noted.{over_more}
use Rattle.nr_turnstile_tests.proofs.pumping.pump_twice.Goals as goal

pub pump-requires-2-clause-over : goal.pump-requires-2-clause-over
pump-requires-2-clause-over g c = over_more (home_of c.split-inner.result) (id_of c.in_ok-counter.counter) c.in_ok-feeder.outer c.pump.new.pass c.in_ok-feeder.ensures.1 c.split-inner.ensures.new.0.0 c.pump.ensures.seen
