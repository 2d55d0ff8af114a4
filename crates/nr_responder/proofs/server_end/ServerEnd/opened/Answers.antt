use Rattle.nr_responder.specs.Sound.{state_of}
use Rattle.nr_responder.proofs.KeptReceives.{opened_receives}
use Rattle.nr_responder.proofs.server_end.ServerEnd.opened.Goals as goal

pub returns-clause-of_run : goal.returns-clause-of_run
returns-clause-of_run c = λ opened link run h. opened_receives opened link run (state_of c.args.self.now) h
