use Rattle.std.proofs.Common.{◌∙◌}
use Rattle.nr_responder.specs.Sound.{state_of}
use Rattle.nr_responder.proofs.OldCalls.{heard_now, ready_heard}
use Rattle.nr_responder.proofs.server_end.ServerEnd.client.Goals as goal

pub returns-clause-of_run : goal.returns-clause-of_run
returns-clause-of_run c = λ live opened link run h. c.client.ensures ∙ (heard_now opened link run (state_of c.args.self.now) live h).client

pub returns-clause-heard : goal.returns-clause-heard
returns-clause-heard c = λ live some opened link run h. ready_heard opened link run (state_of c.args.self.now) live some h
