use Rattle.std.proofs.Common.{◌∙◌}
use Rattle.nr_responder.specs.Sound.{state_of}
use Rattle.nr_responder.proofs.Counts.{invalidates_of_run}
use Rattle.nr_responder.proofs.server_end.ServerEnd.invalidates.Goals as goal

pub returns-clause-of_run : goal.returns-clause-of_run
returns-clause-of_run c = λ other opened link run h. c.invalidates.ensures ∙ invalidates_of_run opened link run (state_of c.args.self.now) other h
