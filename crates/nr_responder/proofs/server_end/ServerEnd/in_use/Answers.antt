use Rattle.std.proofs.Common.{arith}
use Rattle.std.proofs.lemmas.List.{length-map}
use Rattle.nr_responder.specs.Sound.{state_of}
use Rattle.nr_responder.specs.Views.{call_view}
use Rattle.nr_responder.proofs.Counts.{in_use_of_run}
use Rattle.nr_responder.proofs.server_end.ServerEnd.in_use.Goals as goal

pub returns-clause-of_run : goal.returns-clause-of_run
returns-clause-of_run c = λ live opened link run h.
    omega (arith, c.in_use_inner.ensures, in_use_of_run opened link run (state_of c.args.self.now) live h, length-map c.args.self.now.calls.items call_view)
