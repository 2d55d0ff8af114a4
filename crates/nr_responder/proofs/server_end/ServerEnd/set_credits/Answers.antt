use Rattle.std.proofs.Common.{Option, is_some, sym, ap, ◌∙◌}
use Rattle.nr_link.specs.declared.end.End.{End}
use Rattle.nr_responder.specs.Sound.{state_of}
use Rattle.nr_responder.proofs.GrantedCredits.{ended_granted, granted_stands}
use Rattle.nr_responder.proofs.NextCalls.{not_over}
use Rattle.nr_responder.proofs.server_end.ServerEnd.set_credits.Goals as goal

pub returns-then-is_some-clause-stands : goal.returns-then-is_some-clause-stands
returns-then-is_some-clause-stands c = λ opened link run h.
    ended_granted opened link run (state_of c.args.self.now) c.args.credits (ap (λ (o : Option End). is_some o) (sym c.end.ensures) ∙ sym c.is_some.ensures ∙ c.if-is_some.true) h

pub returns-clause-stands : goal.returns-clause-stands
returns-clause-stands c = λ opened link run h.
    granted_stands opened link run (state_of c.args.self.now) c.args.credits (sym c.end.ensures ∙ not_over c.end.result (sym c.is_some.ensures ∙ c.if-is_some.false)) h
