use Rattle.std.proofs.Common.{Option, is_some, sym, ap, ◌∙◌}
use Rattle.nr_link.specs.declared.end.End.{End}
use Rattle.nr_responder.specs.Sound.{state_of}
use Rattle.nr_responder.proofs.NextCalls.{next_over, not_over, first_xid_lem, first_none_lem, first_get, none_get}
use Rattle.nr_responder.proofs.server_end.ServerEnd.next_ready.Goals as goal

pub returns-then-is_some-clause-exact : goal.returns-then-is_some-clause-exact
returns-then-is_some-clause-exact c = λ other opened link run h.
    next_over opened link run (state_of c.args.self.now) h other (ap (λ (o : Option End). is_some o) (sym c.end.ensures) ∙ sym c.is_some.ensures ∙ c.if-is_some.true)

pub returns-in-Some-clause-exact : goal.returns-in-Some-clause-exact
returns-in-Some-clause-exact c = λ other opened link run h.
    first_xid_lem opened link run (state_of c.args.self.now) c.in-Some.first.now.xid h (sym c.end.ensures ∙ not_over c.end.result (sym c.is_some.ensures ∙ c.if-is_some.false))
    (first_get c.args.self.now.ready.items c.in-Some.first.now c.in-Some.ensures.item.3.0 c.in-Some.ensures.lookup)

pub returns-in-None-clause-exact : goal.returns-in-None-clause-exact
returns-in-None-clause-exact c = λ other opened link run h.
    first_none_lem opened link run (state_of c.args.self.now) h (sym c.end.ensures ∙ not_over c.end.result (sym c.is_some.ensures ∙ c.if-is_some.false))
    (none_get c.args.self.now.ready.items c.in-None.ensures.item.3)
