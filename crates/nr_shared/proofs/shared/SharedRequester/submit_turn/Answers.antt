use Rattle.std.proofs.Common.{sym, subst, ◌∙◌}
use Rattle.nr_turnstile.specs.declared.turnstile.Pass.{Pass}
use Rattle.nr_turnstile.specs.Passes.{seen_by}
use Rattle.nr_turnstile.specs.Turns.{pass_of}
use Rattle.nr_shared.specs.declared.entry.Entry.{Entry}
use Rattle.nr_shared.specs.declared.requester_with_sink.RequesterWithSink.{RequesterWithSink}
use Rattle.nr_shared.specs.Histories.{closes_of}
use Rattle.nr_shared.specs.Callers.{KeepsLaw}
use Rattle.nr_shared.specs.Standing.{Stands}
use Rattle.nr_shared.specs.Waiting.{IsSubmitTurn}
use Rattle.nr_shared.proofs.Adding.{got}
use Rattle.nr_shared.proofs.Asking.{keeps_got}
use Rattle.nr_shared.proofs.Submitting.{submit_turns_after}
use Rattle.nr_shared.proofs.Ends.{law_put_back}
use Rattle.nr_shared.proofs.shared.SharedRequester.submit_turn.Goals as goal

pub returns-clause-submitted : goal.returns-clause-submitted
returns-clause-submitted g c = let t = c.take_turn-turn.ensures.got.1 in
    subst (λ (z : Pass (RequesterWithSink g.row.O.Denot g.row.C.Denot) Entry). IsSubmitTurn c.args.main.now z c.args.call c.args.form c.submit_if_credit_under-tried.result) (sym (c.main-1.given.1 (sym (c.submit_if_credit_under-tried.ensures.same.1 ∙ c.take_turn-turn.ensures.borrow))))
    (submit_turns_after c.args.main.now (pass_of c.take_turn-turn.result) (pass_of c.submit_if_credit_under-tried.new.turn) c.put_back.new.self.1.0 c.args.call c.args.form c.submit_if_credit_under-tried.result
    (got (Stands g.O.LinkSink.link g.O.Sink.taken g.O.Sink.faults g.C.CallRule.allows) closes_of c.take_turn-turn.result.turnstile.now c.args.main.now (pass_of c.take_turn-turn.result) t) (keeps_got g.O.LinkSink.link g.O.Sink.taken g.O.Sink.faults g.C.CallRule.allows c.take_turn-turn.result.turnstile.now c.args.main.now (pass_of c.take_turn-turn.result) c.requires.lies t) c.submit_if_credit_under-tried.ensures.submitted c.put_back.ensures.1 c.put_back.ensures.2)

pub returns-clause-law : goal.returns-clause-law
returns-clause-law g c =
    subst (λ (z : Pass (RequesterWithSink g.row.O.Denot g.row.C.Denot) Entry). KeepsLaw (seen_by z)) (sym (c.main-1.given.1 (sym (c.submit_if_credit_under-tried.ensures.same.1 ∙ c.take_turn-turn.ensures.borrow))))
    (law_put_back g.O.LinkSink.link g.O.Sink.taken g.O.Sink.faults g.C.CallRule.allows c.submit_if_credit_under-tried.new.turn c.put_back.new.self.1.0 c.submit_if_credit_under-tried.ensures.ready c.put_back.ensures.1)
