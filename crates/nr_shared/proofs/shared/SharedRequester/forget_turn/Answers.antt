use Rattle.std.proofs.Common.{sym, subst, ◌∙◌}
use Rattle.nr_turnstile.specs.declared.turnstile.Pass.{Pass}
use Rattle.nr_turnstile.specs.Passes.{seen_by}
use Rattle.nr_turnstile.specs.Turns.{pass_of}
use Rattle.nr_shared.specs.declared.entry.Entry.{Entry}
use Rattle.nr_shared.specs.declared.requester_with_sink.RequesterWithSink.{RequesterWithSink}
use Rattle.nr_shared.specs.Histories.{closes_of}
use Rattle.nr_shared.specs.Callers.{KeepsLaw}
use Rattle.nr_shared.specs.Standing.{Stands}
use Rattle.nr_shared.specs.Waiting.{ForgetsCall}
use Rattle.nr_shared.proofs.Adding.{got}
use Rattle.nr_shared.proofs.Asking.{open_call_got, keeps_got}
use Rattle.nr_shared.proofs.Polling.{forgets_after}
use Rattle.nr_shared.proofs.Ends.{law_put_back}
use Rattle.nr_shared.proofs.shared.SharedRequester.forget_turn.Goals as goal

pub forget_under-requires-clause-has_call : goal.forget_under-requires-clause-has_call
forget_under-requires-clause-has_call g c = let t = c.take_turn-turn.ensures.got.1 in
    open_call_got g.O.LinkSink.link g.O.Sink.taken g.O.Sink.faults g.C.CallRule.allows c.take_turn-turn.result.turnstile.now c.args.main.now (pass_of c.take_turn-turn.result) c.args.ticket t c.requires.has_call

pub returns-clause-forgotten : goal.returns-clause-forgotten
returns-clause-forgotten g c = let t = c.take_turn-turn.ensures.got.1 in let q = pass_of c.take_turn-turn.result in
    subst (λ (z : Pass (RequesterWithSink g.row.O.Denot g.row.C.Denot) Entry). ForgetsCall {O = g.row.O.Denot} c.args.main.now z c.args.ticket) (sym (c.main-1.given.1 (sym (c.forget_under.ensures.same.1 ∙ c.take_turn-turn.ensures.borrow))))
    (forgets_after c.args.main.now q (pass_of c.forget_under.new.turn) c.put_back.new.self.1.0 c.args.ticket (got (Stands g.O.LinkSink.link g.O.Sink.taken g.O.Sink.faults g.C.CallRule.allows) closes_of c.take_turn-turn.result.turnstile.now c.args.main.now q t)
    (keeps_got g.O.LinkSink.link g.O.Sink.taken g.O.Sink.faults g.C.CallRule.allows c.take_turn-turn.result.turnstile.now c.args.main.now (pass_of c.take_turn-turn.result) c.requires.has_call.lies t) c.forget_under.ensures.forgotten c.put_back.ensures.1 c.put_back.ensures.2)

pub returns-clause-law : goal.returns-clause-law
returns-clause-law g c =
    subst (λ (z : Pass (RequesterWithSink g.row.O.Denot g.row.C.Denot) Entry). KeepsLaw (seen_by z)) (sym (c.main-1.given.1 (sym (c.forget_under.ensures.same.1 ∙ c.take_turn-turn.ensures.borrow))))
    (law_put_back g.O.LinkSink.link g.O.Sink.taken g.O.Sink.faults g.C.CallRule.allows c.forget_under.new.turn c.put_back.new.self.1.0 c.forget_under.ensures.ready c.put_back.ensures.1)
