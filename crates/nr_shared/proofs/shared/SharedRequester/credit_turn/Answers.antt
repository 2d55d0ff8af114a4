use Rattle.std.proofs.Common.{List, [], sym, subst, ◌∙◌}
use Rattle.nr_turnstile.specs.declared.turnstile.Pass.{Pass}
use Rattle.nr_turnstile.specs.Passes.{seen_by}
use Rattle.nr_turnstile.specs.Turns.{pass_of}
use Rattle.nr_shared.specs.declared.entry.Entry.{Entry}
use Rattle.nr_shared.specs.declared.requester_with_sink.RequesterWithSink.{RequesterWithSink}
use Rattle.nr_shared.specs.Histories.{closes_of}
use Rattle.nr_shared.specs.Standing.{Stands}
use Rattle.nr_shared.specs.Adding.{Adds}
use Rattle.nr_shared.specs.Sharing.{SaysCredit, SaysCreditOutOfMemory}
use Rattle.nr_shared.specs.Callers.{KeepsLaw, KeepsOpen}
use Rattle.nr_shared.proofs.Adding.{adds_same, got}
use Rattle.nr_shared.proofs.Asking.{keeps_got}
use Rattle.nr_shared.proofs.Polling.{keeps_same}
use Rattle.nr_shared.proofs.Ends.{law_put_back}
use Rattle.nr_shared.proofs.shared.SharedRequester.credit_turn.Goals as goal

pub returns-clause-added : goal.returns-clause-added
returns-clause-added g c = let t = c.take_turn-turn.ensures.got.1 in let p = c.args.main.now in let q = pass_of c.take_turn-turn.result in let s = c.put_back.new.self.1.0 in
    subst (λ (z : Pass (RequesterWithSink g.row.O.Denot g.row.C.Denot) Entry). Adds {M = RequesterWithSink g.row.O.Denot g.row.C.Denot} {E = Entry} p z []) (sym (c.main-1.given.1 (sym (c.credit_under-has.ensures.same.1 ∙ c.take_turn-turn.ensures.borrow))))
    (adds_same p q s [] (got (Stands g.O.LinkSink.link g.O.Sink.taken g.O.Sink.faults g.C.CallRule.allows) closes_of c.take_turn-turn.result.turnstile.now p q t) (c.put_back.ensures.1 ∙ c.credit_under-has.ensures.seen) (c.put_back.ensures.2 ∙ c.credit_under-has.ensures.mine))

pub returns-clause-credit : goal.returns-clause-credit
returns-clause-credit g c =
    subst (λ (z : Pass (RequesterWithSink g.row.O.Denot g.row.C.Denot) Entry). SaysCredit c.credit_under-has.result (seen_by z)) (sym (c.main-1.given.1 (sym (c.credit_under-has.ensures.same.1 ∙ c.take_turn-turn.ensures.borrow))))
    (subst (λ (l : List Entry). SaysCredit c.credit_under-has.result l) (sym (c.put_back.ensures.1 ∙ c.credit_under-has.ensures.seen)) c.credit_under-has.ensures.credit)

pub returns-clause-keeps : goal.returns-clause-keeps
returns-clause-keeps g c = let t = c.take_turn-turn.ensures.got.1 in let p = c.args.main.now in let q = pass_of c.take_turn-turn.result in let s = c.put_back.new.self.1.0 in
    subst (λ (z : Pass (RequesterWithSink g.row.O.Denot g.row.C.Denot) Entry). KeepsOpen {O = g.row.O.Denot} p z) (sym (c.main-1.given.1 (sym (c.credit_under-has.ensures.same.1 ∙ c.take_turn-turn.ensures.borrow))))
    (λ k o. keeps_same q s (c.put_back.ensures.1 ∙ c.credit_under-has.ensures.seen) (c.put_back.ensures.2 ∙ c.credit_under-has.ensures.mine) k (keeps_got g.O.LinkSink.link g.O.Sink.taken g.O.Sink.faults g.C.CallRule.allows c.take_turn-turn.result.turnstile.now p q c.requires.lies t k o))

pub returns-clause-law : goal.returns-clause-law
returns-clause-law g c =
    subst (λ (z : Pass (RequesterWithSink g.row.O.Denot g.row.C.Denot) Entry). KeepsLaw (seen_by z)) (sym (c.main-1.given.1 (sym (c.credit_under-has.ensures.same.1 ∙ c.take_turn-turn.ensures.borrow))))
    (law_put_back g.O.LinkSink.link g.O.Sink.taken g.O.Sink.faults g.C.CallRule.allows c.credit_under-has.new.turn c.put_back.new.self.1.0 c.credit_under-has.ensures.ready c.put_back.ensures.1)

pub returns-clause-credit_out_of_memory : goal.returns-clause-credit_out_of_memory
returns-clause-credit_out_of_memory g c =
    subst (λ (z : Pass (RequesterWithSink g.row.O.Denot g.row.C.Denot) Entry). SaysCreditOutOfMemory c.credit_under-has.result (seen_by z)) (sym (c.main-1.given.1 (sym (c.credit_under-has.ensures.same.1 ∙ c.take_turn-turn.ensures.borrow))))
    (subst (λ (l : List Entry). SaysCreditOutOfMemory c.credit_under-has.result l) (sym (c.put_back.ensures.1 ∙ c.credit_under-has.ensures.seen)) c.credit_under-has.ensures.credit_out_of_memory)
