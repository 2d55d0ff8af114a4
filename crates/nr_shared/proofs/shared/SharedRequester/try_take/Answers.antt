use Rattle.std.proofs.Common.{rules, refl, sym, subst, ◌∙◌}
use Rattle.nr_turnstile.specs.declared.turnstile.Pass.{Pass}
use Rattle.nr_turnstile.specs.declared.turnstile.Turnstile.{Turnstile}
use Rattle.nr_turnstile.specs.Passes.{Rests, seen_by}
use Rattle.nr_turnstile.specs.Turns.{pass_of}
use Rattle.nr_shared.specs.declared.entry.Entry.{Entry}
use Rattle.nr_shared.specs.declared.requester_with_sink.RequesterWithSink.{RequesterWithSink}
use Rattle.nr_shared.specs.Callers.{IsCaller, KeepsLaw}
use Rattle.nr_shared.specs.Histories.{closes_of}
use Rattle.nr_shared.specs.Standing.{Stands}
use Rattle.nr_shared.specs.Waiting.{IsTakeTurn}
use Rattle.nr_shared.proofs.Adding.{got}
use Rattle.nr_shared.proofs.Asking.{open_call_got, keeps_got}
use Rattle.nr_shared.proofs.Ends.{law_put_back}
use Rattle.nr_shared.proofs.Polling.{caller_tries, tries_after}
use Rattle.nr_shared.proofs.Resting.{rests_missed, rests_on}
use Rattle.nr_shared.proofs.shared.SharedRequester.try_take.Goals as goal

pub try_take_under-taken-requires-clause-has_call : goal.try_take_under-taken-requires-clause-has_call
try_take_under-taken-requires-clause-has_call g c = let t = c.in-Ok.ensures.got.1 in
    open_call_got g.O.LinkSink.link g.O.Sink.taken g.O.Sink.faults g.C.CallRule.allows c.in-Ok.turn.turnstile.now c.args.pass.now.main (pass_of c.in-Ok.turn) c.args.ticket t c.requires.has_call

pub returns-in-Err-clause-rests : goal.returns-in-Err-clause-rests
returns-in-Err-clause-rests g c = rests_missed c.args.self.now c.args.pass.now c.try_turn.follows.lender-at-none c.requires.rests (search rules)

pub returns-clause-rests : goal.returns-clause-rests
returns-clause-rests g c = let main = c.pass-2-1.given.0 in let r = c.requires.rests in let t = c.in-Ok.ensures.got.1 in
    let e = c.pass-2-1.given.1 (sym (c.try_take_under-taken.ensures.same.1 ∙ c.in-Ok.ensures.borrow)) in
    let p = c.args.pass.now.main in let q = pass_of c.in-Ok.turn in let u = pass_of c.try_take_under-taken.new.turn in let s = c.put_back.new.self.1.0 in
    let tries = tries_after p q u s c.args.ticket c.try_take_under-taken.result (got (Stands g.O.LinkSink.link g.O.Sink.taken g.O.Sink.faults g.C.CallRule.allows) closes_of c.in-Ok.turn.turnstile.now p q t)
    (keeps_got g.O.LinkSink.link g.O.Sink.taken g.O.Sink.faults g.C.CallRule.allows c.in-Ok.turn.turnstile.now p q r.caller.lies t) c.try_take_under-taken.ensures.taken c.put_back.ensures.1 c.put_back.ensures.2 in
    rests_on c.args.self.now c.args.pass.now (record { main = main; source = c.args.pass.now.source }) r
    (subst (λ (z : Pass (RequesterWithSink g.row.O.Denot g.row.C.Denot) Entry). Rests c.args.self.now.main z) (sym e)
    (subst (λ (t : Turnstile (RequesterWithSink g.row.O.Denot g.row.C.Denot) Entry). Rests t c.put_back.new.self.1.0) (c.try_take_under-taken.ensures.same.0 ∙ c.in-Ok.ensures.got.0) c.put_back.ensures.0))
    r.source refl
    (subst (λ (z : Pass (RequesterWithSink g.row.O.Denot g.row.C.Denot) Entry). IsCaller {O = g.row.O.Denot} z) (sym e) (caller_tries p s c.args.ticket c.try_take_under-taken.result r.caller c.requires.has_call tries))
    (subst (λ (z : Pass (RequesterWithSink g.row.O.Denot g.row.C.Denot) Entry). KeepsLaw (seen_by z)) (sym e) (law_put_back g.O.LinkSink.link g.O.Sink.taken g.O.Sink.faults g.C.CallRule.allows c.try_take_under-taken.new.turn s c.try_take_under-taken.ensures.ready c.put_back.ensures.1))

pub returns-clause-tried : goal.returns-clause-tried
returns-clause-tried g c = let r = c.requires.rests in let t = c.in-Ok.ensures.got.1 in
    let e = c.pass-2-1.given.1 (sym (c.try_take_under-taken.ensures.same.1 ∙ c.in-Ok.ensures.borrow)) in
    let p = c.args.pass.now.main in let q = pass_of c.in-Ok.turn in let u = pass_of c.try_take_under-taken.new.turn in let s = c.put_back.new.self.1.0 in
    subst (λ (z : Pass (RequesterWithSink g.row.O.Denot g.row.C.Denot) Entry). IsTakeTurn p z c.args.ticket c.try_take_under-taken.result) (sym e)
    (tries_after p q u s c.args.ticket c.try_take_under-taken.result (got (Stands g.O.LinkSink.link g.O.Sink.taken g.O.Sink.faults g.C.CallRule.allows) closes_of c.in-Ok.turn.turnstile.now p q t)
    (keeps_got g.O.LinkSink.link g.O.Sink.taken g.O.Sink.faults g.C.CallRule.allows c.in-Ok.turn.turnstile.now p q r.caller.lies t) c.try_take_under-taken.ensures.taken c.put_back.ensures.1 c.put_back.ensures.2)
