use Rattle.std.proofs.Common.{List, ◌∷◌, [], rules, refl, sym, subst, ◌∙◌}
use Rattle.nr_turnstile.specs.declared.turnstile.Pass.{Pass}
use Rattle.nr_turnstile.specs.declared.turnstile.Turnstile.{Turnstile}
use Rattle.nr_turnstile.specs.Passes.{Rests, seen_by}
use Rattle.nr_turnstile.specs.Turns.{pass_of}
use Rattle.nr_shared.specs.declared.entry.Entry.{Entry}
use Rattle.nr_shared.specs.declared.entry.Entry.TheVariants as entries
use Rattle.nr_shared.specs.declared.requester_with_sink.RequesterWithSink.{RequesterWithSink}
use Rattle.nr_shared.specs.Adding.{Adds}
use Rattle.nr_shared.specs.Callers.{HasOpenCall, IsCaller, KeepsLaw, KeepsOpen}
use Rattle.nr_shared.specs.Ending.{IsRefused}
use Rattle.nr_shared.specs.Histories.{closes_of}
use Rattle.nr_shared.specs.Standing.{Stands}
use Rattle.nr_shared.specs.Waiting.{OpensCall}
use Rattle.nr_shared.proofs.Adding.{adds_both, adds_same, got}
use Rattle.nr_shared.proofs.Asking.{keeps_got, none_closed}
use Rattle.nr_shared.proofs.Ends.{law_put_back}
use Rattle.nr_shared.proofs.Polling.{asked_same, keeps_same}
use Rattle.nr_shared.proofs.Resting.{caller_on, rests_missed, rests_on}
use Rattle.nr_shared.proofs.Submitting.{opens_call}
use Rattle.nr_shared.proofs.shared.SharedRequester.try_submit.Goals as goal

pub returns-in-Err-clause-rests : goal.returns-in-Err-clause-rests
returns-in-Err-clause-rests g c = rests_missed c.args.self.now c.args.pass.now c.try_turn.follows.lender-at-none c.requires.rests (search rules)

pub returns-in-Ok-submit_under-clause-rests : goal.returns-in-Ok-submit_under-clause-rests
returns-in-Ok-submit_under-clause-rests g c = let main = c.pass-in-Ok-submit_under-1.given.0 in let r = c.requires.rests in let t = c.in-Ok.ensures.got.1 in
    let e = c.pass-in-Ok-submit_under-1.given.1 (sym (c.submit_under.ensures.same.1 ∙ c.in-Ok.ensures.borrow)) in
    let p = c.args.pass.now.main in let q = pass_of c.in-Ok.turn in let u = pass_of c.submit_under.new.turn in let s = c.put_back.new.self.1.0 in
    let es : List Entry = entries.Submit c.args.call c.args.form c.in-Ok-submit_under.ticket ∷ [] in
    rests_on c.args.self.now c.args.pass.now (record { main = main; source = c.args.pass.now.source }) r
    (subst (λ (z : Pass (RequesterWithSink g.row.O.Denot g.row.C.Denot) Entry). Rests c.args.self.now.main z) (sym e)
    (subst (λ (t : Turnstile (RequesterWithSink g.row.O.Denot g.row.C.Denot) Entry). Rests t c.put_back.new.self.1.0) (c.submit_under.ensures.same.0 ∙ c.in-Ok.ensures.got.0) c.put_back.ensures.0))
    r.source refl
    (subst (λ (z : Pass (RequesterWithSink g.row.O.Denot g.row.C.Denot) Entry). IsCaller {O = g.row.O.Denot} z) (sym e)
    (caller_on p s es r.caller (adds_same p u s es (adds_both p q u [] es (got (Stands g.O.LinkSink.link g.O.Sink.taken g.O.Sink.faults g.C.CallRule.allows) closes_of c.in-Ok.turn.turnstile.now p q t) c.in-Ok-submit_under.ensures.accepted.0) c.put_back.ensures.1 c.put_back.ensures.2) ((refl, λ k is. absurd (none_closed k is)), tt))) (subst (λ (z : Pass (RequesterWithSink g.row.O.Denot g.row.C.Denot) Entry). KeepsLaw (seen_by z)) (sym e) (law_put_back g.O.LinkSink.link g.O.Sink.taken g.O.Sink.faults g.C.CallRule.allows c.submit_under.new.turn s c.submit_under.ensures.ready c.put_back.ensures.1))

pub returns-in-Ok-submit_under-clause-tried : goal.returns-in-Ok-submit_under-clause-tried
returns-in-Ok-submit_under-clause-tried g c = let t = c.in-Ok.ensures.got.1 in let a = c.in-Ok-submit_under.ensures.accepted in
    let e = c.pass-in-Ok-submit_under-1.given.1 (sym (c.submit_under.ensures.same.1 ∙ c.in-Ok.ensures.borrow)) in
    let p = c.args.pass.now.main in let q = pass_of c.in-Ok.turn in let r = pass_of c.submit_under.new.turn in let s = c.put_back.new.self.1.0 in
    subst (λ (z : Pass (RequesterWithSink g.row.O.Denot g.row.C.Denot) Entry). OpensCall {O = g.row.O.Denot} p z c.args.call c.args.form c.in-Ok-submit_under.ticket × HasOpenCall {O = g.row.O.Denot} z c.in-Ok-submit_under.ticket) (sym e) (
      opens_call p q r s c.args.call c.args.form c.in-Ok-submit_under.ticket (got (Stands g.O.LinkSink.link g.O.Sink.taken g.O.Sink.faults g.C.CallRule.allows) closes_of c.in-Ok.turn.turnstile.now p q t) (keeps_got g.O.LinkSink.link g.O.Sink.taken g.O.Sink.faults g.C.CallRule.allows c.in-Ok.turn.turnstile.now p q c.requires.rests.caller.lies t)
          a.0 c.in-Ok-submit_under.ensures.seen c.in-Ok-submit_under.ensures.keeps c.in-Ok-submit_under.ensures.opened c.put_back.ensures.1 c.put_back.ensures.2,
      asked_same r s c.in-Ok-submit_under.ticket c.put_back.ensures.1 c.put_back.ensures.2 a.1,
    )

pub returns-in-Err-submit_under-clause-rests : goal.returns-in-Err-submit_under-clause-rests
returns-in-Err-submit_under-clause-rests g c = let main = c.pass-in-Err-submit_under-1.given.0 in let r = c.requires.rests in let t = c.in-Ok.ensures.got.1 in
    let e = c.pass-in-Err-submit_under-1.given.1 (sym (c.submit_under.ensures.same.1 ∙ c.in-Ok.ensures.borrow)) in
    let p = c.args.pass.now.main in let q = pass_of c.in-Ok.turn in let u = pass_of c.submit_under.new.turn in let s = c.put_back-in-Err-submit_under.new.self.1.0 in
    rests_on c.args.self.now c.args.pass.now (record { main = main; source = c.args.pass.now.source }) r
    (subst (λ (z : Pass (RequesterWithSink g.row.O.Denot g.row.C.Denot) Entry). Rests c.args.self.now.main z) (sym e)
    (subst (λ (t : Turnstile (RequesterWithSink g.row.O.Denot g.row.C.Denot) Entry). Rests t c.put_back-in-Err-submit_under.new.self.1.0) (c.submit_under.ensures.same.0 ∙ c.in-Ok.ensures.got.0) c.put_back-in-Err-submit_under.ensures.0))
    r.source refl
    (subst (λ (z : Pass (RequesterWithSink g.row.O.Denot g.row.C.Denot) Entry). IsCaller {O = g.row.O.Denot} z) (sym e)
    (caller_on p s [] r.caller (adds_same p u s [] (adds_both p q u [] [] (got (Stands g.O.LinkSink.link g.O.Sink.taken g.O.Sink.faults g.C.CallRule.allows) closes_of c.in-Ok.turn.turnstile.now p q t) c.in-Err-submit_under.ensures.refused) c.put_back-in-Err-submit_under.ensures.1 c.put_back-in-Err-submit_under.ensures.2) tt)) (subst (λ (z : Pass (RequesterWithSink g.row.O.Denot g.row.C.Denot) Entry). KeepsLaw (seen_by z)) (sym e) (law_put_back g.O.LinkSink.link g.O.Sink.taken g.O.Sink.faults g.C.CallRule.allows c.submit_under.new.turn s c.submit_under.ensures.ready c.put_back-in-Err-submit_under.ensures.1))

pub returns-in-Err-submit_under-clause-tried : goal.returns-in-Err-submit_under-clause-tried
returns-in-Err-submit_under-clause-tried g c = let t = c.in-Ok.ensures.got.1 in let a = c.in-Err-submit_under.ensures.refused in
    let e = c.pass-in-Err-submit_under-1.given.1 (sym (c.submit_under.ensures.same.1 ∙ c.in-Ok.ensures.borrow)) in
    let p = c.args.pass.now.main in let q = pass_of c.in-Ok.turn in let r = pass_of c.submit_under.new.turn in let s = c.put_back-in-Err-submit_under.new.self.1.0 in (
      subst (λ (z : Pass (RequesterWithSink g.row.O.Denot g.row.C.Denot) Entry). Adds {M = RequesterWithSink g.row.O.Denot g.row.C.Denot} {E = Entry} p z []) (sym e)
          (adds_same p r s [] (adds_both p q r [] [] (got (Stands g.O.LinkSink.link g.O.Sink.taken g.O.Sink.faults g.C.CallRule.allows) closes_of c.in-Ok.turn.turnstile.now p q t) a) c.put_back-in-Err-submit_under.ensures.1 c.put_back-in-Err-submit_under.ensures.2),
      (
        subst (λ (z : Pass (RequesterWithSink g.row.O.Denot g.row.C.Denot) Entry). KeepsOpen {O = g.row.O.Denot} p z) (sym e)
            (λ k o. keeps_same r s c.put_back-in-Err-submit_under.ensures.1 c.put_back-in-Err-submit_under.ensures.2 k (c.in-Err-submit_under.ensures.keeps k (keeps_got g.O.LinkSink.link g.O.Sink.taken g.O.Sink.faults g.C.CallRule.allows c.in-Ok.turn.turnstile.now p q c.requires.rests.caller.lies t k o))),
        (
          c.in-Err-submit_under.ensures.returned,
          subst (λ (z : Pass (RequesterWithSink g.row.O.Denot g.row.C.Denot) Entry). IsRefused c.in-Err-submit_under.refused c.args.call c.args.form (seen_by z)) (sym e)
              (subst (λ (l : List Entry). IsRefused c.in-Err-submit_under.refused c.args.call c.args.form l) (sym (c.put_back-in-Err-submit_under.ensures.1 ∙ c.in-Err-submit_under.ensures.kept)) c.in-Err-submit_under.ensures.why),
        ),
      ),
    )
