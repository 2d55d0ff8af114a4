use Rattle.std.proofs.Common.{◌∷◌, [], List, rules, refl, sym, subst, ◌∙◌}
use Rattle.nr_turnstile.specs.declared.turnstile.Pass.{Pass}
use Rattle.nr_turnstile.specs.declared.turnstile.Turnstile.{Turnstile}
use Rattle.nr_turnstile.specs.Passes.{Rests, mine_of, seen_by}
use Rattle.nr_turnstile.specs.Turns.{pass_of}
use Rattle.nr_requester.specs.Buffers.{bytes_of_buffers}
use Rattle.nr_shared.specs.declared.entry.Entry.{Entry}
use Rattle.nr_shared.specs.declared.entry.Entry.TheVariants as entries
use Rattle.nr_shared.specs.declared.requester_with_sink.RequesterWithSink.{RequesterWithSink}
use Rattle.nr_shared.specs.Adding.{Adds}
use Rattle.nr_shared.specs.Callers.{IsCaller, KeepsLaw, KeepsOthers}
use Rattle.nr_shared.specs.Histories.{closes_of}
use Rattle.nr_shared.specs.Standing.{Stands}
use Rattle.nr_shared.proofs.Adding.{adds_both, adds_same, got}
use Rattle.nr_shared.proofs.Asking.{open_call_got, asked_on, closes_own, keeps_got}
use Rattle.nr_shared.proofs.Ends.{law_put_back}
use Rattle.nr_shared.proofs.Polling.{keeps_same}
use Rattle.nr_shared.proofs.Resting.{caller_on, rests_missed, rests_on}
use Rattle.nr_shared.proofs.shared.SharedRequester.try_revoke.Goals as goal

pub revoke_under-call-requires-clause-has_call : goal.revoke_under-call-requires-clause-has_call
revoke_under-call-requires-clause-has_call g c = let t = c.in-Ok.ensures.got.1 in
    open_call_got g.O.LinkSink.link g.O.Sink.taken g.O.Sink.faults g.C.CallRule.allows c.in-Ok.turn.turnstile.now c.args.pass.now.main (pass_of c.in-Ok.turn) c.args.ticket t c.requires.has_call

pub returns-in-Err-clause-rests : goal.returns-in-Err-clause-rests
returns-in-Err-clause-rests g c = rests_missed c.args.self.now c.args.pass.now c.try_turn.follows.lender-at-none c.requires.rests (search rules)

pub returns-clause-rests : goal.returns-clause-rests
returns-clause-rests g c = let main = c.pass-2-1.given.0 in let r = c.requires.rests in let t = c.in-Ok.ensures.got.1 in
    let e = c.pass-2-1.given.1 (sym (c.revoke_under-call.ensures.same.1 ∙ c.in-Ok.ensures.borrow)) in
    let p = c.args.pass.now.main in let q = pass_of c.in-Ok.turn in let u = pass_of c.revoke_under-call.new.turn in let s = c.put_back.new.self.1.0 in
    let a = c.requires.has_call in
    let b = (c.revoke_under-call.ensures.revoked a.at a.call (asked_on (seen_by p) (seen_by q) c.args.ticket a.at a.call t.3 a.is_call) (keeps_got g.O.LinkSink.link g.O.Sink.taken g.O.Sink.faults g.C.CallRule.allows c.in-Ok.turn.turnstile.now p q r.caller.lies t a.at a.stays)).1.0 in
    let es : List Entry = entries.Revoke c.args.ticket (bytes_of_buffers c.revoke_under-call.result.1) a.at ∷ [] in
    rests_on c.args.self.now c.args.pass.now (record { main = main; source = c.args.pass.now.source }) r
    (subst (λ (z : Pass (RequesterWithSink g.row.O.Denot g.row.C.Denot) Entry). Rests c.args.self.now.main z) (sym e)
    (subst (λ (t : Turnstile (RequesterWithSink g.row.O.Denot g.row.C.Denot) Entry). Rests t c.put_back.new.self.1.0) (c.revoke_under-call.ensures.same.0 ∙ c.in-Ok.ensures.got.0) c.put_back.ensures.0))
    r.source refl
    (subst (λ (z : Pass (RequesterWithSink g.row.O.Denot g.row.C.Denot) Entry). IsCaller {O = g.row.O.Denot} z) (sym e)
    (caller_on p s es r.caller (adds_same p u s es (adds_both p q u [] es (got (Stands g.O.LinkSink.link g.O.Sink.taken g.O.Sink.faults g.C.CallRule.allows) closes_of c.in-Ok.turn.turnstile.now p q t) b) c.put_back.ensures.1 c.put_back.ensures.2) ((refl, λ k is. closes_own (mine_of p) a.at a.stays.0 k is), tt))) (subst (λ (z : Pass (RequesterWithSink g.row.O.Denot g.row.C.Denot) Entry). KeepsLaw (seen_by z)) (sym e) (law_put_back g.O.LinkSink.link g.O.Sink.taken g.O.Sink.faults g.C.CallRule.allows c.revoke_under-call.new.turn s c.revoke_under-call.ensures.ready c.put_back.ensures.1))

pub returns-clause-tried : goal.returns-clause-tried
returns-clause-tried g c = λ k call asked o.
    (let t = c.in-Ok.ensures.got.1 in
    let e = c.pass-2-1.given.1 (sym (c.revoke_under-call.ensures.same.1 ∙ c.in-Ok.ensures.borrow)) in
    let p = c.args.pass.now.main in let q = pass_of c.in-Ok.turn in let u = pass_of c.revoke_under-call.new.turn in let s = c.put_back.new.self.1.0 in
    let keeps = keeps_got g.O.LinkSink.link g.O.Sink.taken g.O.Sink.faults g.C.CallRule.allows c.in-Ok.turn.turnstile.now p q c.requires.rests.caller.lies t in
    let b = c.revoke_under-call.ensures.revoked k call (asked_on (seen_by p) (seen_by q) c.args.ticket k call t.3 asked) (keeps k o) in
    let es : List Entry = entries.Revoke c.args.ticket (bytes_of_buffers c.revoke_under-call.result.1) k ∷ [] in (
      b.0,
      subst (λ (z : Pass (RequesterWithSink g.row.O.Denot g.row.C.Denot) Entry). Adds {M = RequesterWithSink g.row.O.Denot g.row.C.Denot} {E = Entry} p z es × KeepsOthers {O = g.row.O.Denot} k p z) (sym e) (
        adds_same p u s es (adds_both p q u [] es (got (Stands g.O.LinkSink.link g.O.Sink.taken g.O.Sink.faults g.C.CallRule.allows) closes_of c.in-Ok.turn.turnstile.now p q t) b.1.0) c.put_back.ensures.1 c.put_back.ensures.2,
        λ j differs oj. keeps_same u s c.put_back.ensures.1 c.put_back.ensures.2 j (b.1.1 j differs (keeps j oj)),
      ),
    ))
