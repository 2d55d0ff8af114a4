use Rattle.std.proofs.Common.{◌≡◌, ℕ, arith, [], ◌∷◌, ◌++◌, Some, sym, ap, subst, refl, ◌∙◌}
use Rattle.nr_turnstile.specs.declared.plays.View.{View}
use Rattle.nr_turnstile.specs.Passes.{Steps, seen_by, mine_of}
use Rattle.nr_turnstile.specs.Turns.{pass_of}
use Rattle.nr_turnstile.proofs.Held.{same_value, written}
use Rattle.nr_shared.specs.declared.entry.Entry.{Entry}
use Rattle.nr_shared.specs.declared.entry.Entry.TheVariants as entries
use Rattle.nr_shared.specs.declared.requester_with_sink.RequesterWithSink.{RequesterWithSink}
use Rattle.nr_shared.specs.Histories.{place_of, place_or_none, forget_by}
use Rattle.nr_shared.specs.Standing.{Stands}
use Rattle.nr_shared.proofs.Adding.{steps}
use Rattle.nr_shared.proofs.Asking.{closes_own, keeps_others, ready_on}
use Rattle.nr_shared.proofs.Steps.{room_two}
use Rattle.nr_shared.proofs.turns.forget_under.Goals as goal

pub forget-requires : goal.forget-requires
forget-requires g c =
    let r = c.requires.ready in let a = c.requires.has_call in let f = c.value-with_sink.result.now in let seen = seen_by (pass_of c.args.turn.now) in
    let st : Stands g.O.LinkSink.link g.O.Sink.taken g.O.Sink.faults g.C.CallRule.allows f seen = subst (λ (z : RequesterWithSink g.row.O.Denot g.row.C.Denot). Stands g.O.LinkSink.link g.O.Sink.taken g.O.Sink.faults g.C.CallRule.allows z seen) (same_value _ r.value f r.has.1 c.value-with_sink.ensures.value) r.stands in
    record { has_call = (seen, a.at, a.call, (st, (a.is_call, a.stays.1))) }

pub append_forget-requires-clause-value : goal.append_forget-requires-clause-value
append_forget-requires-clause-value g c = let r = c.requires.ready in (c.forget.new.self, (r.has.0, written _ _ c.forget.new.self c.value-with_sink.ensures.value, r.has.2))

pub append_forget-requires-clause-may : goal.append_forget-requires-clause-may
append_forget-requires-clause-may g c =
    let r = c.requires.ready in let a = c.requires.has_call in let f = c.value-with_sink.result.now in let seen = seen_by (pass_of c.args.turn.now) in
    let st : Stands g.O.LinkSink.link g.O.Sink.taken g.O.Sink.faults g.C.CallRule.allows f seen = subst (λ (z : RequesterWithSink g.row.O.Denot g.row.C.Denot). Stands g.O.LinkSink.link g.O.Sink.taken g.O.Sink.faults g.C.CallRule.allows z seen) (same_value _ r.value f r.has.1 c.value-with_sink.ensures.value) r.stands in
    let pl : place_of c.args.ticket seen ≡ Some a.at = (st.calls c.args.ticket a.at a.call a.is_call a.stays.1).0 in
    let at : place_or_none (place_of c.xid-xid.result seen) ≡ a.at = ap (λ n. place_or_none (place_of n seen)) c.xid-xid.ensures ∙ ap (λ o. place_or_none o) pl in
    let room = room_two g.O.LinkSink.link g.O.Sink.taken g.O.Sink.faults g.C.CallRule.allows f seen st in
    (λ k is. closes_own (mine_of (pass_of c.args.turn.now)) a.at a.stays.0 k (ap (λ (n : ℕ). Some n) (sym at) ∙ is), omega (arith, room))

pub returns-clause-ready : goal.returns-clause-ready
returns-clause-ready g c =
    let r = c.requires.ready in let a = c.requires.has_call in let f = c.value-with_sink.result.now in let seen = seen_by (pass_of c.args.turn.now) in
    let st : Stands g.O.LinkSink.link g.O.Sink.taken g.O.Sink.faults g.C.CallRule.allows f seen = subst (λ (z : RequesterWithSink g.row.O.Denot g.row.C.Denot). Stands g.O.LinkSink.link g.O.Sink.taken g.O.Sink.faults g.C.CallRule.allows z seen) (same_value _ r.value f r.has.1 c.value-with_sink.ensures.value) r.stands in
    let w = c.forget.new.self in
    let pl : place_of c.args.ticket seen ≡ Some a.at = (st.calls c.args.ticket a.at a.call a.is_call a.stays.1).0 in
    let e : Entry = entries.Forget c.args.ticket a.at in
    let same : forget_by seen c.xid-xid.result ≡ e = ap (λ n. forget_by seen n) c.xid-xid.ensures ∙ ap (λ o. entries.Forget c.args.ticket (place_or_none o)) pl in
    ready_on g.O.LinkSink.link g.O.Sink.taken g.O.Sink.faults g.C.CallRule.allows c.args.turn.now c.append_forget.new.turn w e r
    (c.append_forget.ensures.held w (r.has.0, written _ _ w c.value-with_sink.ensures.value, r.has.2))
    (subst (λ (e : Entry). Steps (pass_of c.args.turn.now) (pass_of c.append_forget.new.turn) e) same c.append_forget.ensures.step)
    (closes_own (mine_of (pass_of c.args.turn.now)) a.at a.stays.0)
    (c.forget.ensures.forgotten seen a.at a.call st a.is_call a.stays.1)

pub returns-clause-forgotten : goal.returns-clause-forgotten
returns-clause-forgotten g c = λ k call asked o.
    (let r = c.requires.ready in let a = c.requires.has_call in let f = c.value-with_sink.result.now in let seen = seen_by (pass_of c.args.turn.now) in
    let st : Stands g.O.LinkSink.link g.O.Sink.taken g.O.Sink.faults g.C.CallRule.allows f seen = subst (λ (z : RequesterWithSink g.row.O.Denot g.row.C.Denot). Stands g.O.LinkSink.link g.O.Sink.taken g.O.Sink.faults g.C.CallRule.allows z seen) (same_value _ r.value f r.has.1 c.value-with_sink.ensures.value) r.stands in
    let pl : place_of c.args.ticket seen ≡ Some k = (st.calls c.args.ticket k call asked o.1).0 in
    let e : Entry = entries.Forget c.args.ticket k in
    let same : forget_by seen c.xid-xid.result ≡ e = ap (λ n. forget_by seen n) c.xid-xid.ensures ∙ ap (λ o. entries.Forget c.args.ticket (place_or_none o)) pl in
    let p = pass_of c.args.turn.now in let q = pass_of c.append_forget.new.turn in
    let step = subst (λ (e : Entry). Steps p q e) same c.append_forget.ensures.step in
    record { adds = steps p q e step; keeps = keeps_others p q e k step refl })

pub returns-clause-seen : goal.returns-clause-seen
returns-clause-seen g c = let seen = seen_by (pass_of c.args.turn.now) in
    ap (λ (v : View Entry). v.seen) c.append_forget.ensures.step ∙ ap (λ n. seen ++ forget_by seen n ∷ []) c.xid-xid.ensures
