use Rattle.std.proofs.Common.{◌≡◌, ℕ, arith, Some, sym, ap, subst, refl, ◌∙◌}
use Rattle.nr_turnstile.specs.Passes.{Steps, seen_by, mine_of}
use Rattle.nr_turnstile.specs.Turns.{pass_of}
use Rattle.nr_turnstile.proofs.Held.{same_value, written}
use Rattle.nr_requester.specs.Buffers.{bytes_of_buffers}
use Rattle.nr_requester.specs.declared.answer.Buffers.{Buffers}
use Rattle.nr_shared.specs.declared.entry.Entry.{Entry}
use Rattle.nr_shared.specs.declared.entry.Entry.TheVariants as entries
use Rattle.nr_shared.specs.declared.requester_with_sink.RequesterWithSink.{RequesterWithSink}
use Rattle.nr_shared.specs.Histories.{place_of, place_or_none, revoke_by}
use Rattle.nr_shared.specs.Standing.{Stands}
use Rattle.nr_shared.proofs.Adding.{steps}
use Rattle.nr_shared.proofs.Asking.{closes_own, keeps_others, ready_on}
use Rattle.nr_shared.proofs.Steps.{room_two}
use Rattle.nr_shared.proofs.turns.revoke_under.Goals as goal

pub revoke-given-requires : goal.revoke-given-requires
revoke-given-requires g c =
    let r = c.requires.ready in let a = c.requires.has_call in let f = c.value-with_sink.result.now in let seen = seen_by (pass_of c.args.turn.now) in
    let st : Stands g.O.LinkSink.link g.O.Sink.taken g.O.Sink.faults g.C.CallRule.allows f seen = subst (λ (z : RequesterWithSink g.row.O.Denot g.row.C.Denot). Stands g.O.LinkSink.link g.O.Sink.taken g.O.Sink.faults g.C.CallRule.allows z seen) (same_value _ r.value f r.has.1 c.value-with_sink.ensures.value) r.stands in
    record { has_call = (seen, a.at, a.call, (st, (a.is_call, a.stays.1))) }

pub append_revoke-requires-clause-value : goal.append_revoke-requires-clause-value
append_revoke-requires-clause-value g c = let r = c.requires.ready in (c.revoke-given.new.self, (r.has.0, written _ _ c.revoke-given.new.self c.value-with_sink.ensures.value, r.has.2))

pub append_revoke-requires-clause-may : goal.append_revoke-requires-clause-may
append_revoke-requires-clause-may g c =
    let r = c.requires.ready in let a = c.requires.has_call in let f = c.value-with_sink.result.now in let seen = seen_by (pass_of c.args.turn.now) in
    let st : Stands g.O.LinkSink.link g.O.Sink.taken g.O.Sink.faults g.C.CallRule.allows f seen = subst (λ (z : RequesterWithSink g.row.O.Denot g.row.C.Denot). Stands g.O.LinkSink.link g.O.Sink.taken g.O.Sink.faults g.C.CallRule.allows z seen) (same_value _ r.value f r.has.1 c.value-with_sink.ensures.value) r.stands in
    let pl : place_of c.args.ticket seen ≡ Some a.at = (st.calls c.args.ticket a.at a.call a.is_call a.stays.1).0 in
    let at : place_or_none (place_of c.xid-xid.result seen) ≡ a.at = ap (λ n. place_or_none (place_of n seen)) c.xid-xid.ensures ∙ ap (λ o. place_or_none o) pl in
    let room = room_two g.O.LinkSink.link g.O.Sink.taken g.O.Sink.faults g.C.CallRule.allows f seen st in
    (λ k is. closes_own (mine_of (pass_of c.args.turn.now)) a.at a.stays.0 k (ap (λ (n : ℕ). Some n) (sym at) ∙ is), omega (arith, room))

pub returns-clause-ready : goal.returns-clause-ready
returns-clause-ready g c =
    let r = c.requires.ready in let a = c.requires.has_call in let f = c.value-with_sink.result.now in let seen = seen_by (pass_of c.args.turn.now) in
    let st : Stands g.O.LinkSink.link g.O.Sink.taken g.O.Sink.faults g.C.CallRule.allows f seen = subst (λ (z : RequesterWithSink g.row.O.Denot g.row.C.Denot). Stands g.O.LinkSink.link g.O.Sink.taken g.O.Sink.faults g.C.CallRule.allows z seen) (same_value _ r.value f r.has.1 c.value-with_sink.ensures.value) r.stands in
    let w = c.revoke-given.new.self in
    let pl : place_of c.args.ticket seen ≡ Some a.at = (st.calls c.args.ticket a.at a.call a.is_call a.stays.1).0 in
    let e : Entry = entries.Revoke c.args.ticket (bytes_of_buffers c.revoke-given.result.1) a.at in
    let same : revoke_by seen c.xid-xid.result (bytes_of_buffers c.of-buffers.result.value) ≡ e = ap (λ n. revoke_by seen n (bytes_of_buffers c.of-buffers.result.value)) c.xid-xid.ensures ∙ (ap (λ (o : Buffers). revoke_by seen c.args.ticket (bytes_of_buffers o)) c.of-buffers.ensures ∙ ap (λ o. entries.Revoke c.args.ticket (bytes_of_buffers c.revoke-given.result.1) (place_or_none o)) pl) in
    ready_on g.O.LinkSink.link g.O.Sink.taken g.O.Sink.faults g.C.CallRule.allows c.args.turn.now c.append_revoke.new.turn w e r
    (c.append_revoke.ensures.held w (r.has.0, written _ _ w c.value-with_sink.ensures.value, r.has.2))
    (subst (λ (e : Entry). Steps (pass_of c.args.turn.now) (pass_of c.append_revoke.new.turn) e) same c.append_revoke.ensures.step)
    (closes_own (mine_of (pass_of c.args.turn.now)) a.at a.stays.0)
    (c.revoke-given.ensures.revoked seen a.at a.call st a.is_call a.stays.1).0

pub returns-clause-revoked : goal.returns-clause-revoked
returns-clause-revoked g c = λ k call asked o.
    (let r = c.requires.ready in let a = c.requires.has_call in let f = c.value-with_sink.result.now in let seen = seen_by (pass_of c.args.turn.now) in
    let st : Stands g.O.LinkSink.link g.O.Sink.taken g.O.Sink.faults g.C.CallRule.allows f seen = subst (λ (z : RequesterWithSink g.row.O.Denot g.row.C.Denot). Stands g.O.LinkSink.link g.O.Sink.taken g.O.Sink.faults g.C.CallRule.allows z seen) (same_value _ r.value f r.has.1 c.value-with_sink.ensures.value) r.stands in
    let pl : place_of c.args.ticket seen ≡ Some k = (st.calls c.args.ticket k call asked o.1).0 in
    let e : Entry = entries.Revoke c.args.ticket (bytes_of_buffers c.revoke-given.result.1) k in
    let same : revoke_by seen c.xid-xid.result (bytes_of_buffers c.of-buffers.result.value) ≡ e = ap (λ n. revoke_by seen n (bytes_of_buffers c.of-buffers.result.value)) c.xid-xid.ensures ∙ (ap (λ (o : Buffers). revoke_by seen c.args.ticket (bytes_of_buffers o)) c.of-buffers.ensures ∙ ap (λ o. entries.Revoke c.args.ticket (bytes_of_buffers c.revoke-given.result.1) (place_or_none o)) pl) in
    let p = pass_of c.args.turn.now in let q = pass_of c.append_revoke.new.turn in
    let step = subst (λ (e : Entry). Steps p q e) same c.append_revoke.ensures.step in
    ((c.revoke-given.ensures.revoked seen k call st asked o.1).1, (steps p q e step, keeps_others p q e k step refl)))
