use Rattle.std.proofs.Common.{◌≡◌, ℕ, arith, true, is_some, Some, sym, ap, subst, refl, ◌∙◌}
use Rattle.nr_turnstile.specs.declared.plays.View.{View}
use Rattle.nr_turnstile.specs.Passes.{Steps, seen_by, mine_of}
use Rattle.nr_turnstile.specs.Turns.{pass_of}
use Rattle.nr_turnstile.proofs.Held.{same_value, written}
use Rattle.nr_requester.specs.declared.answer.Buffers.{Buffers}
use Rattle.nr_requester.specs.OpenCalls.{found_answer}
use Rattle.nr_shared.specs.declared.entry.Entry.{Entry}
use Rattle.nr_shared.specs.declared.entry.Entry.TheVariants as entries
use Rattle.nr_shared.specs.declared.requester_with_sink.RequesterWithSink.{RequesterWithSink}
use Rattle.nr_shared.specs.HandedBack.{lost_by, lost_entry}
use Rattle.nr_shared.specs.Histories.{place_of, place_or_none, done_by}
use Rattle.nr_shared.specs.Standing.{Stands}
use Rattle.nr_shared.proofs.Adding.{adds_none, steps}
use Rattle.nr_shared.proofs.Asking.{closes_own, keeps_others, ready_on}
use Rattle.nr_shared.proofs.Lists.{begins_self}
use Rattle.nr_shared.proofs.Steps.{room_two}
use Rattle.nr_shared.proofs.Taking.{lost_closes}
use Rattle.nr_shared.proofs.turns.try_take_under.Goals as goal

pub try_take-requires : goal.try_take-requires
try_take-requires g c =
    let r = c.requires.ready in let a = c.requires.has_call in let f = c.value-with_sink.result.now in let seen = seen_by (pass_of c.args.turn.now) in
    let st : Stands g.O.LinkSink.link g.O.Sink.taken g.O.Sink.faults g.C.CallRule.allows f seen = subst (λ (z : RequesterWithSink g.row.O.Denot g.row.C.Denot). Stands g.O.LinkSink.link g.O.Sink.taken g.O.Sink.faults g.C.CallRule.allows z seen) (same_value _ r.value f r.has.1 c.value-with_sink.ensures.value) r.stands in
    record { has_call = (seen, a.at, a.call, (st, (a.is_call, a.stays.1))) }

pub returns-in-NotYet-clause-ready : goal.returns-in-NotYet-clause-ready
returns-in-NotYet-clause-ready g c =
    let r = c.requires.ready in let a = c.requires.has_call in let f = c.value-with_sink.result.now in let seen = seen_by (pass_of c.args.turn.now) in
    let st : Stands g.O.LinkSink.link g.O.Sink.taken g.O.Sink.faults g.C.CallRule.allows f seen = subst (λ (z : RequesterWithSink g.row.O.Denot g.row.C.Denot). Stands g.O.LinkSink.link g.O.Sink.taken g.O.Sink.faults g.C.CallRule.allows z seen) (same_value _ r.value f r.has.1 c.value-with_sink.ensures.value) r.stands in
    let w = c.try_take.new.self in
    record {
      value = w;
      has = (r.has.0, written _ _ w c.value-with_sink.ensures.value, r.has.2);
      stands = (c.in-NotYet.ensures.taken seen a.at a.call st a.is_call a.stays.1).0;
      lies = r.lies;
      earlier = r.earlier;
    }

pub returns-in-NotYet-clause-taken : goal.returns-in-NotYet-clause-taken
returns-in-NotYet-clause-taken g c =
    let r = c.requires.ready in let a = c.requires.has_call in let f = c.value-with_sink.result.now in let seen = seen_by (pass_of c.args.turn.now) in
    let st : Stands g.O.LinkSink.link g.O.Sink.taken g.O.Sink.faults g.C.CallRule.allows f seen = subst (λ (z : RequesterWithSink g.row.O.Denot g.row.C.Denot). Stands g.O.LinkSink.link g.O.Sink.taken g.O.Sink.faults g.C.CallRule.allows z seen) (same_value _ r.value f r.has.1 c.value-with_sink.ensures.value) r.stands in
    let t = (c.in-NotYet.ensures.taken seen a.at a.call st a.is_call a.stays.1).1 in
    let p = pass_of c.args.turn.now in
    (t.0, (t.1, (adds_none p _ (begins_self (seen_by p)) refl, λ k o. o)))

pub append_done-requires-clause-value : goal.append_done-requires-clause-value
append_done-requires-clause-value g c = let r = c.requires.ready in (c.try_take.new.self, (r.has.0, written _ _ c.try_take.new.self c.value-with_sink.ensures.value, r.has.2))

pub append_done-requires-clause-may : goal.append_done-requires-clause-may
append_done-requires-clause-may g c =
    let r = c.requires.ready in let a = c.requires.has_call in let f = c.value-with_sink.result.now in let seen = seen_by (pass_of c.args.turn.now) in
    let st : Stands g.O.LinkSink.link g.O.Sink.taken g.O.Sink.faults g.C.CallRule.allows f seen = subst (λ (z : RequesterWithSink g.row.O.Denot g.row.C.Denot). Stands g.O.LinkSink.link g.O.Sink.taken g.O.Sink.faults g.C.CallRule.allows z seen) (same_value _ r.value f r.has.1 c.value-with_sink.ensures.value) r.stands in
    let pl : place_of c.args.ticket seen ≡ Some a.at = (st.calls c.args.ticket a.at a.call a.is_call a.stays.1).0 in
    let at : place_or_none (place_of c.xid-xid.result seen) ≡ a.at = ap (λ n. place_or_none (place_of n seen)) c.xid-xid.ensures ∙ ap (λ o. place_or_none o) pl in
    let room = room_two g.O.LinkSink.link g.O.Sink.taken g.O.Sink.faults g.C.CallRule.allows f seen st in
    (λ k is. closes_own (mine_of (pass_of c.args.turn.now)) a.at a.stays.0 k (ap (λ (n : ℕ). Some n) (sym at) ∙ is), omega (arith, room))

pub returns-in-Done-clause-ready : goal.returns-in-Done-clause-ready
returns-in-Done-clause-ready g c =
    let r = c.requires.ready in let a = c.requires.has_call in let f = c.value-with_sink.result.now in let seen = seen_by (pass_of c.args.turn.now) in
    let st : Stands g.O.LinkSink.link g.O.Sink.taken g.O.Sink.faults g.C.CallRule.allows f seen = subst (λ (z : RequesterWithSink g.row.O.Denot g.row.C.Denot). Stands g.O.LinkSink.link g.O.Sink.taken g.O.Sink.faults g.C.CallRule.allows z seen) (same_value _ r.value f r.has.1 c.value-with_sink.ensures.value) r.stands in
    let w = c.try_take.new.self in
    let pl : place_of c.args.ticket seen ≡ Some a.at = (st.calls c.args.ticket a.at a.call a.is_call a.stays.1).0 in
    let outcome = c.in-Done.done.outcome in
    let e : Entry = entries.Done c.args.ticket outcome a.at in
    let same : done_by seen c.xid-xid.result c.of-outcome.result.value ≡ e = ap (λ n. done_by seen n c.of-outcome.result.value) c.xid-xid.ensures ∙ (ap (λ o. done_by seen c.args.ticket o) c.of-outcome.ensures ∙ ap (λ o. entries.Done c.args.ticket outcome (place_or_none o)) pl) in
    ready_on g.O.LinkSink.link g.O.Sink.taken g.O.Sink.faults g.C.CallRule.allows c.args.turn.now c.append_done.new.turn w e r
    (c.append_done.ensures.held w (r.has.0, written _ _ w c.value-with_sink.ensures.value, r.has.2))
    (subst (λ (e : Entry). Steps (pass_of c.args.turn.now) (pass_of c.append_done.new.turn) e) same c.append_done.ensures.step)
    (closes_own (mine_of (pass_of c.args.turn.now)) a.at a.stays.0)
    (c.in-Done.ensures.taken seen a.at a.call st a.is_call a.stays.1).0

pub returns-in-Done-clause-taken : goal.returns-in-Done-clause-taken
returns-in-Done-clause-taken g c = λ k call asked o.
    (let r = c.requires.ready in let a = c.requires.has_call in let f = c.value-with_sink.result.now in let seen = seen_by (pass_of c.args.turn.now) in
    let st : Stands g.O.LinkSink.link g.O.Sink.taken g.O.Sink.faults g.C.CallRule.allows f seen = subst (λ (z : RequesterWithSink g.row.O.Denot g.row.C.Denot). Stands g.O.LinkSink.link g.O.Sink.taken g.O.Sink.faults g.C.CallRule.allows z seen) (same_value _ r.value f r.has.1 c.value-with_sink.ensures.value) r.stands in
    let pl : place_of c.args.ticket seen ≡ Some k = (st.calls c.args.ticket k call asked o.1).0 in
    let outcome = c.in-Done.done.outcome in
    let e : Entry = entries.Done c.args.ticket outcome k in
    let same : done_by seen c.xid-xid.result c.of-outcome.result.value ≡ e = ap (λ n. done_by seen n c.of-outcome.result.value) c.xid-xid.ensures ∙ (ap (λ o. done_by seen c.args.ticket o) c.of-outcome.ensures ∙ ap (λ o. entries.Done c.args.ticket outcome (place_or_none o)) pl) in
    let p = pass_of c.args.turn.now in let q = pass_of c.append_done.new.turn in
    let step = subst (λ (e : Entry). Steps p q e) same c.append_done.ensures.step in
    let t = (c.in-Done.ensures.taken seen k call st asked o.1).1 in
    record { own = t.0; adds = steps p q e step; keeps = keeps_others p q e k step refl; before = seen; seen = ap (λ (v : View Entry). v.seen) step; buffers = t.1 })

pub append_lost-requires-clause-value : goal.append_lost-requires-clause-value
append_lost-requires-clause-value g c = let r = c.requires.ready in (c.try_take.new.self, (r.has.0, written _ _ c.try_take.new.self c.value-with_sink.ensures.value, r.has.2))

pub append_lost-requires-clause-may : goal.append_lost-requires-clause-may
append_lost-requires-clause-may g c =
    let r = c.requires.ready in let a = c.requires.has_call in let f = c.value-with_sink.result.now in let seen = seen_by (pass_of c.args.turn.now) in
    let st : Stands g.O.LinkSink.link g.O.Sink.taken g.O.Sink.faults g.C.CallRule.allows f seen = subst (λ (z : RequesterWithSink g.row.O.Denot g.row.C.Denot). Stands g.O.LinkSink.link g.O.Sink.taken g.O.Sink.faults g.C.CallRule.allows z seen) (same_value _ r.value f r.has.1 c.value-with_sink.ensures.value) r.stands in
    let pl : place_of c.args.ticket seen ≡ Some a.at = (st.calls c.args.ticket a.at a.call a.is_call a.stays.1).0 in
    let at : place_or_none (place_of c.xid-xid.result seen) ≡ a.at = ap (λ n. place_or_none (place_of n seen)) c.xid-xid.ensures ∙ ap (λ o. place_or_none o) pl in
    let room = room_two g.O.LinkSink.link g.O.Sink.taken g.O.Sink.faults g.C.CallRule.allows f seen st in
    let closes = lost_closes c.in-Failed.end c.xid-xid.result c.of-held.result.value (place_or_none (place_of c.xid-xid.result seen)) in
    (λ k is. closes_own (mine_of (pass_of c.args.turn.now)) a.at a.stays.0 k (ap (λ (n : ℕ). Some n) (sym at) ∙ (sym closes ∙ is)), omega (arith, room))

pub returns-in-Failed-clause-ready : goal.returns-in-Failed-clause-ready
returns-in-Failed-clause-ready g c =
    let r = c.requires.ready in let a = c.requires.has_call in let f = c.value-with_sink.result.now in let seen = seen_by (pass_of c.args.turn.now) in
    let st : Stands g.O.LinkSink.link g.O.Sink.taken g.O.Sink.faults g.C.CallRule.allows f seen = subst (λ (z : RequesterWithSink g.row.O.Denot g.row.C.Denot). Stands g.O.LinkSink.link g.O.Sink.taken g.O.Sink.faults g.C.CallRule.allows z seen) (same_value _ r.value f r.has.1 c.value-with_sink.ensures.value) r.stands in
    let w = c.try_take.new.self in
    let pl : place_of c.args.ticket seen ≡ Some a.at = (st.calls c.args.ticket a.at a.call a.is_call a.stays.1).0 in
    let end = c.in-Failed.end in let buffers = c.in-Failed.buffers in
    let e : Entry = lost_entry end c.args.ticket buffers a.at in
    let same : lost_by seen end c.xid-xid.result c.of-held.result.value ≡ e = ap (λ n. lost_by seen end n c.of-held.result.value) c.xid-xid.ensures ∙ (ap (λ (b : Buffers). lost_by seen end c.args.ticket b) c.of-held.ensures ∙ ap (λ o. lost_entry end c.args.ticket buffers (place_or_none o)) pl) in
    ready_on g.O.LinkSink.link g.O.Sink.taken g.O.Sink.faults g.C.CallRule.allows c.args.turn.now c.append_lost.new.turn w e r
    (c.append_lost.ensures.held w (r.has.0, written _ _ w c.value-with_sink.ensures.value, r.has.2))
    (subst (λ (e : Entry). Steps (pass_of c.args.turn.now) (pass_of c.append_lost.new.turn) e) same c.append_lost.ensures.step)
    (λ k is. closes_own (mine_of (pass_of c.args.turn.now)) a.at a.stays.0 k (sym (lost_closes end c.args.ticket buffers a.at) ∙ is))
    (c.in-Failed.ensures.taken seen a.at a.call st a.is_call a.stays.1).0

pub returns-in-Failed-clause-taken : goal.returns-in-Failed-clause-taken
returns-in-Failed-clause-taken g c = λ k call asked o.
    (let r = c.requires.ready in let a = c.requires.has_call in let f = c.value-with_sink.result.now in let seen = seen_by (pass_of c.args.turn.now) in
    let st : Stands g.O.LinkSink.link g.O.Sink.taken g.O.Sink.faults g.C.CallRule.allows f seen = subst (λ (z : RequesterWithSink g.row.O.Denot g.row.C.Denot). Stands g.O.LinkSink.link g.O.Sink.taken g.O.Sink.faults g.C.CallRule.allows z seen) (same_value _ r.value f r.has.1 c.value-with_sink.ensures.value) r.stands in
    let pl : place_of c.args.ticket seen ≡ Some k = (st.calls c.args.ticket k call asked o.1).0 in
    let end = c.in-Failed.end in let buffers = c.in-Failed.buffers in
    let e : Entry = lost_entry end c.args.ticket buffers k in
    let same : lost_by seen end c.xid-xid.result c.of-held.result.value ≡ e = ap (λ n. lost_by seen end n c.of-held.result.value) c.xid-xid.ensures ∙ (ap (λ (b : Buffers). lost_by seen end c.args.ticket b) c.of-held.ensures ∙ ap (λ o. lost_entry end c.args.ticket buffers (place_or_none o)) pl) in
    let p = pass_of c.args.turn.now in let q = pass_of c.append_lost.new.turn in
    let step = subst (λ (e : Entry). Steps p q e) same c.append_lost.ensures.step in
    let t = (c.in-Failed.ensures.taken seen k call st asked o.1).1 in
    record { own = t.0; adds = steps p q e step; keeps = keeps_others p q e k step (lost_closes end c.args.ticket buffers k); before = seen; seen = ap (λ (v : View Entry). v.seen) step; ended = t.1.0; lost = t.1.1 })

pub returns-in-NotYet-clause-there : goal.returns-in-NotYet-clause-there
returns-in-NotYet-clause-there g c = λ there. (let r = c.requires.ready in
    c.in-NotYet.ensures.there (subst (λ (z : RequesterWithSink g.row.O.Denot g.row.C.Denot). is_some (found_answer c.args.ticket z.requester.state) ≡ true) (same_value _ r.value c.value-with_sink.result.now r.has.1 c.value-with_sink.ensures.value) (there r.value r.has)))

pub returns-in-Failed-clause-there : goal.returns-in-Failed-clause-there
returns-in-Failed-clause-there g c = λ there. (let r = c.requires.ready in
    c.in-Failed.ensures.there (subst (λ (z : RequesterWithSink g.row.O.Denot g.row.C.Denot). is_some (found_answer c.args.ticket z.requester.state) ≡ true) (same_value _ r.value c.value-with_sink.result.now r.has.1 c.value-with_sink.ensures.value) (there r.value r.has)))

pub returns-in-Done-clause-there : goal.returns-in-Done-clause-there
returns-in-Done-clause-there g c = λ there. tt
