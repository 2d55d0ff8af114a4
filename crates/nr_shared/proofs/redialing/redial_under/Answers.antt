use Rattle.std.proofs.Common.{ℕ, arith, [], ◌∷◌, ◌++◌, Option, inl, inr, refl, sym, ap, subst}
use Rattle.nr_turnstile.specs.Passes.{seen_by}
use Rattle.nr_turnstile.specs.declared.plays.View.{View}
use Rattle.nr_turnstile.specs.Turns.{pass_of}
use Rattle.nr_turnstile.proofs.Held.{same_value, written}
use Rattle.nr_shared.specs.declared.entry.Entry.{Entry}
use Rattle.nr_shared.specs.declared.entry.Entry.TheVariants as entries
use Rattle.nr_shared.specs.declared.requester_with_sink.RequesterWithSink.{RequesterWithSink}
use Rattle.nr_shared.specs.Dialing.{DialsNext}
use Rattle.nr_shared.specs.Draining.{initial_sink, rejoined_after}
use Rattle.nr_shared.specs.Histories.{place_or_none}
use Rattle.nr_shared.specs.Standing.{Stands}
use Rattle.nr_shared.proofs.Asking.{closes_last, feeds_last, ready_on}
use Rattle.nr_shared.proofs.Steps.{room_two}
use Rattle.nr_shared.proofs.redialing.redial_under.Goals as goal

pub redial-requires-clause-stands : goal.redial-requires-clause-stands
redial-requires-clause-stands g c =
    let r = c.requires.ready in let f = c.value-with_sink.result.now in let seen = seen_by (pass_of c.args.turn.now) in
    let st : Stands g.O.LinkSink.link g.O.Sink.taken g.O.Sink.faults g.C.CallRule.allows f seen = subst (λ (z : RequesterWithSink g.row.O.Denot g.row.C.Denot). Stands g.O.LinkSink.link g.O.Sink.taken g.O.Sink.faults g.C.CallRule.allows z seen) (same_value _ r.value f r.has.1 c.value-with_sink.ensures.value) r.stands in
    (seen, (st, c.requires.may))

pub redial-requires-clause-link : goal.redial-requires-clause-link
redial-requires-clause-link g c =
    let r = c.requires.ready in let f = c.value-with_sink.result.now in let seen = seen_by (pass_of c.args.turn.now) in
    let st : Stands g.O.LinkSink.link g.O.Sink.taken g.O.Sink.faults g.C.CallRule.allows f seen = subst (λ (z : RequesterWithSink g.row.O.Denot g.row.C.Denot). Stands g.O.LinkSink.link g.O.Sink.taken g.O.Sink.faults g.C.CallRule.allows z seen) (same_value _ r.value f r.has.1 c.value-with_sink.ensures.value) r.stands in
    c.requires.link c.requires.may f.sink st.sink

pub append_rejoin-requires-clause-value : goal.append_rejoin-requires-clause-value
append_rejoin-requires-clause-value g c = (c.redial.new.self, (c.requires.ready.has.0, written _ _ c.redial.new.self c.value-with_sink.ensures.value, c.requires.ready.has.2))

pub append_rejoin-requires-clause-may : goal.append_rejoin-requires-clause-may
append_rejoin-requires-clause-may g c =
    let r = c.requires.ready in let fe = c.requires.feeding in let f = c.value-with_sink.result.now in let seen = seen_by (pass_of c.args.turn.now) in
    let st : Stands g.O.LinkSink.link g.O.Sink.taken g.O.Sink.faults g.C.CallRule.allows f seen = subst (λ (z : RequesterWithSink g.row.O.Denot g.row.C.Denot). Stands g.O.LinkSink.link g.O.Sink.taken g.O.Sink.faults g.C.CallRule.allows z seen) (same_value _ r.value f r.has.1 c.value-with_sink.ensures.value) r.stands in
    let room = room_two g.O.LinkSink.link g.O.Sink.taken g.O.Sink.faults g.C.CallRule.allows f seen st in
    (closes_last (pass_of c.args.turn.now) (rejoined_after seen (initial_sink g.O.LinkSink.link g.O.Sink.taken g.O.Sink.faults c.of-sink.result.value)) fe refl, omega (arith, room))

pub stop_under-requires-clause-ready : goal.stop_under-requires-clause-ready
stop_under-requires-clause-ready g c =
    let r = c.requires.ready in let f = c.value-with_sink.result.now in let e = c.value-with_sink.ensures.value in let seen = seen_by (pass_of c.args.turn.now) in
    record {
      value = c.redial.new.self;
      has = (r.has.0, written _ _ c.redial.new.self e, r.has.2);
      stands = subst (λ (z : RequesterWithSink g.row.O.Denot g.row.C.Denot). Stands g.O.LinkSink.link g.O.Sink.taken g.O.Sink.faults g.C.CallRule.allows z seen) (sym c.in-Err.ensures.unchanged.0)
          (subst (λ (z : RequesterWithSink g.row.O.Denot g.row.C.Denot). Stands g.O.LinkSink.link g.O.Sink.taken g.O.Sink.faults g.C.CallRule.allows z seen) (same_value _ r.value f r.has.1 e) r.stands);
      lies = r.lies;
      earlier = r.earlier;
    }

pub returns-in-Ok-clause-ready : goal.returns-in-Ok-clause-ready
returns-in-Ok-clause-ready g c =
    let r = c.requires.ready in let fe = c.requires.feeding in let f = c.value-with_sink.result.now in let seen = seen_by (pass_of c.args.turn.now) in
    let st : Stands g.O.LinkSink.link g.O.Sink.taken g.O.Sink.faults g.C.CallRule.allows f seen = subst (λ (z : RequesterWithSink g.row.O.Denot g.row.C.Denot). Stands g.O.LinkSink.link g.O.Sink.taken g.O.Sink.faults g.C.CallRule.allows z seen) (same_value _ r.value f r.has.1 c.value-with_sink.ensures.value) r.stands in
    let w = c.redial.new.self in
    let e = rejoined_after seen (initial_sink g.O.LinkSink.link g.O.Sink.taken g.O.Sink.faults c.of-sink.result.value) in
    ready_on g.O.LinkSink.link g.O.Sink.taken g.O.Sink.faults g.C.CallRule.allows c.args.turn.now c.append_rejoin.new.turn w e r (c.append_rejoin.ensures.held w (c.requires.ready.has.0, written _ _ w c.value-with_sink.ensures.value, c.requires.ready.has.2))
    c.append_rejoin.ensures.step (closes_last (pass_of c.args.turn.now) e fe refl)
    (subst (λ (k : Option g.row.O.Denot). Stands g.O.LinkSink.link g.O.Sink.taken g.O.Sink.faults g.C.CallRule.allows w (seen ++ rejoined_after seen (initial_sink g.O.LinkSink.link g.O.Sink.taken g.O.Sink.faults k) ∷ [])) (sym c.of-sink.ensures)
    (subst (λ (n : ℕ). Stands g.O.LinkSink.link g.O.Sink.taken g.O.Sink.faults g.C.CallRule.allows w (seen ++ entries.Rejoin (initial_sink g.O.LinkSink.link g.O.Sink.taken g.O.Sink.faults w.sink) n ∷ [])) (ap (λ (o : Option ℕ). place_or_none o) (sym fe.is_last))
    (c.in-Ok.ensures.rejoined seen fe.last st fe.is_last c.requires.may)))

pub returns-in-Ok-clause-feeding : goal.returns-in-Ok-clause-feeding
returns-in-Ok-clause-feeding g c = let r = c.requires.ready in let seen = seen_by (pass_of c.args.turn.now) in
    let e = rejoined_after seen (initial_sink g.O.LinkSink.link g.O.Sink.taken g.O.Sink.faults c.of-sink.result.value) in
    feeds_last (pass_of c.args.turn.now) (pass_of c.append_rejoin.new.turn) e c.requires.feeding refl r.earlier r.lies (closes_last (pass_of c.args.turn.now) e c.requires.feeding refl) c.append_rejoin.ensures.step

pub returns-in-Ok-clause-redialled : goal.returns-in-Ok-clause-redialled
returns-in-Ok-clause-redialled g c =
    let r = c.requires.ready in let f = c.value-with_sink.result.now in let seen = seen_by (pass_of c.args.turn.now) in
    let st : Stands g.O.LinkSink.link g.O.Sink.taken g.O.Sink.faults g.C.CallRule.allows f seen = subst (λ (z : RequesterWithSink g.row.O.Denot g.row.C.Denot). Stands g.O.LinkSink.link g.O.Sink.taken g.O.Sink.faults g.C.CallRule.allows z seen) (same_value _ r.value f r.has.1 c.value-with_sink.ensures.value) r.stands in
    record {
      may = c.requires.may;
      does = inl (record {
        was = f.sink;
        sink = c.of-sink.result.value;
        stood = st.sink;
        seen = ap (λ (v : View Entry). v.seen) c.append_rejoin.ensures.step;
        dials = subst (λ (k : Option g.row.O.Denot). DialsNext g.I.LinkSource.link g.I.Source.left g.I.Source.given g.I.Source.faults g.O.LinkSink.link g.O.Sink.taken g.O.Sink.faults g.D.Dialer.asked g.D.Dialer.ended g.D.Dialer.faults c.args.source.now c.redial.new.source f.sink k c.args.dialer.now c.redial.new.dialer c.args.addr.now) (sym c.of-sink.ensures) c.in-Ok.ensures.next;
      });
    }

pub returns-in-Err-clause-redialled : goal.returns-in-Err-clause-redialled
returns-in-Err-clause-redialled g c = record {
  may = c.requires.may;
  does = inr (record { cause = c.in-Err.cause; cannot = c.in-Err.ensures.refused.0; seen = c.stop_under.ensures.seen; source_is = c.in-Err.ensures.unchanged.1.0; dialer_is = c.in-Err.ensures.unchanged.1.1 });
}
