use Rattle.std.proofs.Common.{ℕ, arith, [], ◌∷◌, ◌++◌, Option, refl, sym, ap, subst}
use Rattle.nr_turnstile.specs.Passes.{seen_by}
use Rattle.nr_turnstile.specs.declared.plays.View.{View}
use Rattle.nr_turnstile.specs.Turns.{pass_of}
use Rattle.nr_turnstile.proofs.Held.{same_value, written}
use Rattle.nr_shared.specs.declared.entry.Entry.{Entry}
use Rattle.nr_shared.specs.declared.entry.Entry.TheVariants as entries
use Rattle.nr_shared.specs.declared.requester_with_sink.RequesterWithSink.{RequesterWithSink}
use Rattle.nr_shared.specs.Draining.{stopped_after}
use Rattle.nr_shared.specs.Histories.{place_or_none}
use Rattle.nr_shared.specs.Standing.{Stands}
use Rattle.nr_shared.proofs.Adding.{steps}
use Rattle.nr_shared.proofs.Asking.{closes_last, feeds_last, ready_on}
use Rattle.nr_shared.proofs.Steps.{room_two}
use Rattle.nr_shared.proofs.turns.stop_under.Goals as goal

pub stop-requires-clause-stands : goal.stop-requires-clause-stands
stop-requires-clause-stands g c =
    let r = c.requires.ready in let fe = c.requires.feeding in let f = c.value-with_sink.result.now in let seen = seen_by (pass_of c.args.turn.now) in
    let st : Stands g.O.LinkSink.link g.O.Sink.taken g.O.Sink.faults g.C.CallRule.allows f seen = subst (λ (z : RequesterWithSink g.row.O.Denot g.row.C.Denot). Stands g.O.LinkSink.link g.O.Sink.taken g.O.Sink.faults g.C.CallRule.allows z seen) (same_value _ r.value f r.has.1 c.value-with_sink.ensures.value) r.stands in
    (seen, (st, c.requires.may))

pub append_stopped-requires-clause-value : goal.append_stopped-requires-clause-value
append_stopped-requires-clause-value g c = (c.stop.new.self, (c.requires.ready.has.0, written _ _ c.stop.new.self c.value-with_sink.ensures.value, c.requires.ready.has.2))

pub append_stopped-requires-clause-may : goal.append_stopped-requires-clause-may
append_stopped-requires-clause-may g c =
    let r = c.requires.ready in let fe = c.requires.feeding in let f = c.value-with_sink.result.now in let seen = seen_by (pass_of c.args.turn.now) in
    let st : Stands g.O.LinkSink.link g.O.Sink.taken g.O.Sink.faults g.C.CallRule.allows f seen = subst (λ (z : RequesterWithSink g.row.O.Denot g.row.C.Denot). Stands g.O.LinkSink.link g.O.Sink.taken g.O.Sink.faults g.C.CallRule.allows z seen) (same_value _ r.value f r.has.1 c.value-with_sink.ensures.value) r.stands in
    let room = room_two g.O.LinkSink.link g.O.Sink.taken g.O.Sink.faults g.C.CallRule.allows f seen st in
    (closes_last (pass_of c.args.turn.now) (stopped_after seen c.args.cause) fe refl, omega (arith, room))

pub returns-clause-ready : goal.returns-clause-ready
returns-clause-ready g c =
    let r = c.requires.ready in let fe = c.requires.feeding in let f = c.value-with_sink.result.now in let seen = seen_by (pass_of c.args.turn.now) in
    let st : Stands g.O.LinkSink.link g.O.Sink.taken g.O.Sink.faults g.C.CallRule.allows f seen = subst (λ (z : RequesterWithSink g.row.O.Denot g.row.C.Denot). Stands g.O.LinkSink.link g.O.Sink.taken g.O.Sink.faults g.C.CallRule.allows z seen) (same_value _ r.value f r.has.1 c.value-with_sink.ensures.value) r.stands in
    let w = c.stop.new.self in
    ready_on g.O.LinkSink.link g.O.Sink.taken g.O.Sink.faults g.C.CallRule.allows c.args.turn.now c.append_stopped.new.turn w (stopped_after seen c.args.cause) r (c.append_stopped.ensures.held w (c.requires.ready.has.0, written _ _ w c.value-with_sink.ensures.value, c.requires.ready.has.2))
    c.append_stopped.ensures.step (closes_last (pass_of c.args.turn.now) (stopped_after seen c.args.cause) fe refl)
    (subst (λ (n : ℕ). Stands g.O.LinkSink.link g.O.Sink.taken g.O.Sink.faults g.C.CallRule.allows w (seen ++ entries.Stopped c.args.cause n ∷ [])) (ap (λ (o : Option ℕ). place_or_none o) (sym fe.is_last))
    (c.stop.ensures.stopped seen fe.last st fe.is_last c.requires.may))

pub returns-clause-feeding : goal.returns-clause-feeding
returns-clause-feeding g c = let r = c.requires.ready in let seen = seen_by (pass_of c.args.turn.now) in
    feeds_last (pass_of c.args.turn.now) (pass_of c.append_stopped.new.turn) (stopped_after seen c.args.cause) c.requires.feeding refl r.earlier r.lies (closes_last (pass_of c.args.turn.now) (stopped_after seen c.args.cause) c.requires.feeding refl) c.append_stopped.ensures.step

pub returns-clause-stopped : goal.returns-clause-stopped
returns-clause-stopped g c = let seen = seen_by (pass_of c.args.turn.now) in steps (pass_of c.args.turn.now) (pass_of c.append_stopped.new.turn) (stopped_after seen c.args.cause) c.append_stopped.ensures.step

pub returns-clause-seen : goal.returns-clause-seen
returns-clause-seen g c = ap (λ (v : View Entry). v.seen) c.append_stopped.ensures.step
