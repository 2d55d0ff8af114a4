use Rattle.std.proofs.Common.{ℕ, arith, [], ◌∷◌, ◌++◌, Option, sym, ap, subst}
use Rattle.nr_turnstile.specs.Passes.{seen_by}
use Rattle.nr_turnstile.specs.declared.plays.View.{View}
use Rattle.nr_turnstile.specs.Turns.{pass_of}
use Rattle.nr_turnstile.proofs.Held.{same_value, written}
use Rattle.nr_shared.specs.declared.entry.Entry.{Entry}
use Rattle.nr_shared.specs.declared.entry.Entry.TheVariants as entries
use Rattle.nr_shared.specs.declared.requester_with_sink.RequesterWithSink.{RequesterWithSink}
use Rattle.nr_shared.specs.Draining.{fed_after, fed_entry}
use Rattle.nr_shared.specs.Histories.{last_feeding, place_or_none}
use Rattle.nr_shared.specs.Standing.{Stands}
use Rattle.nr_shared.proofs.Adding.{steps}
use Rattle.nr_shared.proofs.Asking.{closes_last, feeds_last, ready_on, closes_fed, feeding_fed}
use Rattle.nr_shared.proofs.Steps.{room_two}
use Rattle.nr_shared.proofs.turns.feed_under.Goals as goal

pub feed-out_of_memory-requires-clause-goes : goal.feed-out_of_memory-requires-clause-goes
feed-out_of_memory-requires-clause-goes g c = c.requires.goes c.value-with_sink.result.now (c.requires.ready.has.0, c.value-with_sink.ensures.value, c.requires.ready.has.2)

pub feed-out_of_memory-requires-clause-flushed : goal.feed-out_of_memory-requires-clause-flushed
feed-out_of_memory-requires-clause-flushed g c = c.requires.flushed c.value-with_sink.result.now (c.requires.ready.has.0, c.value-with_sink.ensures.value, c.requires.ready.has.2)

pub feed-out_of_memory-requires-clause-stands : goal.feed-out_of_memory-requires-clause-stands
feed-out_of_memory-requires-clause-stands g c =
    let r = c.requires.ready in let fe = c.requires.feeding in let f = c.value-with_sink.result.now in let seen = seen_by (pass_of c.args.turn.now) in
    let st : Stands g.O.LinkSink.link g.O.Sink.taken g.O.Sink.faults g.C.CallRule.allows f seen = subst (λ (z : RequesterWithSink g.row.O.Denot g.row.C.Denot). Stands g.O.LinkSink.link g.O.Sink.taken g.O.Sink.faults g.C.CallRule.allows z seen) (same_value _ r.value f r.has.1 c.value-with_sink.ensures.value) r.stands in
    (seen, (st, c.requires.room))

pub append_fed-requires-clause-value : goal.append_fed-requires-clause-value
append_fed-requires-clause-value g c = (c.feed-out_of_memory.new.self, (c.requires.ready.has.0, written _ _ c.feed-out_of_memory.new.self c.value-with_sink.ensures.value, c.requires.ready.has.2))

pub append_fed-requires-clause-may : goal.append_fed-requires-clause-may
append_fed-requires-clause-may g c =
    let r = c.requires.ready in let fe = c.requires.feeding in let f = c.value-with_sink.result.now in let seen = seen_by (pass_of c.args.turn.now) in
    let st : Stands g.O.LinkSink.link g.O.Sink.taken g.O.Sink.faults g.C.CallRule.allows f seen = subst (λ (z : RequesterWithSink g.row.O.Denot g.row.C.Denot). Stands g.O.LinkSink.link g.O.Sink.taken g.O.Sink.faults g.C.CallRule.allows z seen) (same_value _ r.value f r.has.1 c.value-with_sink.ensures.value) r.stands in
    let room = room_two g.O.LinkSink.link g.O.Sink.taken g.O.Sink.faults g.C.CallRule.allows f seen st in
    (closes_last (pass_of c.args.turn.now) (fed_after seen c.feed-out_of_memory.result c.args.piece.now) fe (closes_fed c.feed-out_of_memory.result c.args.piece.now (place_or_none (last_feeding seen))), omega (arith, room))

pub returns-clause-ready : goal.returns-clause-ready
returns-clause-ready g c =
    let r = c.requires.ready in let fe = c.requires.feeding in let f = c.value-with_sink.result.now in let seen = seen_by (pass_of c.args.turn.now) in
    let st : Stands g.O.LinkSink.link g.O.Sink.taken g.O.Sink.faults g.C.CallRule.allows f seen = subst (λ (z : RequesterWithSink g.row.O.Denot g.row.C.Denot). Stands g.O.LinkSink.link g.O.Sink.taken g.O.Sink.faults g.C.CallRule.allows z seen) (same_value _ r.value f r.has.1 c.value-with_sink.ensures.value) r.stands in
    let w = c.feed-out_of_memory.new.self in
    ready_on g.O.LinkSink.link g.O.Sink.taken g.O.Sink.faults g.C.CallRule.allows c.args.turn.now c.append_fed.new.turn w (fed_after seen c.feed-out_of_memory.result c.args.piece.now) r (c.append_fed.ensures.held w (c.requires.ready.has.0, written _ _ w c.value-with_sink.ensures.value, c.requires.ready.has.2))
    c.append_fed.ensures.step (closes_last (pass_of c.args.turn.now) (fed_after seen c.feed-out_of_memory.result c.args.piece.now) fe (closes_fed c.feed-out_of_memory.result c.args.piece.now (place_or_none (last_feeding seen))))
    (subst (λ (n : ℕ). Stands g.O.LinkSink.link g.O.Sink.taken g.O.Sink.faults g.C.CallRule.allows w (seen ++ fed_entry c.feed-out_of_memory.result c.args.piece.now n ∷ [])) (ap (λ (o : Option ℕ). place_or_none o) (sym fe.is_last))
    (c.feed-out_of_memory.ensures.fed seen fe.last st fe.is_last c.requires.room c.requires.outstanding))

pub returns-clause-feeding : goal.returns-clause-feeding
returns-clause-feeding g c = let r = c.requires.ready in let seen = seen_by (pass_of c.args.turn.now) in
    feeds_last (pass_of c.args.turn.now) (pass_of c.append_fed.new.turn) (fed_after seen c.feed-out_of_memory.result c.args.piece.now) c.requires.feeding (feeding_fed c.feed-out_of_memory.result c.args.piece.now (place_or_none (last_feeding seen))) r.earlier r.lies (closes_last (pass_of c.args.turn.now) (fed_after seen c.feed-out_of_memory.result c.args.piece.now) c.requires.feeding (closes_fed c.feed-out_of_memory.result c.args.piece.now (place_or_none (last_feeding seen)))) c.append_fed.ensures.step

pub returns-clause-fed : goal.returns-clause-fed
returns-clause-fed g c = let seen = seen_by (pass_of c.args.turn.now) in steps (pass_of c.args.turn.now) (pass_of c.append_fed.new.turn) (fed_after seen c.feed-out_of_memory.result c.args.piece.now) c.append_fed.ensures.step

pub returns-clause-seen : goal.returns-clause-seen
returns-clause-seen g c = ap (λ (v : View Entry). v.seen) c.append_fed.ensures.step
