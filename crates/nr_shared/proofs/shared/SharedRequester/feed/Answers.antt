use Rattle.std.proofs.Common.{◌≡◌, ℕ, ◌+◌, ◌≤◌, ◌++◌, List, Option, length, sym, ap, subst, ◌∙◌}
use Rattle.nr_links.specs.Limits.{read_max}
use Rattle.nr_turnstile.specs.declared.turnstile.Pass.{Pass}
use Rattle.nr_turnstile.specs.Rule.{Lies}
use Rattle.nr_turnstile.specs.Passes.{mine_of, seen_by}
use Rattle.nr_turnstile.specs.Turns.{pass_of}
use Rattle.nr_turnstile.proofs.Held.{same_value}
use Rattle.nr_shared.specs.declared.entry.Entry.{Entry}
use Rattle.nr_shared.specs.declared.requester_with_sink.RequesterWithSink.{RequesterWithSink}
use Rattle.nr_shared.specs.Callers.{IsFeeding}
use Rattle.nr_shared.specs.Draining.{fed_after, fed_entry}
use Rattle.nr_shared.specs.Histories.{PresentLink, bytes_fed, last_feeding, place_or_none, present, present_after, tries_in, tries_of}
use Rattle.nr_shared.specs.private.Reading.{read_part}
use Rattle.nr_shared.proofs.Alone.{alone, alone_writes, part_piece, tries_more}
use Rattle.nr_shared.proofs.Asking.{fed_of, feeding_same}
use Rattle.nr_shared.proofs.Histories.{fed_end}
use Rattle.nr_shared.proofs.FeedsOn.{lies_same}
use Rattle.nr_shared.proofs.shared.SharedRequester.feed.Goals as goal

pub feed_under-out_of_memory-requires-clause-feeding : goal.feed_under-out_of_memory-requires-clause-feeding
feed_under-out_of_memory-requires-clause-feeding g c = let t = c.take_turn-turn.ensures.got.1 in
    let al = alone g.O.LinkSink.link g.O.Sink.taken g.O.Sink.faults g.C.CallRule.allows c.take_turn-turn.result.turnstile.now c.args.feeding.now (pass_of c.take_turn-turn.result) t.0 c.requires.lies t t.2 c.requires.feeding in
    let be = alone_writes (pass_of c.take_turn-turn.result) (pass_of c.drain_under.new.turn) c.drain_under.ensures.wrote t.7 al.feeding in
    be.feeding

pub feed_under-out_of_memory-requires-clause-goes : goal.feed_under-out_of_memory-requires-clause-goes
feed_under-out_of_memory-requires-clause-goes g c = let t = c.take_turn-turn.ensures.got.1 in
    let al = alone g.O.LinkSink.link g.O.Sink.taken g.O.Sink.faults g.C.CallRule.allows c.take_turn-turn.result.turnstile.now c.args.feeding.now (pass_of c.take_turn-turn.result) t.0 c.requires.lies t t.2 c.requires.feeding in
    let be = alone_writes (pass_of c.take_turn-turn.result) (pass_of c.drain_under.new.turn) c.drain_under.ensures.wrote t.7 al.feeding in
    let r = c.drain_under.ensures.ready in
    λ y has. ap (λ (z : RequesterWithSink g.row.O.Denot g.row.C.Denot). z.stopped) (same_value _ y r.value has.1 r.has.1) ∙ (r.stands.stopped ∙ (ap (λ (l : PresentLink). l.stopped) (be.part ∙ al.part) ∙ c.requires.goes))

pub feed_under-out_of_memory-requires-clause-room : goal.feed_under-out_of_memory-requires-clause-room
feed_under-out_of_memory-requires-clause-room g c = let t = c.take_turn-turn.ensures.got.1 in
    let al = alone g.O.LinkSink.link g.O.Sink.taken g.O.Sink.faults g.C.CallRule.allows c.take_turn-turn.result.turnstile.now c.args.feeding.now (pass_of c.take_turn-turn.result) t.0 c.requires.lies t t.2 c.requires.feeding in
    let be = alone_writes (pass_of c.take_turn-turn.result) (pass_of c.drain_under.new.turn) c.drain_under.ensures.wrote t.7 al.feeding in
    subst (λ (b : List ℕ). length b + length c.args.piece.now ≤ read_max) (sym (be.bytes ∙ al.bytes)) c.requires.room

pub feed_under-out_of_memory-requires-clause-outstanding : goal.feed_under-out_of_memory-requires-clause-outstanding
feed_under-out_of_memory-requires-clause-outstanding g c = let t = c.take_turn-turn.ensures.got.1 in
    let al = alone g.O.LinkSink.link g.O.Sink.taken g.O.Sink.faults g.C.CallRule.allows c.take_turn-turn.result.turnstile.now c.args.feeding.now (pass_of c.take_turn-turn.result) t.0 c.requires.lies t t.2 c.requires.feeding in
    let be = alone_writes (pass_of c.take_turn-turn.result) (pass_of c.drain_under.new.turn) c.drain_under.ensures.wrote t.7 al.feeding in
    be.outstanding (al.outstanding c.requires.outstanding)

pub returns-clause-feeding : goal.returns-clause-feeding
returns-clause-feeding g c =
    subst (λ (z : Pass (RequesterWithSink g.row.O.Denot g.row.C.Denot) Entry). IsFeeding {O = g.row.O.Denot} z) (sym (c.feeding-1.given.1 (sym (c.drain_under-2.ensures.same.1 ∙ (c.feed_under-out_of_memory.ensures.same.1 ∙ (c.drain_under.ensures.same.1 ∙ c.take_turn-turn.ensures.borrow))))))
    (feeding_same (pass_of c.drain_under-2.new.turn) c.put_back.new.self.1.0 c.put_back.ensures.1 c.put_back.ensures.2
    (alone_writes (pass_of c.feed_under-out_of_memory.new.turn) (pass_of c.drain_under-2.new.turn) c.drain_under-2.ensures.wrote c.feed_under-out_of_memory.ensures.ready.lies c.feed_under-out_of_memory.ensures.feeding).feeding)

pub returns-clause-fed : goal.returns-clause-fed
returns-clause-fed g c = let t = c.take_turn-turn.ensures.got.1 in let seen = seen_by (pass_of c.drain_under.new.turn) in let out = c.feed_under-out_of_memory.result in let piece = c.args.piece.now in
    let al = alone g.O.LinkSink.link g.O.Sink.taken g.O.Sink.faults g.C.CallRule.allows c.take_turn-turn.result.turnstile.now c.args.feeding.now (pass_of c.take_turn-turn.result) t.0 c.requires.lies t t.2 c.requires.feeding in
    let be = alone_writes (pass_of c.take_turn-turn.result) (pass_of c.drain_under.new.turn) c.drain_under.ensures.wrote t.7 al.feeding in
    subst (λ (z : Pass (RequesterWithSink g.row.O.Denot g.row.C.Denot) Entry). bytes_fed (seen_by z) ≡ bytes_fed (seen_by c.args.feeding.now) ++ piece) (sym (c.feeding-1.given.1 (sym (c.drain_under-2.ensures.same.1 ∙ (c.feed_under-out_of_memory.ensures.same.1 ∙ (c.drain_under.ensures.same.1 ∙ c.take_turn-turn.ensures.borrow))))))
    (ap (λ (l : List Entry). bytes_fed l) c.put_back.ensures.1
    ∙ ((alone_writes (pass_of c.feed_under-out_of_memory.new.turn) (pass_of c.drain_under-2.new.turn) c.drain_under-2.ensures.wrote c.feed_under-out_of_memory.ensures.ready.lies c.feed_under-out_of_memory.ensures.feeding).bytes
    ∙ (ap (λ (l : List Entry). bytes_fed l) c.feed_under-out_of_memory.ensures.seen
    ∙ (fed_end seen (fed_after seen out piece)
    ∙ (ap (λ (l : List ℕ). bytes_fed seen ++ l) (fed_of out piece (place_or_none (last_feeding seen)))
    ∙ ap (λ (l : List ℕ). l ++ piece) (be.bytes ∙ al.bytes))))))

pub returns-clause-lies : goal.returns-clause-lies
returns-clause-lies g c =
    subst (λ (z : Pass (RequesterWithSink g.row.O.Denot g.row.C.Denot) Entry). Lies (seen_by z) (mine_of z)) (sym (c.feeding-1.given.1 (sym (c.drain_under-2.ensures.same.1 ∙ (c.feed_under-out_of_memory.ensures.same.1 ∙ (c.drain_under.ensures.same.1 ∙ c.take_turn-turn.ensures.borrow))))))
    (lies_same (pass_of c.drain_under-2.new.turn) c.put_back.new.self.1.0 c.put_back.ensures.1 c.put_back.ensures.2 c.drain_under-2.ensures.ready.lies)

pub returns-clause-present : goal.returns-clause-present
returns-clause-present g c = let t = c.take_turn-turn.ensures.got.1 in let seen = seen_by (pass_of c.drain_under.new.turn) in let out = c.feed_under-out_of_memory.result in let piece = c.args.piece.now in
    let al = alone g.O.LinkSink.link g.O.Sink.taken g.O.Sink.faults g.C.CallRule.allows c.take_turn-turn.result.turnstile.now c.args.feeding.now (pass_of c.take_turn-turn.result) t.0 c.requires.lies t t.2 c.requires.feeding in
    let be = alone_writes (pass_of c.take_turn-turn.result) (pass_of c.drain_under.new.turn) c.drain_under.ensures.wrote t.7 al.feeding in
    subst (λ (z : Pass (RequesterWithSink g.row.O.Denot g.row.C.Denot) Entry). read_part (present (seen_by z)) ≡ present_after (read_part (present (seen_by c.args.feeding.now))) (fed_entry out piece 0)) (sym (c.feeding-1.given.1 (sym (c.drain_under-2.ensures.same.1 ∙ (c.feed_under-out_of_memory.ensures.same.1 ∙ (c.drain_under.ensures.same.1 ∙ c.take_turn-turn.ensures.borrow))))))
    (ap (λ (l : List Entry). read_part (present l)) c.put_back.ensures.1
    ∙ ((alone_writes (pass_of c.feed_under-out_of_memory.new.turn) (pass_of c.drain_under-2.new.turn) c.drain_under-2.ensures.wrote c.feed_under-out_of_memory.ensures.ready.lies c.feed_under-out_of_memory.ensures.feeding).part
    ∙ (ap (λ (l : List Entry). read_part (present l)) c.feed_under-out_of_memory.ensures.seen
    ∙ (part_piece seen out piece (place_or_none (last_feeding seen)) ∙ ap (λ (l : PresentLink). present_after l (fed_entry out piece 0)) (be.part ∙ al.part)))))

pub returns-clause-tries : goal.returns-clause-tries
returns-clause-tries g c = let t = c.take_turn-turn.ensures.got.1 in let seen = seen_by (pass_of c.drain_under.new.turn) in let out = c.feed_under-out_of_memory.result in let piece = c.args.piece.now in
    let al = alone g.O.LinkSink.link g.O.Sink.taken g.O.Sink.faults g.C.CallRule.allows c.take_turn-turn.result.turnstile.now c.args.feeding.now (pass_of c.take_turn-turn.result) t.0 c.requires.lies t t.2 c.requires.feeding in
    let be = alone_writes (pass_of c.take_turn-turn.result) (pass_of c.drain_under.new.turn) c.drain_under.ensures.wrote t.7 al.feeding in
    subst (λ (z : Pass (RequesterWithSink g.row.O.Denot g.row.C.Denot) Entry). tries_of (seen_by z) ≡ tries_of (seen_by c.args.feeding.now)) (sym (c.feeding-1.given.1 (sym (c.drain_under-2.ensures.same.1 ∙ (c.feed_under-out_of_memory.ensures.same.1 ∙ (c.drain_under.ensures.same.1 ∙ c.take_turn-turn.ensures.borrow))))))
    (ap (λ (l : List Entry). tries_of l) c.put_back.ensures.1
    ∙ (ap tries_in (alone_writes (pass_of c.feed_under-out_of_memory.new.turn) (pass_of c.drain_under-2.new.turn) c.drain_under-2.ensures.wrote c.feed_under-out_of_memory.ensures.ready.lies c.feed_under-out_of_memory.ensures.feeding).initial_is
    ∙ (ap (λ (l : List Entry). tries_of l) c.feed_under-out_of_memory.ensures.seen
    ∙ (tries_more seen (fed_after seen out piece) be.feeding.initial be.feeding.is_initial ∙ ap tries_in (be.initial_is ∙ al.initial_is)))))
