use Rattle.std.proofs.Common.{◌≡◌, List, append-nil, sym, ap, subst, ◌∙◌}
use Rattle.nr_turnstile.specs.declared.turnstile.Pass.{Pass}
use Rattle.nr_turnstile.specs.Rule.{Lies}
use Rattle.nr_turnstile.specs.Passes.{mine_of, seen_by}
use Rattle.nr_turnstile.specs.Turns.{pass_of}
use Rattle.nr_shared.specs.declared.entry.Entry.{Entry}
use Rattle.nr_shared.specs.declared.entry.Entry.TheVariants as entries
use Rattle.nr_shared.specs.declared.requester_with_sink.RequesterWithSink.{RequesterWithSink}
use Rattle.nr_shared.specs.Callers.{IsFeeding}
use Rattle.nr_shared.specs.Draining.{stopped_after}
use Rattle.nr_shared.specs.Histories.{PresentLink, bytes_fed, last_feeding, place_or_none, present, present_after, tries_in, tries_of}
use Rattle.nr_shared.specs.private.Reading.{read_part}
use Rattle.nr_shared.proofs.Alone.{alone, may_read, not_memory, part_stop, tries_more}
use Rattle.nr_shared.proofs.Asking.{feeding_same}
use Rattle.nr_shared.proofs.Histories.{fed_end}
use Rattle.nr_shared.proofs.FeedsOn.{lies_same}
use Rattle.nr_shared.proofs.shared.SharedRequester.stop.Goals as goal

pub stop_under-requires-clause-feeding : goal.stop_under-requires-clause-feeding
stop_under-requires-clause-feeding g c = let t = c.take_turn-turn.ensures.got.1 in
    let al = alone g.O.LinkSink.link g.O.Sink.taken g.O.Sink.faults g.C.CallRule.allows c.take_turn-turn.result.turnstile.now c.args.feeding.now (pass_of c.take_turn-turn.result) t.0 c.requires.lies t t.2 c.requires.feeding in
    al.feeding

pub stop_under-requires-clause-cause : goal.stop_under-requires-clause-cause
stop_under-requires-clause-cause g c = not_memory c.args.cause c.requires.cause

pub stop_under-requires-clause-may : goal.stop_under-requires-clause-may
stop_under-requires-clause-may g c = let t = c.take_turn-turn.ensures.got.1 in
    let al = alone g.O.LinkSink.link g.O.Sink.taken g.O.Sink.faults g.C.CallRule.allows c.take_turn-turn.result.turnstile.now c.args.feeding.now (pass_of c.take_turn-turn.result) t.0 c.requires.lies t t.2 c.requires.feeding in
    may_read c.args.cause (seen_by (pass_of c.take_turn-turn.result)) c.requires.cause (ap (λ (l : PresentLink). l.stopped) al.part ∙ c.requires.goes, al.outstanding c.requires.outstanding)

pub returns-clause-feeding : goal.returns-clause-feeding
returns-clause-feeding g c =
    subst (λ (z : Pass (RequesterWithSink g.row.O.Denot g.row.C.Denot) Entry). IsFeeding {O = g.row.O.Denot} z) (sym (c.feeding-1.given.1 (sym (c.stop_under.ensures.same.1 ∙ c.take_turn-turn.ensures.borrow))))
    (feeding_same (pass_of c.stop_under.new.turn) c.put_back.new.self.1.0 c.put_back.ensures.1 c.put_back.ensures.2 c.stop_under.ensures.feeding)

pub returns-clause-present : goal.returns-clause-present
returns-clause-present g c = let t = c.take_turn-turn.ensures.got.1 in
    let seen = seen_by (pass_of c.take_turn-turn.result) in let cause = c.args.cause in
    let al = alone g.O.LinkSink.link g.O.Sink.taken g.O.Sink.faults g.C.CallRule.allows c.take_turn-turn.result.turnstile.now c.args.feeding.now (pass_of c.take_turn-turn.result) t.0 c.requires.lies t t.2 c.requires.feeding in
    subst (λ (z : Pass (RequesterWithSink g.row.O.Denot g.row.C.Denot) Entry). read_part (present (seen_by z)) ≡ present_after (read_part (present (seen_by c.args.feeding.now))) (entries.Stopped cause 0)) (sym (c.feeding-1.given.1 (sym (c.stop_under.ensures.same.1 ∙ c.take_turn-turn.ensures.borrow))))
    (ap (λ (l : List Entry). read_part (present l)) (c.put_back.ensures.1 ∙ c.stop_under.ensures.seen)
    ∙ (part_stop seen cause (place_or_none (last_feeding seen)) ∙ ap (λ (l : PresentLink). present_after l (entries.Stopped cause 0)) al.part))

pub returns-clause-tries : goal.returns-clause-tries
returns-clause-tries g c = let t = c.take_turn-turn.ensures.got.1 in
    let seen = seen_by (pass_of c.take_turn-turn.result) in
    let al = alone g.O.LinkSink.link g.O.Sink.taken g.O.Sink.faults g.C.CallRule.allows c.take_turn-turn.result.turnstile.now c.args.feeding.now (pass_of c.take_turn-turn.result) t.0 c.requires.lies t t.2 c.requires.feeding in
    subst (λ (z : Pass (RequesterWithSink g.row.O.Denot g.row.C.Denot) Entry). tries_of (seen_by z) ≡ tries_of (seen_by c.args.feeding.now)) (sym (c.feeding-1.given.1 (sym (c.stop_under.ensures.same.1 ∙ c.take_turn-turn.ensures.borrow))))
    (ap (λ (l : List Entry). tries_of l) (c.put_back.ensures.1 ∙ c.stop_under.ensures.seen)
    ∙ (tries_more seen (stopped_after seen c.args.cause) al.feeding.initial al.feeding.is_initial ∙ ap tries_in al.initial_is))

pub returns-clause-fed : goal.returns-clause-fed
returns-clause-fed g c = let t = c.take_turn-turn.ensures.got.1 in
    let seen = seen_by (pass_of c.take_turn-turn.result) in let cause = c.args.cause in
    let al = alone g.O.LinkSink.link g.O.Sink.taken g.O.Sink.faults g.C.CallRule.allows c.take_turn-turn.result.turnstile.now c.args.feeding.now (pass_of c.take_turn-turn.result) t.0 c.requires.lies t t.2 c.requires.feeding in
    subst (λ (z : Pass (RequesterWithSink g.row.O.Denot g.row.C.Denot) Entry). bytes_fed (seen_by z) ≡ bytes_fed (seen_by c.args.feeding.now)) (sym (c.feeding-1.given.1 (sym (c.stop_under.ensures.same.1 ∙ c.take_turn-turn.ensures.borrow))))
    (ap (λ (l : List Entry). bytes_fed l) (c.put_back.ensures.1 ∙ c.stop_under.ensures.seen)
    ∙ (fed_end seen (stopped_after seen cause) ∙ (append-nil (bytes_fed seen) ∙ al.bytes)))

pub returns-clause-lies : goal.returns-clause-lies
returns-clause-lies g c =
    subst (λ (z : Pass (RequesterWithSink g.row.O.Denot g.row.C.Denot) Entry). Lies (seen_by z) (mine_of z)) (sym (c.feeding-1.given.1 (sym (c.stop_under.ensures.same.1 ∙ c.take_turn-turn.ensures.borrow))))
    (lies_same (pass_of c.stop_under.new.turn) c.put_back.new.self.1.0 c.put_back.ensures.1 c.put_back.ensures.2 c.stop_under.ensures.ready.lies)
