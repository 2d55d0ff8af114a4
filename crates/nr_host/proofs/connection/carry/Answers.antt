use Rattle.nr_plain.specs.History.{pass_view}
use Rattle.std.proofs.Common.{◌≡◌, ◌+◌, ◌<◌, ℕ, Bool, true, false, [], length, take, arith, refl, sym, ap, subst, ◌∙◌}
use Rattle.nr_outside.specs.Content.{HandsOut}
use Rattle.nr_links.specs.Limits.{read_max}
use Rattle.nr_host.specs.Ending.{SinkCount, SourceCount}
use Rattle.nr_host.specs.Steps.{CarriesTo, FaultsAt, FeedsTo, outside, sink_state}
use Rattle.nr_host.proofs.Carries.{carry_ends, carry_on, has_read, nothing_read, read_ends, read_enough, read_fails, write_failed}
use Rattle.nr_host.proofs.connection.carry.Goals as goal

pub returns-in-Err-clause-served : goal.returns-in-Err-clause-served
returns-in-Err-clause-served g c limits begins =
    let (rests, live, most, len, fed, faults, sinks, written, carries) = c.loop-read.invariant in
    let first = (outside (g.I.Source.left c.args.source.now) (g.I.Source.given c.args.source.now) (sink_state (g.O.Sink.taken c.args.sink.now) (g.O.Sink.faults c.args.sink.now) false) (g.C.Clock.gave c.args.clock.now) (pass_view c.args.pass.now)) in
    let less : c.loop-read.read + 0 < read_max = omega (arith, c.loop-read-test.true) in
    read_fails limits first (outside (g.I.Source.left c.read_part.new.source) (g.I.Source.given c.read_part.new.source) (sink_state (g.O.Sink.taken c.loop-read.sink) (g.O.Sink.faults c.loop-read.sink) false) (g.C.Clock.gave c.loop-read.clock) (pass_view c.loop-read.pass)) c.loop-read.responder.side (c.loop-read.read + 0)
    (nothing_read limits first (g.I.Source.left c.loop-read.source) (g.I.Source.given c.loop-read.source) (g.I.Source.left c.read_part.new.source) (g.I.Source.given c.read_part.new.source)
    (sink_state (g.O.Sink.taken c.loop-read.sink) (g.O.Sink.faults c.loop-read.sink) false) (g.C.Clock.gave c.loop-read.clock) (pass_view c.loop-read.pass) c.loop-read.responder.side c.loop-read.read (carries limits begins) c.in-Err.ensures.err) live less refl

pub returns-then-n-eq0-clause-served : goal.returns-then-n-eq0-clause-served
returns-then-n-eq0-clause-served g c limits begins =
    let (rests, live, most, len, fed, faults, sinks, written, carries) = c.loop-read.invariant in
    let first = (outside (g.I.Source.left c.args.source.now) (g.I.Source.given c.args.source.now) (sink_state (g.O.Sink.taken c.args.sink.now) (g.O.Sink.faults c.args.sink.now) false) (g.C.Clock.gave c.args.clock.now) (pass_view c.args.pass.now)) in
    let none = subst (λ (k : ℕ). HandsOut (g.I.Source.left c.loop-read.source) (g.I.Source.given c.loop-read.source) (g.I.Source.left c.read_part.new.source) (g.I.Source.given c.read_part.new.source) (take k c.read_part.new.buf)) c.if-n-eq0.true c.in-Ok.ensures.handed in
    read_ends limits first (outside (g.I.Source.left c.read_part.new.source) (g.I.Source.given c.read_part.new.source) (sink_state (g.O.Sink.taken c.loop-read.sink) (g.O.Sink.faults c.loop-read.sink) false) (g.C.Clock.gave c.loop-read.clock) (pass_view c.loop-read.pass)) c.loop-read.responder.side c.loop-read.read c.at_end.result
    (nothing_read limits first (g.I.Source.left c.loop-read.source) (g.I.Source.given c.loop-read.source) (g.I.Source.left c.read_part.new.source) (g.I.Source.given c.read_part.new.source)
    (sink_state (g.O.Sink.taken c.loop-read.sink) (g.O.Sink.faults c.loop-read.sink) false) (g.C.Clock.gave c.loop-read.clock) (pass_view c.loop-read.pass) c.loop-read.responder.side c.loop-read.read (carries limits begins) none)
    (c.in-Ok.ensures.end c.if-n-eq0.true (omega arith)) c.at_end.ensures.idle c.at_end.ensures.ahead c.at_end.ensures.more (c.at_end.ensures.read c.loop-read-test.true) c.at_end.ensures.failed

pub returns-in-Err-feed_all-clause-served : goal.returns-in-Err-feed_all-clause-served
returns-in-Err-feed_all-clause-served g c limits begins =
    let (rests, live, most, len, fed, faults, sinks, written, carries) = c.loop-read.invariant in
    let first = (outside (g.I.Source.left c.args.source.now) (g.I.Source.given c.args.source.now) (sink_state (g.O.Sink.taken c.args.sink.now) (g.O.Sink.faults c.args.sink.now) false) (g.C.Clock.gave c.args.clock.now) (pass_view c.args.pass.now)) in
    let hands = subst (HandsOut (g.I.Source.left c.loop-read.source) (g.I.Source.given c.loop-read.source) (g.I.Source.left c.read_part.new.source) (g.I.Source.given c.read_part.new.source)) (sym c.split_at.ensures.front) c.in-Ok.ensures.handed in
    let bound = c.in-Ok.ensures.bound in
    let more = c.loop-read-test.true in
    let front = c.split_at.ensures.front_len in
    let room = c.min-room.ensures in
    let some = c.if-n-eq0.false in
    let within = has_read (c.loop-read.read + length c.split_at.result.0.now) (omega (arith, some, front)) (omega (arith, bound, more, room, most, front)) in
    carry_ends limits first (g.I.Source.left c.loop-read.source) (g.I.Source.given c.loop-read.source) (g.I.Source.left c.read_part.new.source) (g.I.Source.given c.read_part.new.source)
    (sink_state (g.O.Sink.taken c.loop-read.sink) (g.O.Sink.faults c.loop-read.sink) false) (g.C.Clock.gave c.loop-read.clock) (pass_view c.loop-read.pass) c.loop-read.responder.side c.loop-read.read c.split_at.result.0.now (carries limits begins) hands
    c.in-Err-feed_all.end (g.O.Sink.taken c.feed_all.new.sink) (g.O.Sink.faults c.feed_all.new.sink) c.feed_all.new.failed (g.C.Clock.gave c.feed_all.new.clock) (pass_view c.feed_all.new.pass) within c.in-Err-feed_all.ensures.err

pub returns-then-failed-clause-served : goal.returns-then-failed-clause-served
returns-then-failed-clause-served g c limits begins =
    let (rests, live, most, len, fed, faults, sinks, written, carries) = c.loop-read.invariant in
    let first = (outside (g.I.Source.left c.args.source.now) (g.I.Source.given c.args.source.now) (sink_state (g.O.Sink.taken c.args.sink.now) (g.O.Sink.faults c.args.sink.now) false) (g.C.Clock.gave c.args.clock.now) (pass_view c.args.pass.now)) in
    let hands = subst (HandsOut (g.I.Source.left c.loop-read.source) (g.I.Source.given c.loop-read.source) (g.I.Source.left c.read_part.new.source) (g.I.Source.given c.read_part.new.source)) (sym c.split_at.ensures.front) c.in-Ok.ensures.handed in
    let bound = c.in-Ok.ensures.bound in
    let more = c.loop-read-test.true in
    let front = c.split_at.ensures.front_len in
    let room = c.min-room.ensures in
    let some = c.if-n-eq0.false in
    let within = has_read (c.loop-read.read + length c.split_at.result.0.now) (omega (arith, some, front)) (omega (arith, bound, more, room, most, front)) in
    write_failed limits first (outside (g.I.Source.left c.read_part.new.source) (g.I.Source.given c.read_part.new.source) (sink_state (g.O.Sink.taken c.feed_all.new.sink) (g.O.Sink.faults c.feed_all.new.sink) c.feed_all.new.failed) (g.C.Clock.gave c.feed_all.new.clock) (pass_view c.feed_all.new.pass)) c.feed_all.new.responder.side (c.loop-read.read + length c.split_at.result.0.now)
    (carry_on limits first (g.I.Source.left c.loop-read.source) (g.I.Source.given c.loop-read.source) (g.I.Source.left c.read_part.new.source) (g.I.Source.given c.read_part.new.source)
    (sink_state (g.O.Sink.taken c.loop-read.sink) (g.O.Sink.faults c.loop-read.sink) false) (g.C.Clock.gave c.loop-read.clock) (pass_view c.loop-read.pass) c.loop-read.responder.side c.loop-read.read c.split_at.result.0.now (carries limits begins) hands
    (sink_state (g.O.Sink.taken c.feed_all.new.sink) (g.O.Sink.faults c.feed_all.new.sink) c.feed_all.new.failed) (g.C.Clock.gave c.feed_all.new.clock) (pass_view c.feed_all.new.pass) c.feed_all.new.responder.side c.in-Ok-feed_all.ensures.ok)
    within c.if-failed.true

pub returns-clause-served : goal.returns-clause-served
returns-clause-served g c limits begins =
    let (rests, live, most, len, fed, faults, sinks, written, carries) = c.loop-read.invariant in
    let first = (outside (g.I.Source.left c.args.source.now) (g.I.Source.given c.args.source.now) (sink_state (g.O.Sink.taken c.args.sink.now) (g.O.Sink.faults c.args.sink.now) false) (g.C.Clock.gave c.args.clock.now) (pass_view c.args.pass.now)) in
    let all : c.loop-read.read ≡ read_max = omega (arith, most, c.loop-read-test.false) in
    read_enough limits first (outside (g.I.Source.left c.loop-read.source) (g.I.Source.given c.loop-read.source) (sink_state (g.O.Sink.taken c.loop-read.sink) (g.O.Sink.faults c.loop-read.sink) false) (g.C.Clock.gave c.loop-read.clock) (pass_view c.loop-read.pass))
    c.loop-read.responder.side c.loop-read.read (carries limits begins) live all refl

pub returns-then-n-eq0-clause-source_count : goal.returns-then-n-eq0-clause-source_count
returns-then-n-eq0-clause-source_count g c =
    let (rests, live, most, len, fed, faults, sinks, written, carries) = c.loop-read.invariant in
    subst (λ (after : ℕ). SourceCount c.at_end.result (g.I.Source.faults c.args.source.now) after) (sym (c.in-Ok.ensures.counted ∙ faults)) (c.at_end.ensures.source (g.I.Source.faults c.args.source.now))

pub returns-then-n-eq0-clause-sink_count : goal.returns-then-n-eq0-clause-sink_count
returns-then-n-eq0-clause-sink_count g c =
    let (rests, live, most, len, fed, faults, sinks, written, carries) = c.loop-read.invariant in
    subst (λ (after : ℕ). SinkCount c.at_end.result (g.O.Sink.faults c.args.sink.now) after) (sym sinks) (c.at_end.ensures.sink (g.O.Sink.faults c.args.sink.now))

pub returns-in-Err-feed_all-clause-source_count : goal.returns-in-Err-feed_all-clause-source_count
returns-in-Err-feed_all-clause-source_count g c =
    let (rests, live, most, len, fed, faults, sinks, written, carries) = c.loop-read.invariant in
    subst (λ (after : ℕ). SourceCount c.in-Err-feed_all.end (g.I.Source.faults c.args.source.now) after) (sym (c.in-Ok.ensures.counted ∙ faults)) (c.in-Err-feed_all.ensures.source (g.I.Source.faults c.args.source.now))

pub returns-in-Err-feed_all-clause-sink_count : goal.returns-in-Err-feed_all-clause-sink_count
returns-in-Err-feed_all-clause-sink_count g c =
    let (rests, live, most, len, fed, faults, sinks, written, carries) = c.loop-read.invariant in
    subst (λ (before : ℕ). SinkCount c.in-Err-feed_all.end before (g.O.Sink.faults c.feed_all.new.sink)) sinks c.in-Err-feed_all.ensures.count

pub returns-then-failed-clause-sink_count : goal.returns-then-failed-clause-sink_count
returns-then-failed-clause-sink_count g c =
    let (rests, live, most, len, fed, faults, sinks, written, carries) = c.loop-read.invariant in
    subst (λ (before : ℕ). FaultsAt true before (g.O.Sink.faults c.feed_all.new.sink)) sinks
    (subst (λ (b : Bool). FaultsAt b (g.O.Sink.faults c.loop-read.sink) (g.O.Sink.faults c.feed_all.new.sink)) c.if-failed.true c.feed_all.ensures.counted)

pub loop-read-preserved : goal.loop-read-preserved
loop-read-preserved g c =
    let (rests, live, most, len, fed, faults, sinks, written, carries) = c.loop-read.invariant in
    let first = (outside (g.I.Source.left c.args.source.now) (g.I.Source.given c.args.source.now) (sink_state (g.O.Sink.taken c.args.sink.now) (g.O.Sink.faults c.args.sink.now) false) (g.C.Clock.gave c.args.clock.now) (pass_view c.args.pass.now)) in
    let bound = c.in-Ok.ensures.bound in
    let more = c.loop-read-test.true in
    let front = c.split_at.ensures.front_len in
    let room = c.min-room.ensures in
    let hands = subst (HandsOut (g.I.Source.left c.loop-read.source) (g.I.Source.given c.loop-read.source) (g.I.Source.left c.read_part.new.source) (g.I.Source.given c.read_part.new.source)) (sym c.split_at.ensures.front) c.in-Ok.ensures.handed in
    let feeds = c.in-Ok-feed_all.ensures.fed in
    let same = subst (λ (b : Bool). FaultsAt b (g.O.Sink.faults c.loop-read.sink) (g.O.Sink.faults c.feed_all.new.sink)) c.if-failed.false c.feed_all.ensures.counted in
    let on = subst (λ (b : Bool). FeedsTo c.split_at.result.0.now [] (sink_state (g.O.Sink.taken c.loop-read.sink) (g.O.Sink.faults c.loop-read.sink) false) (sink_state (g.O.Sink.taken c.feed_all.new.sink) (g.O.Sink.faults c.feed_all.new.sink) b)
    (g.C.Clock.gave c.loop-read.clock) (g.C.Clock.gave c.feed_all.new.clock) (pass_view c.loop-read.pass) (pass_view c.feed_all.new.pass) c.loop-read.responder.side c.feed_all.new.responder.side) c.if-failed.false c.in-Ok-feed_all.ensures.ok in
    let count : c.loop-read.read + length c.split_at.result.0.now ≡ c.loop-read.read + c.in-Ok.n = ap (λ (k : ℕ). c.loop-read.read + k) front in (
      c.feed_all.ensures.rests,
      c.in-Ok-feed_all.ensures.live,
      omega (arith, bound, more, room, most),
      c.read_part.ensures.len ∙ len,
      omega (arith, fed, feeds, front),
      c.in-Ok.ensures.counted ∙ faults,
      same ∙ sinks,
      c.if-failed.false,
      λ limits begins.
          subst (λ (k : ℕ). CarriesTo limits first (outside (g.I.Source.left c.read_part.new.source) (g.I.Source.given c.read_part.new.source) (sink_state (g.O.Sink.taken c.feed_all.new.sink) (g.O.Sink.faults c.feed_all.new.sink) false) (g.C.Clock.gave c.feed_all.new.clock) (pass_view c.feed_all.new.pass)) c.feed_all.new.responder.side k) count
          (carry_on limits first (g.I.Source.left c.loop-read.source) (g.I.Source.given c.loop-read.source) (g.I.Source.left c.read_part.new.source) (g.I.Source.given c.read_part.new.source)
          (sink_state (g.O.Sink.taken c.loop-read.sink) (g.O.Sink.faults c.loop-read.sink) false) (g.C.Clock.gave c.loop-read.clock) (pass_view c.loop-read.pass) c.loop-read.responder.side c.loop-read.read c.split_at.result.0.now (carries limits begins) hands
          (sink_state (g.O.Sink.taken c.feed_all.new.sink) (g.O.Sink.faults c.feed_all.new.sink) false) (g.C.Clock.gave c.feed_all.new.clock) (pass_view c.feed_all.new.pass) c.feed_all.new.responder.side on),
    )
