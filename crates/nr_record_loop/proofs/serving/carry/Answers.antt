use Rattle.std.proofs.Common.{◌≡◌, ◌+◌, ◌<◌, ◌≤◌, ℕ, length, take, arith, sym, ap, subst, ◌∙◌}
use Rattle.nr_outside.specs.Content.{HandsOut}
use Rattle.nr_links.specs.Limits.{read_max}
use Rattle.nr_record.specs.RecordsState.{kept}
use Rattle.nr_record_loop.specs.Connections.{loop_at}
use Rattle.nr_record_loop.specs.private.Steps.{CarriesTo}
use Rattle.nr_record_loop.proofs.Carries.{carry_ends, carry_on, read_ends, read_enough, read_fails}
use Rattle.nr_record_loop.proofs.serving.carry.Goals as goal

pub returns-in-Err-clause-served : goal.returns-in-Err-clause-served
returns-in-Err-clause-served g c begins =
    let (rests, same, live, most, len, fed, faults, sinks, carries) = c.loop-read.invariant in
    let less : c.loop-read.read < read_max = omega (arith, c.loop-read-test.true) in
    read_fails g.A.Answers.did (loop_at (g.I.Source.left c.args.source.now) (g.I.Source.given c.args.source.now) (g.O.Sink.taken c.args.sink.now) c.args.answers.now)
    (g.I.Source.left c.loop-read.source) (g.I.Source.given c.loop-read.source) (g.I.Source.left c.read_part.new.source) (g.I.Source.given c.read_part.new.source) (g.O.Sink.taken c.loop-read.sink) c.loop-read.answers (kept c.loop-read.records) c.loop-read.read (carries begins)
    c.in-Err.ensures.err live less

pub returns-then-n-eq0-clause-served : goal.returns-then-n-eq0-clause-served
returns-then-n-eq0-clause-served g c begins =
    let (rests, same, live, most, len, fed, faults, sinks, carries) = c.loop-read.invariant in
    let less : c.loop-read.read < read_max = omega (arith, c.loop-read-test.true) in
    let none = subst (λ (k : ℕ). HandsOut (g.I.Source.left c.loop-read.source) (g.I.Source.given c.loop-read.source) (g.I.Source.left c.read_part.new.source) (g.I.Source.given c.read_part.new.source) (take k c.read_part.new.buf)) c.if-n-eq0.true c.in-Ok.ensures.handed in
    read_ends g.A.Answers.did (loop_at (g.I.Source.left c.args.source.now) (g.I.Source.given c.args.source.now) (g.O.Sink.taken c.args.sink.now) c.args.answers.now)
    (g.I.Source.left c.loop-read.source) (g.I.Source.given c.loop-read.source) (g.I.Source.left c.read_part.new.source) (g.I.Source.given c.read_part.new.source) (g.O.Sink.taken c.loop-read.sink) c.loop-read.answers (kept c.loop-read.records) c.loop-read.read (carries begins)
    c.at_end.result none (c.in-Ok.ensures.end c.if-n-eq0.true (omega arith)) live less c.at_end.ensures.end

pub returns-in-Err-take_in-clause-served : goal.returns-in-Err-take_in-clause-served
returns-in-Err-take_in-clause-served g c begins =
    let (rests, same, live, most, len, fed, faults, sinks, carries) = c.loop-read.invariant in
    let hands = subst (HandsOut (g.I.Source.left c.loop-read.source) (g.I.Source.given c.loop-read.source) (g.I.Source.left c.read_part.new.source) (g.I.Source.given c.read_part.new.source)) (sym c.split_at.ensures.front) c.in-Ok.ensures.handed in
    let bound = c.in-Ok.ensures.bound in
    let more = c.loop-read-test.true in
    let front = c.split_at.ensures.front_len in
    let room = c.min-room.ensures in
    let within : c.loop-read.read + length c.split_at.result.0.now ≤ read_max = omega (arith, bound, more, room, most, front) in
    carry_ends g.A.Answers.did (loop_at (g.I.Source.left c.args.source.now) (g.I.Source.given c.args.source.now) (g.O.Sink.taken c.args.sink.now) c.args.answers.now)
    (g.I.Source.left c.loop-read.source) (g.I.Source.given c.loop-read.source) (g.I.Source.left c.read_part.new.source) (g.I.Source.given c.read_part.new.source) (g.O.Sink.taken c.loop-read.sink) c.loop-read.answers (kept c.loop-read.records) c.loop-read.read (carries begins)
    c.split_at.result.0.now hands c.in-Err-take_in.end (g.O.Sink.taken c.take_in.new.sink) c.take_in.new.answers within c.in-Err-take_in.ensures.err

pub returns-clause-served : goal.returns-clause-served
returns-clause-served g c begins =
    let (rests, same, live, most, len, fed, faults, sinks, carries) = c.loop-read.invariant in
    let all : c.loop-read.read ≡ read_max = omega (arith, most, c.loop-read-test.false) in
    read_enough g.A.Answers.did (loop_at (g.I.Source.left c.args.source.now) (g.I.Source.given c.args.source.now) (g.O.Sink.taken c.args.sink.now) c.args.answers.now)
    (g.I.Source.left c.loop-read.source) (g.I.Source.given c.loop-read.source) (g.I.Source.left c.loop-read.source) (g.I.Source.given c.loop-read.source) (g.O.Sink.taken c.loop-read.sink) c.loop-read.answers (kept c.loop-read.records) c.loop-read.read (carries begins)
    live all

pub loop-read-preserved : goal.loop-read-preserved
loop-read-preserved g c =
    let (rests, same, live, most, len, fed, faults, sinks, carries) = c.loop-read.invariant in
    let bound = c.in-Ok.ensures.bound in
    let more = c.loop-read-test.true in
    let front = c.split_at.ensures.front_len in
    let room = c.min-room.ensures in
    let hands = subst (HandsOut (g.I.Source.left c.loop-read.source) (g.I.Source.given c.loop-read.source) (g.I.Source.left c.read_part.new.source) (g.I.Source.given c.read_part.new.source)) (sym c.split_at.ensures.front) c.in-Ok.ensures.handed in
    let counts = c.take_in.ensures.count in
    let count : c.loop-read.read + length c.split_at.result.0.now ≡ c.loop-read.read + c.in-Ok.n = ap (λ (k : ℕ). c.loop-read.read + k) front in (
      c.take_in.ensures.rests,
      λ first held. c.take_in.ensures.same first (same first held),
      c.in-Ok-take_in.ensures.fault,
      omega (arith, bound, more, room, most),
      c.read_part.ensures.len ∙ len,
      omega (arith, fed, counts, front),
      c.in-Ok.ensures.counted ∙ faults,
      c.in-Ok-take_in.ensures.counted ∙ sinks,
      λ begins. subst (λ (k : ℕ). CarriesTo g.A.Answers.did (loop_at (g.I.Source.left c.args.source.now) (g.I.Source.given c.args.source.now) (g.O.Sink.taken c.args.sink.now) c.args.answers.now) (loop_at (g.I.Source.left c.read_part.new.source) (g.I.Source.given c.read_part.new.source) (g.O.Sink.taken c.take_in.new.sink) c.take_in.new.answers) (kept c.take_in.new.records) k) count
          (carry_on g.A.Answers.did (loop_at (g.I.Source.left c.args.source.now) (g.I.Source.given c.args.source.now) (g.O.Sink.taken c.args.sink.now) c.args.answers.now)
          (g.I.Source.left c.loop-read.source) (g.I.Source.given c.loop-read.source) (g.I.Source.left c.read_part.new.source) (g.I.Source.given c.read_part.new.source) (g.O.Sink.taken c.loop-read.sink) c.loop-read.answers (kept c.loop-read.records) c.loop-read.read (carries begins)
          c.split_at.result.0.now hands (kept c.take_in.new.records) (g.O.Sink.taken c.take_in.new.sink) c.take_in.new.answers c.in-Ok-take_in.ensures.ok),
    )
