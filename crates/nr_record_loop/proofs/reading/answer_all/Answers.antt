use Rattle.std.proofs.Common.{ℕ, ◌+◌, List, sym, ap, subst, ◌∙◌}
use Rattle.nr_record.specs.Records.{contents}
use Rattle.nr_record.specs.RecordsState.{IsAt, RecordsState, RepresentsStream, kept}
use Rattle.nr_record_loop.specs.private.Steps.{AnswerEnds, end_at}
use Rattle.nr_record_loop.specs.declared.loop_end.LoopEnd.{LoopEnd}
use Rattle.nr_record_loop.proofs.Ends.{answer_none, answer_on, on_ends, steps_on, stop_ends}
use Rattle.nr_record_loop.proofs.reading.answer_all.Goals as goal

pub loop-call-preserved : goal.loop-call-preserved
loop-call-preserved g c =
    let (rests, same, fault, count, faults, place, on) = c.loop-call.invariant in
    let next : (stream : List ℕ) (n : ℕ) (s : RepresentsStream (kept c.loop-call.records) stream n) → IsAt (contents s.cuts) n c.as_slice.result.now × RepresentsStream (kept c.next_record.new.self) stream (n + 1) =
    λ stream n s. (subst (λ (b : List ℕ). IsAt (contents s.cuts) n b) (sym c.as_slice.ensures) (c.in-Some.ensures.next stream n s).0, (c.in-Some.ensures.next stream n s).1) in (
      c.answer.ensures.rests,
      λ first held. c.answer.ensures.same first (same first held),
      ap (λ (k : RecordsState). k.fault) c.next_record.ensures.others ∙ fault,
      ap (λ (k : RecordsState). k.count) c.next_record.ensures.others ∙ count,
      c.in-Ok.ensures.counted ∙ faults,
      λ stream taken s. c.at-at-in-Some.ensures stream taken s,
      steps_on g.A.Answers.did (kept c.args.records.now) (kept c.loop-call.records) (kept c.next_record.new.self) (g.O.Sink.taken c.args.sink.now) (g.O.Sink.taken c.loop-call.sink) (g.O.Sink.taken c.answer.new.sink)
          c.args.answers.now c.loop-call.answers c.answer.new.answers on
          (answer_on g.A.Answers.did (kept c.loop-call.records) (kept c.next_record.new.self) (g.O.Sink.taken c.loop-call.sink) (g.O.Sink.taken c.answer.new.sink)
          c.loop-call.answers c.answer.new.answers c.as_slice.result.now next c.in-Ok.ensures.ok),
    )

pub returns-in-Err-clause-err : goal.returns-in-Err-clause-err
returns-in-Err-clause-err g c =
    let (rests, same, fault, count, faults, place, on) = c.loop-call.invariant in
    let next : (stream : List ℕ) (n : ℕ) (s : RepresentsStream (kept c.loop-call.records) stream n) → IsAt (contents s.cuts) n c.as_slice.result.now × RepresentsStream (kept c.next_record.new.self) stream (n + 1) =
    λ stream n s. (subst (λ (b : List ℕ). IsAt (contents s.cuts) n b) (sym c.as_slice.ensures) (c.in-Some.ensures.next stream n s).0, (c.in-Some.ensures.next stream n s).1) in
    let end : LoopEnd = end_at c.in-Err.stop c.loop-call.at in
    subst (λ (e : LoopEnd). AnswerEnds g.A.Answers.did e (kept c.args.records.now) (g.O.Sink.taken c.args.sink.now) (g.O.Sink.taken c.answer.new.sink) c.args.answers.now c.answer.new.answers) (sym c.end_of.ensures)
    (on_ends g.A.Answers.did end (kept c.args.records.now) (kept c.loop-call.records) (g.O.Sink.taken c.args.sink.now) (g.O.Sink.taken c.loop-call.sink) (g.O.Sink.taken c.answer.new.sink)
    c.args.answers.now c.loop-call.answers c.answer.new.answers on
    (stop_ends g.A.Answers.did (kept c.loop-call.records) (kept c.next_record.new.self) (g.O.Sink.taken c.loop-call.sink) (g.O.Sink.taken c.answer.new.sink)
    c.loop-call.answers c.answer.new.answers c.as_slice.result.now c.loop-call.at place next c.in-Err.stop c.in-Err.ensures.err))

pub returns-clause-ok : goal.returns-clause-ok
returns-clause-ok g c =
    let (rests, same, fault, count, faults, place, on) = c.loop-call.invariant in
    answer_none g.A.Answers.did (kept c.args.records.now) (kept c.loop-call.records) (kept c.next_record.new.self) (g.O.Sink.taken c.args.sink.now) (g.O.Sink.taken c.loop-call.sink)
    c.args.answers.now c.loop-call.answers on (λ stream n s. c.in_default.ensures.next stream n s) c.in_default.ensures.none
