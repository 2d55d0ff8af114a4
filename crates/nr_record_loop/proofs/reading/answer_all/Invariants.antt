use Rattle.std.proofs.Common.{◌≡◌, length}
use Rattle.nr_record.specs.RecordsState.{kept}
use Rattle.nr_record_loop.specs.private.Steps.{AnswersOn, IsPlace}
use Rattle.nr_record_loop.proofs.reading.answer_all.Given as goal

abbrev pub invariant-loop-call : goal.invariant-loop-call
invariant-loop-call g l =
    g.A.Answers.rests l.answers
    × ((first : g.row.A.Denot) → g.A.Answers.same first l.initial.answers → g.A.Answers.same first l.answers)
    × ((kept l.records).fault ≡ (kept l.initial.records).fault)
    × ((kept l.records).count ≡ (kept l.initial.records).count)
    × (g.O.Sink.faults l.sink ≡ g.O.Sink.faults l.initial.sink)
    × IsPlace (kept l.records) l.at
    × AnswersOn g.A.Answers.did (kept l.initial.records) (kept l.records) (g.O.Sink.taken l.initial.sink) (g.O.Sink.taken l.sink)
    l.initial.answers l.answers

abbrev pub decreases-loop-call : goal.decreases-loop-call
decreases-loop-call g l = length (kept l.records).waiting
