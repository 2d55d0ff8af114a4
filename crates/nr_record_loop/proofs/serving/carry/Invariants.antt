use Rattle.std.proofs.Common.{◌≡◌, ◌-◌, ◌≤◌, None, length}
use Rattle.nr_links.specs.Limits.{piece_max, read_max}
use Rattle.nr_record.specs.RecordsState.{kept}
use Rattle.nr_record_loop.specs.Connections.{loop_at}
use Rattle.nr_record_loop.specs.private.Steps.{CarriesTo}
use Rattle.nr_record_loop.proofs.serving.carry.Given as goal

abbrev pub invariant-loop-read : goal.invariant-loop-read
invariant-loop-read g l =
    g.A.Answers.rests l.answers
    × ((first : g.row.A.Denot) → g.A.Answers.same first l.initial.answers → g.A.Answers.same first l.answers)
    × ((kept l.records).fault ≡ None)
    × (l.read ≤ read_max)
    × (length l.buf ≡ piece_max)
    × ((kept l.records).count ≤ l.read)
    × (g.I.Source.faults l.source ≡ g.I.Source.faults l.initial.source)
    × (g.O.Sink.faults l.sink ≡ g.O.Sink.faults l.initial.sink)
    × (CarriesTo g.A.Answers.did (loop_at (g.I.Source.left l.initial.source) (g.I.Source.given l.initial.source) (g.O.Sink.taken l.initial.sink) l.initial.answers)
    (loop_at (g.I.Source.left l.initial.source) (g.I.Source.given l.initial.source) (g.O.Sink.taken l.initial.sink) l.initial.answers) (kept l.initial.records) 0
    → CarriesTo g.A.Answers.did (loop_at (g.I.Source.left l.initial.source) (g.I.Source.given l.initial.source) (g.O.Sink.taken l.initial.sink) l.initial.answers)
    (loop_at (g.I.Source.left l.source) (g.I.Source.given l.source) (g.O.Sink.taken l.sink) l.answers) (kept l.records) l.read)

abbrev pub decreases-loop-read : goal.decreases-loop-read
decreases-loop-read g l = read_max - l.read
