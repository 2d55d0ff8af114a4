use Rattle.std.proofs.Common.{refl, sym, subst}
use Rattle.nr_plain.specs.History.{pass_view}
use Rattle.nr_record_host.specs.RecordRuns.{IsRecordsServed, SinkCount, SourceCount, around}
use Rattle.nr_record_host.specs.declared.record_end.RecordEnd.{RecordEnd}
use Rattle.nr_record_host.proofs.PlainCalls.{did_nothing, never_unanswered, plainly_served, sink_same, source_same}
use Rattle.nr_record_host.proofs.serving.serve_plain.Goals as goal

pub serve_calls-requires-clause-nothing : goal.serve_calls-requires-clause-nothing
serve_calls-requires-clause-nothing g c = did_nothing (g.C.Clock.gave c.args.answers.now.clock.now) (pass_view c.args.answers.now.pass.now)

pub end_of-requires : goal.end_of-requires
end_of-requires g c =
    never_unanswered (λ p. g.C.Clock.gave p.clock.now) (λ p. pass_view p.pass.now) (g.I.Source.left c.args.source.now) (g.I.Source.given c.args.source.now) (g.O.Sink.taken c.args.sink.now)
    (g.I.Source.left c.serve_calls.new.source) (g.I.Source.given c.serve_calls.new.source) (g.O.Sink.taken c.serve_calls.new.sink) c.args.answers.now c.serve_calls.new.answers c.serve_calls.result
    c.serve_calls.ensures.served

pub returns-clause-served : goal.returns-clause-served
returns-clause-served g c =
    subst (λ (e : RecordEnd). IsRecordsServed (around (g.I.Source.left c.args.source.now) (g.I.Source.given c.args.source.now) (g.O.Sink.taken c.args.sink.now) (g.C.Clock.gave c.args.answers.now.clock.now) (pass_view c.args.answers.now.pass.now))
    (around (g.I.Source.left c.serve_calls.new.source) (g.I.Source.given c.serve_calls.new.source) (g.O.Sink.taken c.serve_calls.new.sink) (g.C.Clock.gave c.serve_calls.new.answers.clock.now) (pass_view c.serve_calls.new.answers.pass.now)) e) (sym c.end_of.ensures)
    (plainly_served (λ p. g.C.Clock.gave p.clock.now) (λ p. pass_view p.pass.now) (g.I.Source.left c.args.source.now) (g.I.Source.given c.args.source.now) (g.O.Sink.taken c.args.sink.now)
    (g.I.Source.left c.serve_calls.new.source) (g.I.Source.given c.serve_calls.new.source) (g.O.Sink.taken c.serve_calls.new.sink) c.args.answers.now c.serve_calls.new.answers c.serve_calls.result
    c.serve_calls.ensures.served)

pub returns-clause-source_count : goal.returns-clause-source_count
returns-clause-source_count g c =
    subst (λ (e : RecordEnd). SourceCount e (g.I.Source.faults c.args.source.now) (g.I.Source.faults c.serve_calls.new.source)) (sym c.end_of.ensures)
    (source_same c.serve_calls.result (g.I.Source.faults c.args.source.now) (g.I.Source.faults c.serve_calls.new.source) c.serve_calls.ensures.source_count)

pub returns-clause-sink_count : goal.returns-clause-sink_count
returns-clause-sink_count g c =
    subst (λ (e : RecordEnd). SinkCount e (g.O.Sink.faults c.args.sink.now) (g.O.Sink.faults c.serve_calls.new.sink)) (sym c.end_of.ensures)
    (sink_same c.serve_calls.result (g.O.Sink.faults c.args.sink.now) (g.O.Sink.faults c.serve_calls.new.sink) c.serve_calls.ensures.sink_count)

pub returns-clause-rests : goal.returns-clause-rests
returns-clause-rests g c = c.serve_calls.ensures.rests

pub returns-clause-shared : goal.returns-clause-shared
returns-clause-shared g c = (c.serve_calls.ensures.same c.args.answers.now (refl, (refl, refl))).0

pub returns-clause-pass : goal.returns-clause-pass
returns-clause-pass g c = (c.serve_calls.ensures.same c.args.answers.now (refl, (refl, refl))).1.0

pub returns-clause-clock : goal.returns-clause-clock
returns-clause-clock g c = (c.serve_calls.ensures.same c.args.answers.now (refl, (refl, refl))).1.1
