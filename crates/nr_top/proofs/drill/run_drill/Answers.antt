use Rattle.nr_top.specs.Causes.{cause_of}
use Rattle.nr_outside.specs.Streams.{source_at, sink_at}
use Rattle.nr_top.proofs.Endings.{done_ends, ends_of}
use Rattle.nr_top.proofs.drill.run_drill.Goals as goal

pub returns-in-Err : goal.returns-in-Err
returns-in-Err g c =
    ends_of c.args.log (cause_of c.in-Err.stop) c.args.source c.report_failure.result
    (source_at (g.I.Source.left c.args.input.now) (g.I.Source.given c.args.input.now) (g.I.Source.faults c.args.input.now))
    (source_at (g.I.Source.left c.drill.new.input) (g.I.Source.given c.drill.new.input) (g.I.Source.faults c.drill.new.input))
    (sink_at (g.O.Sink.taken c.args.out.now) (g.O.Sink.faults c.args.out.now))
    (sink_at (g.O.Sink.taken c.drill.new.out) (g.O.Sink.faults c.drill.new.out))
    (sink_at (g.E.Sink.taken c.args.err.now) (g.E.Sink.faults c.args.err.now))
    (sink_at (g.E.Sink.taken c.report_failure.new.err) (g.E.Sink.faults c.report_failure.new.err))
    c.in-Err.ensures c.report_failure.ensures

pub returns-in-Ok : goal.returns-in-Ok
returns-in-Ok g c =
    done_ends c.args.log c.args.source
    (source_at (g.I.Source.left c.args.input.now) (g.I.Source.given c.args.input.now) (g.I.Source.faults c.args.input.now))
    (source_at (g.I.Source.left c.drill.new.input) (g.I.Source.given c.drill.new.input) (g.I.Source.faults c.drill.new.input))
    (sink_at (g.O.Sink.taken c.args.out.now) (g.O.Sink.faults c.args.out.now))
    (sink_at (g.O.Sink.taken c.drill.new.out) (g.O.Sink.faults c.drill.new.out))
    (sink_at (g.E.Sink.taken c.args.err.now) (g.E.Sink.faults c.args.err.now))
    c.in-Ok.ensures
