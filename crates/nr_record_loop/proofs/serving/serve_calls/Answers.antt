use Rattle.nr_record.specs.RecordsState.{kept}
use Rattle.nr_record_loop.specs.Connections.{loop_at}
use Rattle.nr_record_loop.proofs.Carries.{begins_with, out_at_once}
use Rattle.nr_record_loop.proofs.serving.serve_calls.Goals as goal

pub returns-in_default-clause-served : goal.returns-in_default-clause-served
returns-in_default-clause-served g c =
    out_at_once g.A.Answers.did (loop_at (g.I.Source.left c.args.source.now) (g.I.Source.given c.args.source.now) (g.O.Sink.taken c.args.sink.now) c.args.answers.now) c.requires.nothing

pub returns-clause-served : goal.returns-clause-served
returns-clause-served g c =
    c.carry-end.ensures.served (begins_with g.A.Answers.did
    (loop_at (g.I.Source.left c.args.source.now) (g.I.Source.given c.args.source.now) (g.O.Sink.taken c.args.sink.now) c.args.answers.now) (kept c.new-records.result)
    c.requires.nothing c.new-records.ensures.stands)

pub carry-end-requires-clause-live : goal.carry-end-requires-clause-live
carry-end-requires-clause-live g c = c.new-records.ensures.fault
