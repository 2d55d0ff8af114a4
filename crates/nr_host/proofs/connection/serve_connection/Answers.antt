use Rattle.nr_plain.specs.History.{pass_view}
use Rattle.nr_host.proofs.Carries.{opened, unopened}
use Rattle.nr_host.proofs.connection.serve_connection.Goals as goal

pub returns-in_default-clause-served : goal.returns-in_default-clause-served
returns-in_default-clause-served g c = unopened (g.I.Source.left c.args.source.now) (g.I.Source.given c.args.source.now) (g.O.Sink.taken c.args.sink.now) (g.O.Sink.faults c.args.sink.now) (g.C.Clock.gave c.args.clock.now) (pass_view c.args.pass.now) c.args.limits

pub returns-in_default-open_sized-clause-served : goal.returns-in_default-open_sized-clause-served
returns-in_default-open_sized-clause-served g c = unopened (g.I.Source.left c.args.source.now) (g.I.Source.given c.args.source.now) (g.O.Sink.taken c.args.sink.now) (g.O.Sink.faults c.args.sink.now) (g.C.Clock.gave c.args.clock.now) (pass_view c.args.pass.now) c.args.limits

pub returns-clause-served : goal.returns-clause-served
returns-clause-served g c =
    c.carry-end.ensures.served c.args.limits (opened (g.I.Source.left c.args.source.now) (g.I.Source.given c.args.source.now) (g.O.Sink.taken c.args.sink.now) (g.O.Sink.faults c.args.sink.now) (g.C.Clock.gave c.args.clock.now) (pass_view c.args.pass.now) c.args.limits c.in-Ok-open_sized.responder.side c.in-Ok-open_sized.ensures.state c.in-Ok-open_sized.ensures.live c.in-Ok-open_sized.ensures.stands)
