use Rattle.nr_shared.proofs.Pieces.{stops}
use Rattle.nr_shared.proofs.requester_with_sink.RequesterWithSink.stop.Goals as goal

pub returns : goal.returns
returns g c = record { stopped = λ history last st is_last may. stops g.O.LinkSink.link g.O.Sink.taken g.O.Sink.faults g.C.CallRule.allows c.args.self.now c.args.cause history last c.requires.cause may is_last st }
