use Rattle.std.proofs.Common.{sym}
use Rattle.nr_client.specs.Views.{link_view}
use Rattle.nr_client.proofs.LinkRelations.{answered, counted, given_up}
use Rattle.nr_client.proofs.link.LinkCalls.call.Goals as goal

pub returns-clause-ok : goal.returns-clause-ok
returns-clause-ok g c =
    rw (sym c.self.view_is) (answered c.call_over.result
    (link_view (g.I.Source.left c.self.inside.source) (g.I.Source.given c.self.inside.source) (g.O.Sink.taken c.self.inside.sink) c.self.inside.read c.self.inside.requester (g.I.Source.faults c.self.inside.source) (g.O.Sink.faults c.self.inside.sink))
    (link_view (g.I.Source.left c.call_over.new.source) (g.I.Source.given c.call_over.new.source) (g.O.Sink.taken c.call_over.new.sink) c.call_over.new.read c.call_over.new.requester (g.I.Source.faults c.call_over.new.source) (g.O.Sink.faults c.call_over.new.sink)) c.args.call c.call_over.ensures.ok c.call_over.ensures.memory)

pub returns-clause-err : goal.returns-clause-err
returns-clause-err g c =
    rw (sym c.self.view_is) (given_up c.call_over.result
    (link_view (g.I.Source.left c.self.inside.source) (g.I.Source.given c.self.inside.source) (g.O.Sink.taken c.self.inside.sink) c.self.inside.read c.self.inside.requester (g.I.Source.faults c.self.inside.source) (g.O.Sink.faults c.self.inside.sink))
    (link_view (g.I.Source.left c.call_over.new.source) (g.I.Source.given c.call_over.new.source) (g.O.Sink.taken c.call_over.new.sink) c.call_over.new.read c.call_over.new.requester (g.I.Source.faults c.call_over.new.source) (g.O.Sink.faults c.call_over.new.sink)) c.args.call c.call_over.ensures.err c.call_over.ensures.cause)

pub returns-clause-faults : goal.returns-clause-faults
returns-clause-faults g c =
    rw (sym c.self.view_is) (counted c.call_over.result
    (link_view (g.I.Source.left c.self.inside.source) (g.I.Source.given c.self.inside.source) (g.O.Sink.taken c.self.inside.sink) c.self.inside.read c.self.inside.requester (g.I.Source.faults c.self.inside.source) (g.O.Sink.faults c.self.inside.sink))
    (link_view (g.I.Source.left c.call_over.new.source) (g.I.Source.given c.call_over.new.source) (g.O.Sink.taken c.call_over.new.sink) c.call_over.new.read c.call_over.new.requester (g.I.Source.faults c.call_over.new.source) (g.O.Sink.faults c.call_over.new.sink)) c.call_over.ensures.source_count c.call_over.ensures.sink_count)
