use Rattle.std.proofs.Common.{sym}
use Rattle.nr_client.specs.Views.{link_view}
use Rattle.nr_client.proofs.LinkRelations.{counted, opened, refused}
use Rattle.nr_client.proofs.link.LinkCalls.submit.Goals as goal

pub returns-clause-err : goal.returns-clause-err
returns-clause-err g c =
    rw (sym c.self.view_is) (refused c.submit_over.result
    (link_view (g.I.Source.left c.self.inside.source) (g.I.Source.given c.self.inside.source) (g.O.Sink.taken c.self.inside.sink) c.self.inside.read c.self.inside.requester (g.I.Source.faults c.self.inside.source) (g.O.Sink.faults c.self.inside.sink))
    (link_view (g.I.Source.left c.submit_over.new.source) (g.I.Source.given c.submit_over.new.source) (g.O.Sink.taken c.submit_over.new.sink) c.submit_over.new.read c.submit_over.new.requester (g.I.Source.faults c.submit_over.new.source) (g.O.Sink.faults c.submit_over.new.sink)) c.args.call c.submit_over.ensures.err c.submit_over.ensures.cause)

pub returns-clause-opens : goal.returns-clause-opens
returns-clause-opens g c =
    rw (sym c.self.view_is) (opened c.submit_over.result
    (link_view (g.I.Source.left c.self.inside.source) (g.I.Source.given c.self.inside.source) (g.O.Sink.taken c.self.inside.sink) c.self.inside.read c.self.inside.requester (g.I.Source.faults c.self.inside.source) (g.O.Sink.faults c.self.inside.sink))
    (link_view (g.I.Source.left c.submit_over.new.source) (g.I.Source.given c.submit_over.new.source) (g.O.Sink.taken c.submit_over.new.sink) c.submit_over.new.read c.submit_over.new.requester (g.I.Source.faults c.submit_over.new.source) (g.O.Sink.faults c.submit_over.new.sink)) c.args.call c.submit_over.ensures.opens)

pub returns-clause-faults : goal.returns-clause-faults
returns-clause-faults g c =
    rw (sym c.self.view_is) (counted c.submit_over.result
    (link_view (g.I.Source.left c.self.inside.source) (g.I.Source.given c.self.inside.source) (g.O.Sink.taken c.self.inside.sink) c.self.inside.read c.self.inside.requester (g.I.Source.faults c.self.inside.source) (g.O.Sink.faults c.self.inside.sink))
    (link_view (g.I.Source.left c.submit_over.new.source) (g.I.Source.given c.submit_over.new.source) (g.O.Sink.taken c.submit_over.new.sink) c.submit_over.new.read c.submit_over.new.requester (g.I.Source.faults c.submit_over.new.source) (g.O.Sink.faults c.submit_over.new.sink)) c.submit_over.ensures.source_count c.submit_over.ensures.sink_count)
