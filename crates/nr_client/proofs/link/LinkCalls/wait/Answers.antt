use Rattle.std.proofs.Common.{sym}
use Rattle.nr_client.specs.Views.{link_view}
use Rattle.nr_client.proofs.LinkRelations.{counted, forgotten}
use Rattle.nr_client.proofs.Tickets.{closes_call}
use Rattle.nr_client.proofs.link.LinkCalls.wait.Goals as goal

pub returns-clause-err : goal.returns-clause-err
returns-clause-err g c =
    rw (sym c.self.view_is) (forgotten c.complete.result
    (link_view (g.I.Source.left c.self.inside.source) (g.I.Source.given c.self.inside.source) (g.O.Sink.taken c.self.inside.sink) c.self.inside.read c.self.inside.requester (g.I.Source.faults c.self.inside.source) (g.O.Sink.faults c.self.inside.sink))
    (link_view (g.I.Source.left c.complete.new.source) (g.I.Source.given c.complete.new.source) (g.O.Sink.taken c.complete.new.sink) c.complete.new.read c.complete.new.requester (g.I.Source.faults c.complete.new.source) (g.O.Sink.faults c.complete.new.sink)) c.args.ticket c.complete.ensures.err c.complete.ensures.cause)

pub returns-clause-tickets : goal.returns-clause-tickets
returns-clause-tickets g c =
    rw (sym c.self.view_is) (closes_call c.args.ticket (link_view (g.I.Source.left c.self.inside.source) (g.I.Source.given c.self.inside.source) (g.O.Sink.taken c.self.inside.sink) c.self.inside.read c.self.inside.requester (g.I.Source.faults c.self.inside.source) (g.O.Sink.faults c.self.inside.sink)) (link_view (g.I.Source.left c.complete.new.source) (g.I.Source.given c.complete.new.source) (g.O.Sink.taken c.complete.new.sink) c.complete.new.read c.complete.new.requester (g.I.Source.faults c.complete.new.source) (g.O.Sink.faults c.complete.new.sink)) c.complete.ensures.tickets)

pub returns-clause-faults : goal.returns-clause-faults
returns-clause-faults g c =
    rw (sym c.self.view_is) (counted c.complete.result
    (link_view (g.I.Source.left c.self.inside.source) (g.I.Source.given c.self.inside.source) (g.O.Sink.taken c.self.inside.sink) c.self.inside.read c.self.inside.requester (g.I.Source.faults c.self.inside.source) (g.O.Sink.faults c.self.inside.sink))
    (link_view (g.I.Source.left c.complete.new.source) (g.I.Source.given c.complete.new.source) (g.O.Sink.taken c.complete.new.sink) c.complete.new.read c.complete.new.requester (g.I.Source.faults c.complete.new.source) (g.O.Sink.faults c.complete.new.sink)) c.complete.ensures.source_count c.complete.ensures.sink_count)
