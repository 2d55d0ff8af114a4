use Rattle.std.proofs.Common.{◌≡◌, true, is_some, arith, refl, sym}
use Rattle.nr_requester.specs.OpenCalls.{open_call}
use Rattle.nr_client.specs.Views.{link_view}
use Rattle.nr_client.proofs.Answering.{forgets_call}
use Rattle.nr_client.proofs.Tickets.{closes_call}
use Rattle.nr_client.proofs.link.LinkCalls.forget.Goals as goal

pub returns-clause-forgets : goal.returns-clause-forgets
returns-clause-forgets g c =
    let is_open : is_some (open_call c.args.ticket c.self.inside.requester.state) ≡ true = grind (arith, c.requires, c.self.view_is) in
    rw (sym c.self.view_is) (forgets_call c.args.ticket c.self.inside.requester c.forget.new.self c.forget.ensures.stands c.forget.ensures.out is_open, (refl, (refl, refl)))

pub returns-clause-tickets : goal.returns-clause-tickets
returns-clause-tickets g c =
    rw (sym c.self.view_is) (closes_call c.args.ticket (link_view (g.I.Source.left c.self.inside.source) (g.I.Source.given c.self.inside.source) (g.O.Sink.taken c.self.inside.sink) c.self.inside.read c.self.inside.requester (g.I.Source.faults c.self.inside.source) (g.O.Sink.faults c.self.inside.sink)) (link_view (g.I.Source.left c.self.inside.source) (g.I.Source.given c.self.inside.source) (g.O.Sink.taken c.self.inside.sink) c.self.inside.read c.forget.new.self (g.I.Source.faults c.self.inside.source) (g.O.Sink.faults c.self.inside.sink)) c.forget.ensures.tickets)

pub returns-clause-faults : goal.returns-clause-faults
returns-clause-faults g c = rw (sym c.self.view_is) refl
