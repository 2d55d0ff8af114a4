use Rattle.std.proofs.Common.{take, is_some, ap}
use Rattle.nr_endpoint.specs.EndpointState.{LinkView}
use Rattle.nr_endpoint.proofs.Standing.{told_if, told_stands}
use Rattle.nr_endpoint.proofs.endpoint.Endpoint.next_event.Goals as goal

pub returns-clause-state : goal.returns-clause-state
returns-clause-state c =
    told_if (is_some c.next_event.result) (record { awaited = c.self.inside.awaited; rest = take c.self.inside.staged c.self.inside.staging.items; state = c.self.inside.link.state }) c.self.inside.staging.items c.args.self.now c.next_event.new.self.state c.self.view_is (ap (λ (l : LinkView). l.state) c.next_event.ensures.after)

pub returns-clause-stands : goal.returns-clause-stands
returns-clause-stands c =
    told_stands (is_some c.next_event.result) c.args.self.now.link (record { awaited = c.self.inside.awaited; rest = take c.self.inside.staged c.self.inside.staging.items; state = c.next_event.new.self.state })
    (told_if (is_some c.next_event.result) (record { awaited = c.self.inside.awaited; rest = take c.self.inside.staged c.self.inside.staging.items; state = c.self.inside.link.state }) c.self.inside.staging.items c.args.self.now c.next_event.new.self.state c.self.view_is (ap (λ (l : LinkView). l.state) c.next_event.ensures.after))
