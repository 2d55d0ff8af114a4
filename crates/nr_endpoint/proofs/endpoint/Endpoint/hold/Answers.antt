use Rattle.std.proofs.Common.{take, ap}
use Rattle.nr_endpoint.specs.EndpointState.{LinkView}
use Rattle.nr_endpoint.specs.Calls.Call.{Hold}
use Rattle.nr_endpoint.proofs.Standing.{stands_on, seen, on_ok, held_state}
use Rattle.nr_endpoint.proofs.endpoint.Endpoint.hold.Goals as goal

pub returns-clause-state : goal.returns-clause-state
returns-clause-state c =
    on_ok c.hold.result (λ is. seen (record { awaited = c.self.inside.awaited; rest = take c.self.inside.staged c.self.inside.staging.items; state = c.self.inside.link.state }) c.self.inside.staging.items c.args.self.now (record { awaited = c.self.inside.awaited; rest = take c.self.inside.staged c.self.inside.staging.items; state = c.hold.new.self.state }) (Hold c.args.message) c.self.view_is (held_state (record { awaited = c.self.inside.awaited; rest = take c.self.inside.staged c.self.inside.staging.items; state = c.self.inside.link.state }) c.hold.new.self.state c.args.message (ap (λ (l : LinkView). l.state) is))) c.hold.ensures.ok

pub returns-clause-stands : goal.returns-clause-stands
returns-clause-stands c =
    on_ok c.hold.result (λ is. stands_on c.args.self.now.link (Hold c.args.message) (record { awaited = c.self.inside.awaited; rest = take c.self.inside.staged c.self.inside.staging.items; state = c.hold.new.self.state }) (seen (record { awaited = c.self.inside.awaited; rest = take c.self.inside.staged c.self.inside.staging.items; state = c.self.inside.link.state }) c.self.inside.staging.items c.args.self.now (record { awaited = c.self.inside.awaited; rest = take c.self.inside.staged c.self.inside.staging.items; state = c.hold.new.self.state }) (Hold c.args.message) c.self.view_is (held_state (record { awaited = c.self.inside.awaited; rest = take c.self.inside.staged c.self.inside.staging.items; state = c.self.inside.link.state }) c.hold.new.self.state c.args.message (ap (λ (l : LinkView). l.state) is)))) c.hold.ensures.ok
