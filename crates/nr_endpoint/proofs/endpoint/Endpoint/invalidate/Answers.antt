use Rattle.std.proofs.Common.{take, ap}
use Rattle.nr_endpoint.specs.EndpointState.{LinkView}
use Rattle.nr_endpoint.specs.Calls.Call.{Invalidate}
use Rattle.nr_endpoint.proofs.Standing.{stands_on, seen, on_ok, invalidated_state}
use Rattle.nr_endpoint.proofs.endpoint.Endpoint.invalidate.Goals as goal

pub returns-clause-state : goal.returns-clause-state
returns-clause-state c =
    on_ok c.invalidate.result (λ is. seen (record { awaited = c.self.inside.awaited; rest = take c.self.inside.staged c.self.inside.staging.items; state = c.self.inside.link.state }) c.self.inside.staging.items c.args.self.now (record { awaited = c.self.inside.awaited; rest = take c.self.inside.staged c.self.inside.staging.items; state = c.invalidate.new.self.state }) (Invalidate c.args.stag) c.self.view_is (invalidated_state (record { awaited = c.self.inside.awaited; rest = take c.self.inside.staged c.self.inside.staging.items; state = c.self.inside.link.state }) c.invalidate.new.self.state c.args.stag (ap (λ (l : LinkView). l.state) is))) c.invalidate.ensures.ok

pub returns-clause-stands : goal.returns-clause-stands
returns-clause-stands c =
    on_ok c.invalidate.result (λ is. stands_on c.args.self.now.link (Invalidate c.args.stag) (record { awaited = c.self.inside.awaited; rest = take c.self.inside.staged c.self.inside.staging.items; state = c.invalidate.new.self.state }) (seen (record { awaited = c.self.inside.awaited; rest = take c.self.inside.staged c.self.inside.staging.items; state = c.self.inside.link.state }) c.self.inside.staging.items c.args.self.now (record { awaited = c.self.inside.awaited; rest = take c.self.inside.staged c.self.inside.staging.items; state = c.invalidate.new.self.state }) (Invalidate c.args.stag) c.self.view_is (invalidated_state (record { awaited = c.self.inside.awaited; rest = take c.self.inside.staged c.self.inside.staging.items; state = c.self.inside.link.state }) c.invalidate.new.self.state c.args.stag (ap (λ (l : LinkView). l.state) is)))) c.invalidate.ensures.ok
