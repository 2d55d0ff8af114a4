use Rattle.std.proofs.Common.{Some, take, ap}
use Rattle.nr_endpoint.specs.EndpointState.{LinkView}
use Rattle.nr_endpoint.specs.Calls.Call.{SendInvalidate}
use Rattle.nr_endpoint.proofs.Standing.{stands_on, seen, on_ok, sent_state}
use Rattle.nr_endpoint.proofs.endpoint.Endpoint.send_invalidate.Goals as goal

pub returns-clause-state : goal.returns-clause-state
returns-clause-state c =
    on_ok c.send.result (λ is. seen (record { awaited = c.self.inside.awaited; rest = take c.self.inside.staged c.self.inside.staging.items; state = c.self.inside.link.state }) c.self.inside.staging.items c.args.self.now (record { awaited = c.self.inside.awaited; rest = take c.self.inside.staged c.self.inside.staging.items; state = c.send.new.self.state }) (SendInvalidate c.args.stag c.args.message.now) c.self.view_is (sent_state (record { awaited = c.self.inside.awaited; rest = take c.self.inside.staged c.self.inside.staging.items; state = c.self.inside.link.state }) c.send.new.self.state (Some c.args.stag) c.args.message.now (ap (λ (l : LinkView). l.state) is))) c.send.ensures.ok

pub returns-clause-stands : goal.returns-clause-stands
returns-clause-stands c =
    on_ok c.send.result (λ is. stands_on c.args.self.now.link (SendInvalidate c.args.stag c.args.message.now) (record { awaited = c.self.inside.awaited; rest = take c.self.inside.staged c.self.inside.staging.items; state = c.send.new.self.state }) (seen (record { awaited = c.self.inside.awaited; rest = take c.self.inside.staged c.self.inside.staging.items; state = c.self.inside.link.state }) c.self.inside.staging.items c.args.self.now (record { awaited = c.self.inside.awaited; rest = take c.self.inside.staged c.self.inside.staging.items; state = c.send.new.self.state }) (SendInvalidate c.args.stag c.args.message.now) c.self.view_is (sent_state (record { awaited = c.self.inside.awaited; rest = take c.self.inside.staged c.self.inside.staging.items; state = c.self.inside.link.state }) c.send.new.self.state (Some c.args.stag) c.args.message.now (ap (λ (l : LinkView). l.state) is)))) c.send.ensures.ok
