use Rattle.std.proofs.Common.{take, ap}
use Rattle.nr_endpoint.specs.EndpointState.{LinkView}
use Rattle.nr_endpoint.specs.Calls.Call.{WriteRemote}
use Rattle.nr_endpoint.proofs.Standing.{stands_on, seen, on_ok, written_state}
use Rattle.nr_endpoint.proofs.endpoint.Endpoint.write_remote.Goals as goal

pub returns-clause-state : goal.returns-clause-state
returns-clause-state c =
    on_ok c.write_remote.result (λ is. seen (record { awaited = c.self.inside.awaited; rest = take c.self.inside.staged c.self.inside.staging.items; state = c.self.inside.link.state }) c.self.inside.staging.items c.args.self.now (record { awaited = c.self.inside.awaited; rest = take c.self.inside.staged c.self.inside.staging.items; state = c.write_remote.new.self.state }) (WriteRemote c.args.stag c.args.to c.args.bytes.now) c.self.view_is (written_state (record { awaited = c.self.inside.awaited; rest = take c.self.inside.staged c.self.inside.staging.items; state = c.self.inside.link.state }) c.write_remote.new.self.state c.args.stag c.args.to c.args.bytes.now (ap (λ (l : LinkView). l.state) is))) c.write_remote.ensures.ok

pub returns-clause-stands : goal.returns-clause-stands
returns-clause-stands c =
    on_ok c.write_remote.result (λ is. stands_on c.args.self.now.link (WriteRemote c.args.stag c.args.to c.args.bytes.now) (record { awaited = c.self.inside.awaited; rest = take c.self.inside.staged c.self.inside.staging.items; state = c.write_remote.new.self.state }) (seen (record { awaited = c.self.inside.awaited; rest = take c.self.inside.staged c.self.inside.staging.items; state = c.self.inside.link.state }) c.self.inside.staging.items c.args.self.now (record { awaited = c.self.inside.awaited; rest = take c.self.inside.staged c.self.inside.staging.items; state = c.write_remote.new.self.state }) (WriteRemote c.args.stag c.args.to c.args.bytes.now) c.self.view_is (written_state (record { awaited = c.self.inside.awaited; rest = take c.self.inside.staged c.self.inside.staging.items; state = c.self.inside.link.state }) c.write_remote.new.self.state c.args.stag c.args.to c.args.bytes.now (ap (λ (l : LinkView). l.state) is)))) c.write_remote.ensures.ok
