use Rattle.std.proofs.Common.{take}
use Rattle.nr_endpoint.specs.Calls.Call.{ReadRemote}
use Rattle.nr_endpoint.proofs.Standing.{stands_on, seen, on_ok, read_state}
use Rattle.nr_endpoint.proofs.endpoint.Endpoint.read_remote.Goals as goal

pub returns-clause-state : goal.returns-clause-state
returns-clause-state c =
    on_ok c.read_remote.result (λ is. seen (record { awaited = c.self.inside.awaited; rest = take c.self.inside.staged c.self.inside.staging.items; state = c.self.inside.link.state }) c.self.inside.staging.items c.args.self.now (record { awaited = c.self.inside.awaited; rest = take c.self.inside.staged c.self.inside.staging.items; state = c.read_remote.new.self.state }) (ReadRemote c.args.registration.now.stag c.args.at c.args.stag c.args.to c.args.len) c.self.view_is (read_state (record { awaited = c.self.inside.awaited; rest = take c.self.inside.staged c.self.inside.staging.items; state = c.self.inside.link.state }) c.read_remote.new.self.state c.args.registration.now.stag c.args.at c.args.stag c.args.to c.args.len is)) c.read_remote.ensures.ok

pub returns-clause-stands : goal.returns-clause-stands
returns-clause-stands c =
    on_ok c.read_remote.result (λ is. stands_on c.args.self.now.link (ReadRemote c.args.registration.now.stag c.args.at c.args.stag c.args.to c.args.len) (record { awaited = c.self.inside.awaited; rest = take c.self.inside.staged c.self.inside.staging.items; state = c.read_remote.new.self.state }) (seen (record { awaited = c.self.inside.awaited; rest = take c.self.inside.staged c.self.inside.staging.items; state = c.self.inside.link.state }) c.self.inside.staging.items c.args.self.now (record { awaited = c.self.inside.awaited; rest = take c.self.inside.staged c.self.inside.staging.items; state = c.read_remote.new.self.state }) (ReadRemote c.args.registration.now.stag c.args.at c.args.stag c.args.to c.args.len) c.self.view_is (read_state (record { awaited = c.self.inside.awaited; rest = take c.self.inside.staged c.self.inside.staging.items; state = c.self.inside.link.state }) c.read_remote.new.self.state c.args.registration.now.stag c.args.at c.args.stag c.args.to c.args.len is))) c.read_remote.ensures.ok
