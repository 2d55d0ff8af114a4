use Rattle.std.proofs.Common.{take}
use Rattle.nr_regions.specs.RegisteredMemory.{window_bytes}
use Rattle.nr_endpoint.specs.Calls.Call.{Register}
use Rattle.nr_endpoint.proofs.Standing.{stands_on, seen, on_ok, registered_state}
use Rattle.nr_endpoint.proofs.endpoint.Endpoint.register_window.Goals as goal

pub returns-clause-state : goal.returns-clause-state
returns-clause-state c =
    on_ok c.register_window.result (λ is. seen (record { awaited = c.self.inside.awaited; rest = take c.self.inside.staged c.self.inside.staging.items; state = c.self.inside.link.state }) c.self.inside.staging.items c.args.self.now (record { awaited = c.self.inside.awaited; rest = take c.self.inside.staged c.self.inside.staging.items; state = c.register_window.new.self.state }) (Register (window_bytes c.args.start c.args.len c.args.buf) c.args.right) c.self.view_is (registered_state (record { awaited = c.self.inside.awaited; rest = take c.self.inside.staged c.self.inside.staging.items; state = c.self.inside.link.state }) c.register_window.new.self.state (window_bytes c.args.start c.args.len c.args.buf) c.args.right is)) c.register_window.ensures.ok

pub returns-clause-stands : goal.returns-clause-stands
returns-clause-stands c =
    on_ok c.register_window.result (λ is. stands_on c.args.self.now.link (Register (window_bytes c.args.start c.args.len c.args.buf) c.args.right) (record { awaited = c.self.inside.awaited; rest = take c.self.inside.staged c.self.inside.staging.items; state = c.register_window.new.self.state }) (seen (record { awaited = c.self.inside.awaited; rest = take c.self.inside.staged c.self.inside.staging.items; state = c.self.inside.link.state }) c.self.inside.staging.items c.args.self.now (record { awaited = c.self.inside.awaited; rest = take c.self.inside.staged c.self.inside.staging.items; state = c.register_window.new.self.state }) (Register (window_bytes c.args.start c.args.len c.args.buf) c.args.right) c.self.view_is (registered_state (record { awaited = c.self.inside.awaited; rest = take c.self.inside.staged c.self.inside.staging.items; state = c.self.inside.link.state }) c.register_window.new.self.state (window_bytes c.args.start c.args.len c.args.buf) c.args.right is))) c.register_window.ensures.ok
