use Rattle.std.proofs.Common.{take}
use Rattle.nr_endpoint.specs.Calls.Call.{Release}
use Rattle.nr_endpoint.proofs.Standing.{stands_on, seen, released_state}
use Rattle.nr_endpoint.proofs.endpoint.Endpoint.release_buffer.Goals as goal

pub returns-clause-state : goal.returns-clause-state
returns-clause-state c =
    seen (record { awaited = c.self.inside.awaited; rest = take c.self.inside.staged c.self.inside.staging.items; state = c.self.inside.link.state }) c.self.inside.staging.items c.args.self.now (record { awaited = c.self.inside.awaited; rest = take c.self.inside.staged c.self.inside.staging.items; state = c.release_buffer.new.self.state }) (Release c.args.registration.stag) c.self.view_is (released_state (record { awaited = c.self.inside.awaited; rest = take c.self.inside.staged c.self.inside.staging.items; state = c.self.inside.link.state }) c.release_buffer.new.self.state c.args.registration.stag c.release_buffer.ensures.state)

pub returns-clause-stands : goal.returns-clause-stands
returns-clause-stands c =
    stands_on c.args.self.now.link (Release c.args.registration.stag) (record { awaited = c.self.inside.awaited; rest = take c.self.inside.staged c.self.inside.staging.items; state = c.release_buffer.new.self.state }) (seen (record { awaited = c.self.inside.awaited; rest = take c.self.inside.staged c.self.inside.staging.items; state = c.self.inside.link.state }) c.self.inside.staging.items c.args.self.now (record { awaited = c.self.inside.awaited; rest = take c.self.inside.staged c.self.inside.staging.items; state = c.release_buffer.new.self.state }) (Release c.args.registration.stag) c.self.view_is (released_state (record { awaited = c.self.inside.awaited; rest = take c.self.inside.staged c.self.inside.staging.items; state = c.self.inside.link.state }) c.release_buffer.new.self.state c.args.registration.stag c.release_buffer.ensures.state))
