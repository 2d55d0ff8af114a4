use Rattle.std.proofs.Common.{take, ap}
use Rattle.nr_endpoint.specs.EndpointState.{LinkView}
use Rattle.nr_endpoint.specs.Calls.Call.{Post}
use Rattle.nr_endpoint.proofs.Standing.{stands_on, seen, posted_state}
use Rattle.nr_endpoint.proofs.endpoint.Endpoint.post.Goals as goal

pub returns-clause-state : goal.returns-clause-state
returns-clause-state c =
    seen (record { awaited = c.self.inside.awaited; rest = take c.self.inside.staged c.self.inside.staging.items; state = c.self.inside.link.state }) c.self.inside.staging.items c.args.self.now (record { awaited = c.self.inside.awaited; rest = take c.self.inside.staged c.self.inside.staging.items; state = c.post.new.self.state }) Post c.self.view_is (posted_state (record { awaited = c.self.inside.awaited; rest = take c.self.inside.staged c.self.inside.staging.items; state = c.self.inside.link.state }) c.post.new.self.state (ap (λ (l : LinkView). l.state) c.post.ensures.state))

pub returns-clause-stands : goal.returns-clause-stands
returns-clause-stands c =
    stands_on c.args.self.now.link Post (record { awaited = c.self.inside.awaited; rest = take c.self.inside.staged c.self.inside.staging.items; state = c.post.new.self.state }) (seen (record { awaited = c.self.inside.awaited; rest = take c.self.inside.staged c.self.inside.staging.items; state = c.self.inside.link.state }) c.self.inside.staging.items c.args.self.now (record { awaited = c.self.inside.awaited; rest = take c.self.inside.staged c.self.inside.staging.items; state = c.post.new.self.state }) Post c.self.view_is (posted_state (record { awaited = c.self.inside.awaited; rest = take c.self.inside.staged c.self.inside.staging.items; state = c.self.inside.link.state }) c.post.new.self.state (ap (λ (l : LinkView). l.state) c.post.ensures.state)))
