use Rattle.std.proofs.Common.{take, ap, ◌∙◌}
use Rattle.nr_endpoint.specs.EndpointState.{EndpointState, LinkView}
use Rattle.nr_endpoint.specs.Calls.{with_state}
use Rattle.nr_endpoint.specs.Calls.Call.{SendHeld}
use Rattle.nr_endpoint.proofs.Standing.{stands_on, seen, held_sent_state}
use Rattle.nr_endpoint.proofs.endpoint.Endpoint.send_held.Goals as goal

pub returns-clause-state : goal.returns-clause-state
returns-clause-state c = λ message others is.
    seen (record { awaited = c.self.inside.awaited; rest = take c.self.inside.staged c.self.inside.staging.items; state = c.self.inside.link.state }) c.self.inside.staging.items c.args.self.now (record { awaited = c.self.inside.awaited; rest = take c.self.inside.staged c.self.inside.staging.items; state = c.send_held.new.self.state }) (SendHeld message) c.self.view_is (held_sent_state (record { awaited = c.self.inside.awaited; rest = take c.self.inside.staged c.self.inside.staging.items; state = c.self.inside.link.state }) c.send_held.new.self.state message (ap (λ (l : LinkView). l.state) (c.send_held.ensures.first message others (ap (λ (e : EndpointState). e.link.state.send_queue.held) c.self.view_is ∙ is))))

pub returns-clause-stands : goal.returns-clause-stands
returns-clause-stands c = λ message others is.
    stands_on c.args.self.now.link (SendHeld message) (record { awaited = c.self.inside.awaited; rest = take c.self.inside.staged c.self.inside.staging.items; state = c.send_held.new.self.state }) (seen (record { awaited = c.self.inside.awaited; rest = take c.self.inside.staged c.self.inside.staging.items; state = c.self.inside.link.state }) c.self.inside.staging.items c.args.self.now (record { awaited = c.self.inside.awaited; rest = take c.self.inside.staged c.self.inside.staging.items; state = c.send_held.new.self.state }) (SendHeld message) c.self.view_is (held_sent_state (record { awaited = c.self.inside.awaited; rest = take c.self.inside.staged c.self.inside.staging.items; state = c.self.inside.link.state }) c.send_held.new.self.state message (ap (λ (l : LinkView). l.state) (c.send_held.ensures.first message others (ap (λ (e : EndpointState). e.link.state.send_queue.held) c.self.view_is ∙ is)))))

pub returns-clause-none : goal.returns-clause-none
returns-clause-none c = λ is.
    ap (λ (l : LinkView). with_state l.state (record { awaited = c.self.inside.awaited; rest = take c.self.inside.staged c.self.inside.staging.items; state = c.self.inside.link.state })) (c.send_held.ensures.none (ap (λ (e : EndpointState). e.link.state.send_queue.held) c.self.view_is ∙ is)) ∙ ap (λ (e : EndpointState). e.link) c.self.view_is
