use Rattle.std.proofs.Common.{◌++◌, take, ap}
use Rattle.nr_endpoint.specs.EndpointState.{LinkView}
use Rattle.nr_endpoint.specs.Offering.{shared_calls}
use Rattle.nr_endpoint.proofs.Standing.{stands_on_all, on_ok}
use Rattle.nr_endpoint.proofs.WholeCalls.{seen_all, shared_state}
use Rattle.nr_endpoint.proofs.endpoint.Endpoint.answer_shared.Goals as goal

pub returns-clause-state : goal.returns-clause-state
returns-clause-state c = on_ok c.answer_shared.result (λ is. (seen_all (record { awaited = c.self.inside.awaited; rest = take c.self.inside.staged c.self.inside.staging.items; state = c.self.inside.link.state }) c.self.inside.staging.items c.args.self.now (record { awaited = c.self.inside.awaited; rest = take c.self.inside.staged c.self.inside.staging.items; state = c.answer_shared.new.self.state }) (shared_calls c.args.writes.now c.args.named (c.args.front.now ++ c.args.stream.now)) c.self.view_is (shared_state (record { awaited = c.self.inside.awaited; rest = take c.self.inside.staged c.self.inside.staging.items; state = c.self.inside.link.state }) c.answer_shared.new.self.state c.args.writes.now c.args.named (c.args.front.now ++ c.args.stream.now) (ap (λ (l : LinkView). l.state) is)))) c.answer_shared.ensures.ok

pub returns-clause-stands : goal.returns-clause-stands
returns-clause-stands c =
    on_ok c.answer_shared.result (λ is. stands_on_all c.args.self.now.link (shared_calls c.args.writes.now c.args.named (c.args.front.now ++ c.args.stream.now)) (record { awaited = c.self.inside.awaited; rest = take c.self.inside.staged c.self.inside.staging.items; state = c.answer_shared.new.self.state }) (seen_all (record { awaited = c.self.inside.awaited; rest = take c.self.inside.staged c.self.inside.staging.items; state = c.self.inside.link.state }) c.self.inside.staging.items c.args.self.now (record { awaited = c.self.inside.awaited; rest = take c.self.inside.staged c.self.inside.staging.items; state = c.answer_shared.new.self.state }) (shared_calls c.args.writes.now c.args.named (c.args.front.now ++ c.args.stream.now)) c.self.view_is (shared_state (record { awaited = c.self.inside.awaited; rest = take c.self.inside.staged c.self.inside.staging.items; state = c.self.inside.link.state }) c.answer_shared.new.self.state c.args.writes.now c.args.named (c.args.front.now ++ c.args.stream.now) (ap (λ (l : LinkView). l.state) is)))) c.answer_shared.ensures.ok
