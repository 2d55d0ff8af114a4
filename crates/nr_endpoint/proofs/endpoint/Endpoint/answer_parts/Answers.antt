use Rattle.std.proofs.Common.{◌++◌, take, ap}
use Rattle.nr_endpoint.specs.EndpointState.{LinkView}
use Rattle.nr_endpoint.specs.Offering.{answer_calls}
use Rattle.nr_endpoint.proofs.Standing.{stands_on_all, on_ok}
use Rattle.nr_endpoint.proofs.WholeCalls.{seen_all, answered_state}
use Rattle.nr_endpoint.proofs.endpoint.Endpoint.answer_parts.Goals as goal

pub returns-clause-state : goal.returns-clause-state
returns-clause-state c = on_ok c.answer.result (λ is. (seen_all (record { awaited = c.self.inside.awaited; rest = take c.self.inside.staged c.self.inside.staging.items; state = c.self.inside.link.state }) c.self.inside.staging.items c.args.self.now (record { awaited = c.self.inside.awaited; rest = take c.self.inside.staged c.self.inside.staging.items; state = c.answer.new.self.state }) (answer_calls c.args.writes.now c.args.named (c.args.front.now ++ c.args.stream.now)) c.self.view_is (answered_state (record { awaited = c.self.inside.awaited; rest = take c.self.inside.staged c.self.inside.staging.items; state = c.self.inside.link.state }) c.answer.new.self.state c.args.writes.now c.args.named (c.args.front.now ++ c.args.stream.now) (ap (λ (l : LinkView). l.state) is)))) c.answer.ensures.ok

pub returns-clause-stands : goal.returns-clause-stands
returns-clause-stands c =
    on_ok c.answer.result (λ is. stands_on_all c.args.self.now.link (answer_calls c.args.writes.now c.args.named (c.args.front.now ++ c.args.stream.now)) (record { awaited = c.self.inside.awaited; rest = take c.self.inside.staged c.self.inside.staging.items; state = c.answer.new.self.state }) (seen_all (record { awaited = c.self.inside.awaited; rest = take c.self.inside.staged c.self.inside.staging.items; state = c.self.inside.link.state }) c.self.inside.staging.items c.args.self.now (record { awaited = c.self.inside.awaited; rest = take c.self.inside.staged c.self.inside.staging.items; state = c.answer.new.self.state }) (answer_calls c.args.writes.now c.args.named (c.args.front.now ++ c.args.stream.now)) c.self.view_is (answered_state (record { awaited = c.self.inside.awaited; rest = take c.self.inside.staged c.self.inside.staging.items; state = c.self.inside.link.state }) c.answer.new.self.state c.args.writes.now c.args.named (c.args.front.now ++ c.args.stream.now) (ap (λ (l : LinkView). l.state) is)))) c.answer.ensures.ok
