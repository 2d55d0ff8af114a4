use Rattle.std.proofs.Common.{take, ap}
use Rattle.nr_endpoint.specs.EndpointState.{LinkView}
use Rattle.nr_endpoint.specs.LinkState.{LinkSide}
use Rattle.nr_endpoint.specs.Requesting.{send_read_calls}
use Rattle.nr_endpoint.proofs.Standing.{stands_on_all, on_ok}
use Rattle.nr_endpoint.proofs.WholeCalls.{seen_all}
use Rattle.nr_endpoint.proofs.Requested.{send_read_state}
use Rattle.nr_endpoint.proofs.endpoint.Endpoint.send_and_read_all.Goals as goal

pub returns-clause-state : goal.returns-clause-state
returns-clause-state c =
    let before : LinkSide = record { awaited = c.self.inside.awaited; rest = take c.self.inside.staged c.self.inside.staging.items; state = c.self.inside.link.state } in
    let after : LinkSide = record { awaited = c.self.inside.awaited; rest = take c.self.inside.staged c.self.inside.staging.items; state = c.send_and_read_all.new.self.state } in
    on_ok c.send_and_read_all.result (λ is. seen_all before c.self.inside.staging.items c.args.self.now after (send_read_calls c.args.message.now c.args.reads.now) c.self.view_is (send_read_state before c.send_and_read_all.new.self.state c.args.message.now c.args.reads.now (ap (λ (l : LinkView). l.state) is))) c.send_and_read_all.ensures.ok

pub returns-clause-stands : goal.returns-clause-stands
returns-clause-stands c =
    let before : LinkSide = record { awaited = c.self.inside.awaited; rest = take c.self.inside.staged c.self.inside.staging.items; state = c.self.inside.link.state } in
    let after : LinkSide = record { awaited = c.self.inside.awaited; rest = take c.self.inside.staged c.self.inside.staging.items; state = c.send_and_read_all.new.self.state } in
    on_ok c.send_and_read_all.result (λ is. stands_on_all c.args.self.now.link (send_read_calls c.args.message.now c.args.reads.now) after (seen_all before c.self.inside.staging.items c.args.self.now after (send_read_calls c.args.message.now c.args.reads.now) c.self.view_is (send_read_state before c.send_and_read_all.new.self.state c.args.message.now c.args.reads.now (ap (λ (l : LinkView). l.state) is)))) c.send_and_read_all.ensures.ok
