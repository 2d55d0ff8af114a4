use Rattle.std.proofs.Common.{take, ap}
use Rattle.nr_endpoint.specs.LinkState.{LinkState}
use Rattle.nr_endpoint.specs.Offering.{hold_calls}
use Rattle.nr_endpoint.proofs.Standing.{stands_on_all, on_ok}
use Rattle.nr_endpoint.proofs.WholeCalls.{seen_all, held_state, held_of}
use Rattle.nr_endpoint.proofs.endpoint.Endpoint.offer_held.Goals as goal

pub returns-clause-state : goal.returns-clause-state
returns-clause-state c = on_ok c.offer_held.result (λ is. (seen_all (record { awaited = c.self.inside.awaited; rest = take c.self.inside.staged c.self.inside.staging.items; state = c.self.inside.link.state }) c.self.inside.staging.items c.args.self.now (record { awaited = c.self.inside.awaited; rest = take c.self.inside.staged c.self.inside.staging.items; state = c.offer_held.new.self.state }) (hold_calls c.args.message c.args.offered) c.self.view_is (held_state (record { awaited = c.self.inside.awaited; rest = take c.self.inside.staged c.self.inside.staging.items; state = c.self.inside.link.state }) c.offer_held.new.self.state c.args.message c.args.offered is))) c.offer_held.ensures.ok

pub returns-clause-stands : goal.returns-clause-stands
returns-clause-stands c =
    on_ok c.offer_held.result (λ is. stands_on_all c.args.self.now.link (hold_calls c.args.message c.args.offered) (record { awaited = c.self.inside.awaited; rest = take c.self.inside.staged c.self.inside.staging.items; state = c.offer_held.new.self.state }) (seen_all (record { awaited = c.self.inside.awaited; rest = take c.self.inside.staged c.self.inside.staging.items; state = c.self.inside.link.state }) c.self.inside.staging.items c.args.self.now (record { awaited = c.self.inside.awaited; rest = take c.self.inside.staged c.self.inside.staging.items; state = c.offer_held.new.self.state }) (hold_calls c.args.message c.args.offered) c.self.view_is (held_state (record { awaited = c.self.inside.awaited; rest = take c.self.inside.staged c.self.inside.staging.items; state = c.self.inside.link.state }) c.offer_held.new.self.state c.args.message c.args.offered is))) c.offer_held.ensures.ok

pub returns-clause-held : goal.returns-clause-held
returns-clause-held c =
    held_of c.offer_held.result c.self.inside.link.state.memory c.offer_held.new.self.state.memory c.args.offered c.offer_held.ensures.claims (on_ok c.offer_held.result (λ is. ap (λ (s : LinkState). s.memory) is) c.offer_held.ensures.ok)
