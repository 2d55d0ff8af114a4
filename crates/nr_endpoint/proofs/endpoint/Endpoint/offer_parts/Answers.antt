use Rattle.std.proofs.Common.{◌++◌, take, ap}
use Rattle.nr_endpoint.specs.LinkState.{LinkState}
use Rattle.nr_endpoint.specs.Offering.{offer_calls}
use Rattle.nr_endpoint.proofs.Standing.{stands_on_all, on_ok}
use Rattle.nr_endpoint.proofs.WholeCalls.{seen_all, offered_state, held_of}
use Rattle.nr_endpoint.proofs.endpoint.Endpoint.offer_parts.Goals as goal

pub returns-clause-state : goal.returns-clause-state
returns-clause-state c = on_ok c.offer.result (λ is. (seen_all (record { awaited = c.self.inside.awaited; rest = take c.self.inside.staged c.self.inside.staging.items; state = c.self.inside.link.state }) c.self.inside.staging.items c.args.self.now (record { awaited = c.self.inside.awaited; rest = take c.self.inside.staged c.self.inside.staging.items; state = c.offer.new.self.state }) (offer_calls (c.args.front.now ++ c.args.stream.now) c.args.offered) c.self.view_is (offered_state (record { awaited = c.self.inside.awaited; rest = take c.self.inside.staged c.self.inside.staging.items; state = c.self.inside.link.state }) c.offer.new.self.state (c.args.front.now ++ c.args.stream.now) c.args.offered is))) c.offer.ensures.ok

pub returns-clause-stands : goal.returns-clause-stands
returns-clause-stands c =
    on_ok c.offer.result (λ is. stands_on_all c.args.self.now.link (offer_calls (c.args.front.now ++ c.args.stream.now) c.args.offered) (record { awaited = c.self.inside.awaited; rest = take c.self.inside.staged c.self.inside.staging.items; state = c.offer.new.self.state }) (seen_all (record { awaited = c.self.inside.awaited; rest = take c.self.inside.staged c.self.inside.staging.items; state = c.self.inside.link.state }) c.self.inside.staging.items c.args.self.now (record { awaited = c.self.inside.awaited; rest = take c.self.inside.staged c.self.inside.staging.items; state = c.offer.new.self.state }) (offer_calls (c.args.front.now ++ c.args.stream.now) c.args.offered) c.self.view_is (offered_state (record { awaited = c.self.inside.awaited; rest = take c.self.inside.staged c.self.inside.staging.items; state = c.self.inside.link.state }) c.offer.new.self.state (c.args.front.now ++ c.args.stream.now) c.args.offered is))) c.offer.ensures.ok

pub returns-clause-held : goal.returns-clause-held
returns-clause-held c =
    held_of c.offer.result c.self.inside.link.state.memory c.offer.new.self.state.memory c.args.offered c.offer.ensures.claims (on_ok c.offer.result (λ is. ap (λ (s : LinkState). s.memory) is) c.offer.ensures.ok)
