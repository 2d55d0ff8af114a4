use Rattle.std.proofs.Common.{◌≡◌, ℕ, ◌-◌, ap, ◌∙◌, refl, arith}
use Rattle.nr_regions.specs.RegisteredMemory.{RegisteredMemory}
use Rattle.nr_reduce.specs.Plans.{lists_of}
use Rattle.nr_requester.specs.Sending.{call_plan, offered_of}
use Rattle.nr_requester.proofs.Sized.{few, plan_fits}
use Rattle.nr_requester.proofs.OwnOffers.{own_offer}
use Rattle.nr_requester.proofs.again.hold_plan.Goals as goal

pub lists_of-requires-clause-few : goal.lists_of-requires-clause-few
lists_of-requires-clause-few c = few (call_plan c.args.plan) (plan_fits (call_plan c.args.plan) c.requires.planned)

pub hold_message-requires-clause-lists : goal.hold_message-requires-clause-lists
hold_message-requires-clause-lists c =
    let left = c.stags_left-stag.ensures.sum in
    let next = ap (λ (m : RegisteredMemory). m.next) c.regions.ensures in
    let stag : 4294967296 - c.stags_left-stag.result ≡ c.args.endpoint.now.link.state.memory.next = omega (arith, left, next) in
    c.in_ok-lists.ensures ∙ ap (λ (n : ℕ). lists_of n (call_plan c.args.plan)) stag

pub returns-in-Ok-clause-offer : goal.returns-in-Ok-clause-offer
returns-in-Ok-clause-offer c =
    let left = c.stags_left-stag.ensures.sum in
    let next = ap (λ (m : RegisteredMemory). m.next) c.regions.ensures in
    let stag : 4294967296 - c.stags_left-stag.result ≡ c.args.endpoint.now.link.state.memory.next = omega (arith, left, next) in
    own_offer c.args.endpoint.now.link.state.memory (call_plan c.args.plan) (offered_of (call_plan c.args.plan)) c.in-Ok.claims c.in_ok-lists.lists c.in-Ok.ensures.claims refl
    (c.in_ok-lists.ensures ∙ ap (λ (n : ℕ). lists_of n (call_plan c.args.plan)) stag)
