use Rattle.std.proofs.Common.{◌≡◌, ℕ, List, ◌++◌, length, refl, sym, ap, subst, ◌∙◌, arith}
use Rattle.nr_header.specs.Header.{ChunksFit}
use Rattle.nr_header.specs.Slices.{lists_of_slices}
use Rattle.nr_reduce.specs.Plans.{call_message}
use Rattle.nr_reduce.proofs.Sizes.{message_size}
use Rattle.nr_endpoint.specs.declared.offering.Offered.{Offered}
use Rattle.nr_endpoint.specs.Offering.{offered_count, claims_of}
use Rattle.nr_requester.specs.Sending.{call_plan}
use Rattle.nr_requester.proofs.Sized.{few, plan_fits, lists_fit_lem}
use Rattle.nr_requester.proofs.Sent.{count_offered, message_by}
use Rattle.nr_requester.proofs.HeldCalls.{held_memory, held_view}
use Rattle.nr_requester.proofs.HeldRegions.{sent_held}
use Rattle.nr_requester.proofs.OutsideBounds.{offered_outside}
use Rattle.nr_requester.proofs.again.hold_message.Goals as goal

pub message_of-requires : goal.message_of-requires
message_of-requires c = subst ChunksFit (sym (c.as_slices.ensures ∙ c.requires.lists)) (lists_fit_lem c.args.endpoint.now.link.state.memory.next (call_plan c.args.plan) (few (call_plan c.args.plan) (plan_fits (call_plan c.args.plan) c.requires.planned)))

pub offered_of-requires : goal.offered_of-requires
offered_of-requires c = record { few = few (call_plan c.args.plan) (plan_fits (call_plan c.args.plan) c.requires.planned) }

pub offer_held-requires-clause-size : goal.offer_held-requires-clause-size
offer_held-requires-clause-size c =
    let p = c.requires.planned in
    let short = p.short in
    let m = c.in_ok-message.message in
    let message : c.extend_from_slice.new.self ≡ call_message c.args.xid c.args.credit c.args.endpoint.now.link.state.memory.next (call_plan c.args.plan) =
    c.in_ok-extend_from_slice.ensures.ok ∙ message_by c.args.xid c.args.credit c.args.endpoint.now.link.state.memory.next (call_plan c.args.plan) (lists_of_slices c.as_slices.result) m m c.in_ok-message.stream.now refl c.in_ok-message.ensures (c.as_slices.ensures ∙ c.requires.lists) in
    let size = (message_size p.payload p.form p.up p.down c.args.xid c.args.credit c.args.endpoint.now.link.state.memory.next (call_plan c.args.plan) p.is).1 in
    let len = ap (λ (xs : List ℕ). length xs) message in
    omega (arith, size, short, len)

pub offer_held-requires-clause-stags : goal.offer_held-requires-clause-stags
offer_held-requires-clause-stags c =
    let count = ap (λ (o : Offered). offered_count o) c.in_ok-offered.ensures ∙ count_offered (call_plan c.args.plan) in
    let fits = c.requires.stags in
    omega (arith, count, fits)

pub returns-in-Ok-clause-link : goal.returns-in-Ok-clause-link
returns-in-Ok-clause-link c =
    let m = c.in_ok-message.message in
    let message : c.extend_from_slice.new.self ≡ call_message c.args.xid c.args.credit c.args.endpoint.now.link.state.memory.next (call_plan c.args.plan) =
    c.in_ok-extend_from_slice.ensures.ok ∙ message_by c.args.xid c.args.credit c.args.endpoint.now.link.state.memory.next (call_plan c.args.plan) (lists_of_slices c.as_slices.result) m m c.in_ok-message.stream.now refl c.in_ok-message.ensures (c.as_slices.ensures ∙ c.requires.lists) in
    held_view c.args.endpoint.now.link c.offer_held.new.self.link c.args.xid c.args.credit (call_plan c.args.plan) c.extend_from_slice.new.self c.in_ok-offered.offered c.requires.live c.in-Ok.ensures.state message c.in_ok-offered.ensures

pub returns-in-Ok-clause-held : goal.returns-in-Ok-clause-held
returns-in-Ok-clause-held c =
    sent_held c.args.endpoint.now.link.state.memory c.offer_held.new.self.link.state.memory c.in_ok-offered.offered c.in-Ok.claims
    (held_memory c.args.endpoint.now.link c.offer_held.new.self.link c.extend_from_slice.new.self c.in_ok-offered.offered c.in-Ok.ensures.state) c.in-Ok.ensures.claims

pub returns-in-Ok-clause-outside : goal.returns-in-Ok-clause-outside
returns-in-Ok-clause-outside c =
    let count = ap (λ (o : Offered). offered_count o) c.in_ok-offered.ensures ∙ count_offered (call_plan c.args.plan) in
    let fits = c.requires.stags in
    offered_outside c.args.endpoint.now c.offer_held.new.self c.in_ok-offered.offered (held_memory c.args.endpoint.now.link c.offer_held.new.self.link c.extend_from_slice.new.self c.in_ok-offered.offered c.in-Ok.ensures.state) c.in-Ok.ensures.outside (omega (arith, count, fits))

pub returns-in-Ok-clause-claims : goal.returns-in-Ok-clause-claims
returns-in-Ok-clause-claims c = c.in-Ok.ensures.claims ∙ ap (λ (o : Offered). claims_of c.args.endpoint.now.link.state.memory o) c.in_ok-offered.ensures
