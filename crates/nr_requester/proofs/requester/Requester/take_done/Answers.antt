use Rattle.std.proofs.Common.{◌≡◌, ℕ, true, false, Option, refl, ap, sym, ◌∙◌, arith}
use Rattle.std.specs.Prelude.{is_some}
use Rattle.nr_requester.specs.RequesterState.{RequesterFeeding, RequesterSide}
use Rattle.nr_requester.specs.AfterCalls.{after_forget}
use Rattle.nr_requester.specs.OpenCalls.{open_call, found_answer}
use Rattle.nr_requester.proofs.FoundAnswers.{answer_is, answered_below, not_outstanding, one_answer_there, place_says}
use Rattle.nr_requester.proofs.GivenUp.{taken_sound, taken_within, taken_view}
use Rattle.nr_requester.specs.Views.{requester_view}
use Rattle.nr_requester.proofs.Tickets.{are_apart, answered_open}
use Rattle.nr_requester.proofs.requester.Requester.take_done.Goals as goal

pub unreachable-requires : goal.unreachable-requires
unreachable-requires c =
    let i = c.self.inside in
    let says = place_says c.args.xid i.answered.items c.as_slice.result.now c.answer_place.result c.as_slice.ensures.value c.self.invariant.1.0.distinct c.answer_place.ensures.some c.answer_place.ensures.none in
    let there = ap (λ (h : RequesterSide). is_some (found_answer c.args.xid h.state)) c.self.view_is ∙ c.requires.there in
    absurd (let wrong : false ≡ true = sym (ap (λ (o : Option ℕ). is_some o) c.in_default.is) ∙ says ∙ there in cc)

pub invariant_of-self : goal.invariant_of-self
invariant_of-self c =
    let i = c.self.inside in
    let one = one_answer_there c.args.xid c.in-Some.at i.answered.items c.as_slice.result.now c.remove-call.result c.as_slice.ensures.value c.self.invariant.1.0.distinct c.in-Some.ensures.some.0 c.in-Some.ensures.some.1 c.remove-call.ensures.value in (
      taken_sound i.endpoint.link i.receive_length i.next_xid i.grant _ _ c.args.xid i.outstanding.items i.answered.items c.remove-call.new.self.items c.self.invariant.0 (c.remove-call.ensures.items ∙ one.1) c.remove-call.ensures.capacity,
      (taken_within i.endpoint i.receive_length i.sends i.next_xid c.args.xid i.outstanding.items i.answered.items c.remove-call.new.self.items c.self.invariant.1.0 (c.remove-call.ensures.items ∙ one.1), c.self.invariant.1.1),
    )

pub returns-clause-found : goal.returns-clause-found
returns-clause-found c =
    let i = c.self.inside in
    let one = one_answer_there c.args.xid c.in-Some.at i.answered.items c.as_slice.result.now c.remove-call.result c.as_slice.ensures.value c.self.invariant.1.0.distinct c.in-Some.ensures.some.0 c.in-Some.ensures.some.1 c.remove-call.ensures.value in
    ap (λ (h : RequesterSide). found_answer c.args.xid h.state) (sym c.self.view_is)
    ∙ answer_is c.args.xid c.self.inside.answered.items c.remove-call.result one.0

pub returns-clause-state : goal.returns-clause-state
returns-clause-state c =
    let i = c.self.inside in
    let one = one_answer_there c.args.xid c.in-Some.at i.answered.items c.as_slice.result.now c.remove-call.result c.as_slice.ensures.value c.self.invariant.1.0.distinct c.in-Some.ensures.some.0 c.in-Some.ensures.some.1 c.remove-call.ensures.value in
    let there = ap (λ (h : RequesterSide). is_some (found_answer c.args.xid h.state)) c.self.view_is ∙ c.requires.there in
    taken_view i.endpoint.link i.sent i.wished i.sends i.next_xid i.grant i.local_releases c.args.xid i.outstanding.items i.answered.items c.remove-call.new.self.items i.endpoint.staging i.marks c.marks_if-self-inside.result
    (not_outstanding i.next_xid c.args.xid i.outstanding.items i.answered.items c.self.invariant.0.apart there) (c.remove-call.ensures.items ∙ one.1) c.marks_if-self-inside.ensures
    ∙ ap (λ (h : RequesterSide). after_forget h c.args.xid) c.self.view_is

pub returns-clause-number : goal.returns-clause-number
returns-clause-number c =
    let i = c.self.inside in
    let there = ap (λ (h : RequesterSide). is_some (found_answer c.args.xid h.state)) c.self.view_is ∙ c.requires.there in
    let next = ap (λ (h : RequesterSide). h.state.next_xid) c.self.view_is in
    let lt = answered_below i.next_xid c.args.xid i.outstanding.items i.answered.items c.self.invariant.0.apart there in
    omega (arith, next, lt)

pub returns-clause-call : goal.returns-clause-call
returns-clause-call c =
    let i = c.self.inside in
    let one = one_answer_there c.args.xid c.in-Some.at i.answered.items c.as_slice.result.now c.remove-call.result c.as_slice.ensures.value c.self.invariant.1.0.distinct c.in-Some.ensures.some.0 c.in-Some.ensures.some.1 c.remove-call.ensures.value in
    let view : RequesterFeeding = requester_view i.endpoint.link i.sent i.wished i.sends i.next_xid i.grant i.outstanding.items i.answered.items i.local_releases in
    ap (λ (h : RequesterSide). open_call c.args.xid h.state) (sym c.self.view_is)
    ∙ answered_open view.state c.args.xid c.remove-call.result (are_apart view.state i.next_xid i.outstanding.items refl c.self.invariant.0.rising c.self.invariant.0.apart) (sym one.0)
