use Rattle.std.proofs.Common.{ℕ, ◌<◌, is_some, refl, sym, ap, subst, ◌∙◌}
use Rattle.nr_requester.specs.RequesterState.{RequesterSide}
use Rattle.nr_requester.specs.AfterCalls.{after_forget}
use Rattle.nr_requester.specs.OpenCalls.{found_answer}
use Rattle.nr_requester.proofs.FoundAnswers.{place_says, none_if}
use Rattle.nr_requester.proofs.CallsKeep.{done_keeps, done_stops, lost_keeps}
use Rattle.nr_requester.proofs.GivenUp.{done_stands, lost_stands}
use Rattle.nr_requester.specs.Fed.{fed_bytes}
use Rattle.nr_requester.proofs.Tickets.{closed_as, forget_closes, fed_forgotten}
use Rattle.nr_requester.proofs.requester.Requester.try_take.Goals as goal

pub take_done-requires : goal.take_done-requires
take_done-requires c =
    let says = c.is_some.ensures
    ∙ place_says c.xid.result c.self.inside.answered.items c.as_slice.result.now c.answer_place.result c.as_slice.ensures.value c.self.invariant.1.0.distinct c.answer_place.ensures.some c.answer_place.ensures.none
    ∙ ap (λ (h : RequesterSide). is_some (found_answer c.xid.result h.state)) c.self.view_is
    ∙ ap (λ (n : ℕ). is_some (found_answer n c.args.self.now.state)) c.xid.ensures in
    record { there = ap (λ (n : ℕ). is_some (found_answer n c.args.self.now.state)) c.xid-then-is_some.ensures ∙ sym says ∙ c.if-is_some.true }

pub returns-then-is_some-clause-stands : goal.returns-then-is_some-clause-stands
returns-then-is_some-clause-stands c =
    done_stands c.args.self.now c.take_done.new.self c.args.ticket c.take_done.result.outcome (subst (λ (n : ℕ). n < c.args.self.now.state.next_xid) c.xid-then-is_some.ensures c.take_done.ensures.number)
    (c.take_done.ensures.state ∙ ap (λ (n : ℕ). after_forget c.args.self.now n) c.xid-then-is_some.ensures)

pub returns-then-is_some-clause-keeps : goal.returns-then-is_some-clause-keeps
returns-then-is_some-clause-keeps c =
    done_keeps c.args.self.now c.take_done.new.self c.args.ticket c.take_done.result.outcome (subst (λ (n : ℕ). n < c.args.self.now.state.next_xid) c.xid-then-is_some.ensures c.take_done.ensures.number)
    (c.take_done.ensures.state ∙ ap (λ (n : ℕ). after_forget c.args.self.now n) c.xid-then-is_some.ensures)

pub returns-then-is_some-clause-stops : goal.returns-then-is_some-clause-stops
returns-then-is_some-clause-stops c =
    done_stops c.args.self.now c.take_done.new.self c.args.ticket c.take_done.result.outcome (subst (λ (n : ℕ). n < c.args.self.now.state.next_xid) c.xid-then-is_some.ensures c.take_done.ensures.number)
    (c.take_done.ensures.state ∙ ap (λ (n : ℕ). after_forget c.args.self.now n) c.xid-then-is_some.ensures)

pub returns-in-None-clause-taken : goal.returns-in-None-clause-taken
returns-in-None-clause-taken c =
    let says = c.is_some.ensures
    ∙ place_says c.xid.result c.self.inside.answered.items c.as_slice.result.now c.answer_place.result c.as_slice.ensures.value c.self.invariant.1.0.distinct c.answer_place.ensures.some c.answer_place.ensures.none
    ∙ ap (λ (h : RequesterSide). is_some (found_answer c.xid.result h.state)) c.self.view_is
    ∙ ap (λ (n : ℕ). is_some (found_answer n c.args.self.now.state)) c.xid.ensures in
    (refl, (none_if (found_answer c.args.ticket c.args.self.now.state) (sym says ∙ c.if-is_some.false), (sym c.end.ensures ∙ c.in-None.is, refl)))

pub returns-in-Some-clause-taken : goal.returns-in-Some-clause-taken
returns-in-Some-clause-taken c =
    let says = c.is_some.ensures
    ∙ place_says c.xid.result c.self.inside.answered.items c.as_slice.result.now c.answer_place.result c.as_slice.ensures.value c.self.invariant.1.0.distinct c.answer_place.ensures.some c.answer_place.ensures.none
    ∙ ap (λ (h : RequesterSide). is_some (found_answer c.xid.result h.state)) c.self.view_is
    ∙ ap (λ (n : ℕ). is_some (found_answer n c.args.self.now.state)) c.xid.ensures in
    (none_if (found_answer c.args.ticket c.args.self.now.state) (sym says ∙ c.if-is_some.false), (sym c.end.ensures ∙ c.in-Some.is, (c.revoke-call.ensures.call, (c.revoke-call.ensures.buffers, c.revoke-call.ensures.state))))

pub returns-in-Some-clause-stands : goal.returns-in-Some-clause-stands
returns-in-Some-clause-stands c =
    (lost_stands c.args.self.now c.revoke-call.new.self c.args.ticket c.in-Some.end (sym c.end.ensures ∙ c.in-Some.is) c.revoke-call.ensures.number c.revoke-call.ensures.state, c.revoke-call.ensures.out)

pub returns-in-Some-clause-keeps : goal.returns-in-Some-clause-keeps
returns-in-Some-clause-keeps c = lost_keeps c.args.self.now c.revoke-call.new.self c.args.ticket c.in-Some.end (sym c.end.ensures ∙ c.in-Some.is) c.revoke-call.ensures.number c.revoke-call.ensures.state

pub returns-then-is_some-clause-tickets : goal.returns-then-is_some-clause-tickets
returns-then-is_some-clause-tickets c =
    closed_as c.args.self.now c.take_done.new.self _ c.args.ticket c.xid-then-is_some.result c.take_done.ensures.state c.xid-then-is_some.ensures (forget_closes c.args.self.now c.xid-then-is_some.result)

pub returns-then-is_some-clause-fed : goal.returns-then-is_some-clause-fed
returns-then-is_some-clause-fed c = ap fed_bytes c.take_done.ensures.state ∙ fed_forgotten c.args.self.now c.xid-then-is_some.result
