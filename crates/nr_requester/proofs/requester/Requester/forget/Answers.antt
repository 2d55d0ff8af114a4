use Rattle.std.proofs.Common.{◌≡◌, ◌≢◌, ℕ, ◌<◌, true, List, length, get_or, set, Option, None, is_some, refl, sym, ap, subst, ◌∙◌, arith}
use Rattle.nr_reduce.specs.declared.call.Call.{Call}
use Rattle.nr_requester.specs.declared.outstanding.OutstandingCall.{OutstandingCall}
use Rattle.nr_requester.specs.RequesterState.{RequesterSide}
use Rattle.nr_requester.specs.AfterCalls.{after_forget}
use Rattle.nr_requester.specs.OpenCalls.{open_call, call_with, found_answer}
use Rattle.nr_requester.specs.Views.{forgot}
use Rattle.nr_requester.proofs.ChangedCalls.{IsFound, is_found, below_next}
use Rattle.nr_requester.proofs.FoundAnswers.{answered_below}
use Rattle.nr_requester.proofs.GivenUp.{open_answered, call_answered, forgot_view, forgot_sound, forgot_within, taken_view, taken_sound, taken_within, forgot_stands, forgot_stays_out}
use Rattle.nr_requester.proofs.CallsKeep.{forgot_keeps, forgot_stops}
use Rattle.nr_requester.proofs.FoundAnswers.{left_as}
use Rattle.nr_requester.specs.Fed.{fed_bytes}
use Rattle.nr_requester.proofs.Tickets.{closed_as, forget_closes, fed_forgotten}
use Rattle.nr_requester.proofs.requester.Requester.forget.Goals as goal

pub invariant_of-self : goal.invariant_of-self
invariant_of-self c =
    let i = c.self.inside in
    let f : IsFound i.outstanding.items c.args.ticket c.in-Some.at =
    is_found i.outstanding.items c.as_slice.result.now c.args.ticket c.xid-xid.result c.in-Some.at c.as_slice.ensures.value c.xid-xid.ensures c.in-Some.ensures.some.0 c.in-Some.ensures.some.1 in
    let d : OutstandingCall = c.index_mut.result.now in
    let are = ap (λ (y : OutstandingCall). set i.outstanding.items c.in-Some.at y) (c.mark_forgotten.ensures ∙ ap (λ (o : OutstandingCall). forgot o) c.index_mut.ensures.value) in
    (forgot_sound i.endpoint.link i.receive_length i.next_xid i.grant _ c.in-Some.at i.outstanding.items _ i.answered.items d c.self.invariant.0 f.within are, (forgot_within i.endpoint i.receive_length i.sends i.next_xid c.in-Some.at i.outstanding.items _ i.answered.items d c.self.invariant.1.0 f.within are, c.self.invariant.1.1))

pub returns-in-Some-clause-state : goal.returns-in-Some-clause-state
returns-in-Some-clause-state c =
    let i = c.self.inside in
    let f : IsFound i.outstanding.items c.args.ticket c.in-Some.at =
    is_found i.outstanding.items c.as_slice.result.now c.args.ticket c.xid-xid.result c.in-Some.at c.as_slice.ensures.value c.xid-xid.ensures c.in-Some.ensures.some.0 c.in-Some.ensures.some.1 in
    let d : OutstandingCall = c.index_mut.result.now in
    let are = ap (λ (y : OutstandingCall). set i.outstanding.items c.in-Some.at y) (c.mark_forgotten.ensures ∙ ap (λ (o : OutstandingCall). forgot o) c.index_mut.ensures.value) in
    forgot_view i.endpoint.link i.sent i.wished i.sends i.next_xid i.grant i.local_releases c.args.ticket c.in-Some.at i.outstanding.items _ i.answered.items d i.endpoint.staging i.marks c.marks_if-self-inside.result c.self.invariant.0.rising c.self.invariant.0.apart f.within (f.own d) are c.marks_if-self-inside.ensures
    ∙ ap (λ (h : RequesterSide). after_forget h c.args.ticket) c.self.view_is

pub returns-in-Some-clause-stands : goal.returns-in-Some-clause-stands
returns-in-Some-clause-stands c =
    let i = c.self.inside in
    let f : IsFound i.outstanding.items c.args.ticket c.in-Some.at =
    is_found i.outstanding.items c.as_slice.result.now c.args.ticket c.xid-xid.result c.in-Some.at c.as_slice.ensures.value c.xid-xid.ensures c.in-Some.ensures.some.0 c.in-Some.ensures.some.1 in
    let d : OutstandingCall = c.index_mut.result.now in
    let below = below_next i.next_xid c.in-Some.at i.outstanding.items d c.self.invariant.0.rising f.within in
    let next = ap (λ (h : RequesterSide). h.state.next_xid) c.self.view_is in
    let own = f.own d in
    forgot_stands c.args.self.now _ c.args.ticket (omega (arith, below, next, own)) (returns-in-Some-clause-state c)

pub returns-in-Some-clause-keeps : goal.returns-in-Some-clause-keeps
returns-in-Some-clause-keeps c =
    let i = c.self.inside in
    let f : IsFound i.outstanding.items c.args.ticket c.in-Some.at =
    is_found i.outstanding.items c.as_slice.result.now c.args.ticket c.xid-xid.result c.in-Some.at c.as_slice.ensures.value c.xid-xid.ensures c.in-Some.ensures.some.0 c.in-Some.ensures.some.1 in
    let d : OutstandingCall = c.index_mut.result.now in
    let below = below_next i.next_xid c.in-Some.at i.outstanding.items d c.self.invariant.0.rising f.within in
    let next = ap (λ (h : RequesterSide). h.state.next_xid) c.self.view_is in
    let own = f.own d in
    forgot_keeps c.args.self.now _ c.args.ticket (omega (arith, below, next, own)) (returns-in-Some-clause-state c)

pub returns-in-Some-clause-stops : goal.returns-in-Some-clause-stops
returns-in-Some-clause-stops c =
    let i = c.self.inside in
    let f : IsFound i.outstanding.items c.args.ticket c.in-Some.at =
    is_found i.outstanding.items c.as_slice.result.now c.args.ticket c.xid-xid.result c.in-Some.at c.as_slice.ensures.value c.xid-xid.ensures c.in-Some.ensures.some.0 c.in-Some.ensures.some.1 in
    let d : OutstandingCall = c.index_mut.result.now in
    let below = below_next i.next_xid c.in-Some.at i.outstanding.items d c.self.invariant.0.rising f.within in
    let next = ap (λ (h : RequesterSide). h.state.next_xid) c.self.view_is in
    let own = f.own d in
    forgot_stops c.args.self.now _ c.args.ticket (omega (arith, below, next, own)) (returns-in-Some-clause-state c)

pub returns-in-Some-clause-out : goal.returns-in-Some-clause-out
returns-in-Some-clause-out c =
    let i = c.self.inside in
    let f : IsFound i.outstanding.items c.args.ticket c.in-Some.at =
    is_found i.outstanding.items c.as_slice.result.now c.args.ticket c.xid-xid.result c.in-Some.at c.as_slice.ensures.value c.xid-xid.ensures c.in-Some.ensures.some.0 c.in-Some.ensures.some.1 in
    let d : OutstandingCall = c.index_mut.result.now in
    let below = below_next i.next_xid c.in-Some.at i.outstanding.items d c.self.invariant.0.rising f.within in
    let next = ap (λ (h : RequesterSide). h.state.next_xid) c.self.view_is in
    let own = f.own d in
    forgot_stays_out c.args.self.now _ c.args.ticket (omega (arith, below, next, own)) (returns-in-Some-clause-state c)

pub invariant_of-self-2 : goal.invariant_of-self-2
invariant_of-self-2 c =
    let i = c.self.inside in (
      taken_sound i.endpoint.link i.receive_length i.next_xid i.grant _ _ c.xid-xid.result i.outstanding.items i.answered.items c.take_answer.new.answered.items c.self.invariant.0 c.take_answer.ensures.left c.take_answer.ensures.capacity,
      (taken_within i.endpoint i.receive_length i.sends i.next_xid c.xid-xid.result i.outstanding.items i.answered.items c.take_answer.new.answered.items c.self.invariant.1.0 c.take_answer.ensures.left, c.self.invariant.1.1),
    )

pub returns-clause-state : goal.returns-clause-state
returns-clause-state c =
    let i = c.self.inside in
    let none : (k : ℕ) (d : OutstandingCall) → k < length i.outstanding.items → (get_or i.outstanding.items k d).xid ≢ c.args.ticket =
    λ k d lt e. c.place_of.ensures.none c.in_default.is k d (subst (λ (cs : List OutstandingCall). k < length cs) (sym c.as_slice.ensures.value) lt) (ap (λ (cs : List OutstandingCall). (get_or cs k d).xid) c.as_slice.ensures.value ∙ e ∙ sym c.xid-xid.ensures) in
    taken_view i.endpoint.link i.sent i.wished i.sends i.next_xid i.grant i.local_releases c.args.ticket i.outstanding.items i.answered.items c.take_answer.new.answered.items i.endpoint.staging i.marks c.marks_if-self-inside.result none (left_as c.args.ticket c.xid-xid.result i.answered.items c.take_answer.new.answered.items c.xid-xid.ensures c.take_answer.ensures.left) c.marks_if-self-inside.ensures
    ∙ ap (λ (h : RequesterSide). after_forget h c.args.ticket) c.self.view_is

pub returns-clause-stands : goal.returns-clause-stands
returns-clause-stands c =
    let i = c.self.inside in
    let none : (k : ℕ) (d : OutstandingCall) → k < length i.outstanding.items → (get_or i.outstanding.items k d).xid ≢ c.args.ticket =
    λ k d lt e. c.place_of.ensures.none c.in_default.is k d (subst (λ (cs : List OutstandingCall). k < length cs) (sym c.as_slice.ensures.value) lt) (ap (λ (cs : List OutstandingCall). (get_or cs k d).xid) c.as_slice.ensures.value ∙ e ∙ sym c.xid-xid.ensures) in
    let found : open_call c.args.ticket c.args.self.now.state ≡ call_with None (found_answer c.args.ticket c.args.self.now.state) =
    ap (λ (h : RequesterSide). open_call c.args.ticket h.state) (sym c.self.view_is) ∙ call_answered i.endpoint.link i.sent i.wished i.sends i.next_xid i.grant i.local_releases c.args.ticket i.outstanding.items i.answered.items _ none refl ∙ ap (λ (h : RequesterSide). call_with None (found_answer c.args.ticket h.state)) c.self.view_is in
    let there : is_some (found_answer c.args.ticket c.args.self.now.state) ≡ true = open_answered (found_answer c.args.ticket c.args.self.now.state) (sym (ap (λ (o : Option Call). is_some o) found) ∙ c.requires.open) in
    let lt = answered_below i.next_xid c.args.ticket i.outstanding.items i.answered.items c.self.invariant.0.apart (ap (λ (h : RequesterSide). is_some (found_answer c.args.ticket h.state)) c.self.view_is ∙ there) in
    let next = ap (λ (h : RequesterSide). h.state.next_xid) c.self.view_is in
    forgot_stands c.args.self.now _ c.args.ticket (omega (arith, lt, next)) (returns-clause-state c)

pub returns-clause-keeps : goal.returns-clause-keeps
returns-clause-keeps c =
    let i = c.self.inside in
    let none : (k : ℕ) (d : OutstandingCall) → k < length i.outstanding.items → (get_or i.outstanding.items k d).xid ≢ c.args.ticket =
    λ k d lt e. c.place_of.ensures.none c.in_default.is k d (subst (λ (cs : List OutstandingCall). k < length cs) (sym c.as_slice.ensures.value) lt) (ap (λ (cs : List OutstandingCall). (get_or cs k d).xid) c.as_slice.ensures.value ∙ e ∙ sym c.xid-xid.ensures) in
    let found : open_call c.args.ticket c.args.self.now.state ≡ call_with None (found_answer c.args.ticket c.args.self.now.state) =
    ap (λ (h : RequesterSide). open_call c.args.ticket h.state) (sym c.self.view_is) ∙ call_answered i.endpoint.link i.sent i.wished i.sends i.next_xid i.grant i.local_releases c.args.ticket i.outstanding.items i.answered.items _ none refl ∙ ap (λ (h : RequesterSide). call_with None (found_answer c.args.ticket h.state)) c.self.view_is in
    let there : is_some (found_answer c.args.ticket c.args.self.now.state) ≡ true = open_answered (found_answer c.args.ticket c.args.self.now.state) (sym (ap (λ (o : Option Call). is_some o) found) ∙ c.requires.open) in
    let lt = answered_below i.next_xid c.args.ticket i.outstanding.items i.answered.items c.self.invariant.0.apart (ap (λ (h : RequesterSide). is_some (found_answer c.args.ticket h.state)) c.self.view_is ∙ there) in
    let next = ap (λ (h : RequesterSide). h.state.next_xid) c.self.view_is in
    forgot_keeps c.args.self.now _ c.args.ticket (omega (arith, lt, next)) (returns-clause-state c)

pub returns-clause-stops : goal.returns-clause-stops
returns-clause-stops c =
    let i = c.self.inside in
    let none : (k : ℕ) (d : OutstandingCall) → k < length i.outstanding.items → (get_or i.outstanding.items k d).xid ≢ c.args.ticket =
    λ k d lt e. c.place_of.ensures.none c.in_default.is k d (subst (λ (cs : List OutstandingCall). k < length cs) (sym c.as_slice.ensures.value) lt) (ap (λ (cs : List OutstandingCall). (get_or cs k d).xid) c.as_slice.ensures.value ∙ e ∙ sym c.xid-xid.ensures) in
    let found : open_call c.args.ticket c.args.self.now.state ≡ call_with None (found_answer c.args.ticket c.args.self.now.state) =
    ap (λ (h : RequesterSide). open_call c.args.ticket h.state) (sym c.self.view_is) ∙ call_answered i.endpoint.link i.sent i.wished i.sends i.next_xid i.grant i.local_releases c.args.ticket i.outstanding.items i.answered.items _ none refl ∙ ap (λ (h : RequesterSide). call_with None (found_answer c.args.ticket h.state)) c.self.view_is in
    let there : is_some (found_answer c.args.ticket c.args.self.now.state) ≡ true = open_answered (found_answer c.args.ticket c.args.self.now.state) (sym (ap (λ (o : Option Call). is_some o) found) ∙ c.requires.open) in
    let lt = answered_below i.next_xid c.args.ticket i.outstanding.items i.answered.items c.self.invariant.0.apart (ap (λ (h : RequesterSide). is_some (found_answer c.args.ticket h.state)) c.self.view_is ∙ there) in
    let next = ap (λ (h : RequesterSide). h.state.next_xid) c.self.view_is in
    forgot_stops c.args.self.now _ c.args.ticket (omega (arith, lt, next)) (returns-clause-state c)

pub returns-clause-out : goal.returns-clause-out
returns-clause-out c =
    let i = c.self.inside in
    let none : (k : ℕ) (d : OutstandingCall) → k < length i.outstanding.items → (get_or i.outstanding.items k d).xid ≢ c.args.ticket =
    λ k d lt e. c.place_of.ensures.none c.in_default.is k d (subst (λ (cs : List OutstandingCall). k < length cs) (sym c.as_slice.ensures.value) lt) (ap (λ (cs : List OutstandingCall). (get_or cs k d).xid) c.as_slice.ensures.value ∙ e ∙ sym c.xid-xid.ensures) in
    let found : open_call c.args.ticket c.args.self.now.state ≡ call_with None (found_answer c.args.ticket c.args.self.now.state) =
    ap (λ (h : RequesterSide). open_call c.args.ticket h.state) (sym c.self.view_is) ∙ call_answered i.endpoint.link i.sent i.wished i.sends i.next_xid i.grant i.local_releases c.args.ticket i.outstanding.items i.answered.items _ none refl ∙ ap (λ (h : RequesterSide). call_with None (found_answer c.args.ticket h.state)) c.self.view_is in
    let there : is_some (found_answer c.args.ticket c.args.self.now.state) ≡ true = open_answered (found_answer c.args.ticket c.args.self.now.state) (sym (ap (λ (o : Option Call). is_some o) found) ∙ c.requires.open) in
    let lt = answered_below i.next_xid c.args.ticket i.outstanding.items i.answered.items c.self.invariant.0.apart (ap (λ (h : RequesterSide). is_some (found_answer c.args.ticket h.state)) c.self.view_is ∙ there) in
    let next = ap (λ (h : RequesterSide). h.state.next_xid) c.self.view_is in
    forgot_stays_out c.args.self.now _ c.args.ticket (omega (arith, lt, next)) (returns-clause-state c)

pub returns-in-Some-clause-tickets : goal.returns-in-Some-clause-tickets
returns-in-Some-clause-tickets c = closed_as c.args.self.now _ _ c.args.ticket c.args.ticket (returns-in-Some-clause-state c) refl (forget_closes c.args.self.now c.args.ticket)

pub returns-clause-tickets : goal.returns-clause-tickets
returns-clause-tickets c = closed_as c.args.self.now _ _ c.args.ticket c.args.ticket (returns-clause-state c) refl (forget_closes c.args.self.now c.args.ticket)

pub returns-in-Some-clause-fed : goal.returns-in-Some-clause-fed
returns-in-Some-clause-fed c = ap fed_bytes (returns-in-Some-clause-state c) ∙ fed_forgotten c.args.self.now c.args.ticket

pub returns-clause-fed : goal.returns-clause-fed
returns-clause-fed c = ap fed_bytes (returns-clause-state c) ∙ fed_forgotten c.args.self.now c.args.ticket
