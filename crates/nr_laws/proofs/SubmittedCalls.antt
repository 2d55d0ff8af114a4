-- Each outstanding call of a client is one that it accepted.
use Rattle.std.proofs.Common.{◌≡◌, ℕ, zero, suc, Bool, true, false, not, eqb, cond, List, [], ◌∷◌, ◌++◌, map, Option, None, Some, refl, sym, ap, subst, ◌∙◌, arith, append_assoc, append-nil, Result, Ok, Err}
use Rattle.std.specs.Prelude.{Contains}
use Rattle.std.specs.List.{filter}
use Rattle.nr_xdr.specs.Fields.{word_at}
use Rattle.nr_wire.specs.Segment.{Segment}
use Rattle.nr_link.specs.declared.end.End.{End as Stop}
use Rattle.nr_link.specs.Frames.{Frame, is_hello}
use Rattle.nr_link.specs.ReceiveState.{ReadRequest, message_completed, read_request_of}
use Rattle.nr_reduce.specs.declared.mark.LinkParameters.{LinkParameters}
use Rattle.nr_reduce.specs.Events.{RunEvent}
use Rattle.nr_reduce.specs.Events.RunEvent.{FrameReceived, CallSubmitted, MemoryRevoked, CallExecuted, QueueWritten, ServerTold}
use Rattle.nr_reduce.specs.EndRules.{EndState, next_end_state, next_end_state_by, next_end_state_in}
use Rattle.nr_reduce.specs.ClientState.{ClientState, OutstandingCall}
use Rattle.nr_reduce.specs.Client.{client_segment, client_rules, client_end, client_state_after, initial_client, outstanding_of, with_segment, with_message, with_request, revoked_call, with_hello, due_with_response}
use Rattle.nr_reduce.proofs.Steps.{end_state_after_append}
use Rattle.nr_laws.proofs.Outcomes.{client_by}
use Rattle.nr_laws.specs.PlacedBytes.{IsSubmittedCall}

abbrev Each : (OutstandingCall → Type 0) → List OutstandingCall → Type 0
Each P [] = Unit {0}
Each P (o ∷ os) = P o × Each P os

each_append : (P : OutstandingCall → Type 0) (xs ys : List OutstandingCall) → Each P xs → Each P ys → Each P (xs ++ ys)
each_append P [] ys h k = k
each_append P (x ∷ xs) ys h k = (h.0, each_append P xs ys h.1 k)

each_map : (P : OutstandingCall → Type 0) (f : OutstandingCall → OutstandingCall) → ((o : OutstandingCall) → P o → P (f o)) → (xs : List OutstandingCall) → Each P xs → Each P (map f xs)
each_map P f keeps [] h = tt
each_map P f keeps (x ∷ xs) h = (keeps x h.0, each_map P f keeps xs h.1)

each_weak : (P Q : OutstandingCall → Type 0) → ((o : OutstandingCall) → P o → Q o) → (xs : List OutstandingCall) → Each P xs → Each Q xs
each_weak P Q f [] h = tt
each_weak P Q f (x ∷ xs) h = (f x h.0, each_weak P Q f xs h.1)

each_filter : (P : OutstandingCall → Type 0) (test : OutstandingCall → Bool) (xs : List OutstandingCall) → Each P xs → Each P (filter test xs)
each_filter P test [] h = tt
each_filter P test (x ∷ xs) h = by (test x) (each_filter P test xs h.1)
  where
    by : (b : Bool) → Each P (filter test xs) → Each P (cond b (x ∷ filter test xs) (filter test xs))
    by true g = (h.0, g)
    by false g = g

pub each_at : (P : OutstandingCall → Type 0) (xs : List OutstandingCall) → Each P xs → (o : OutstandingCall) → Contains xs o → P o
each_at P [] h o c = (let lt = c.1 in absurd (omega (arith, lt)))
each_at P (x ∷ xs) h o (zero, lt, is) = subst P is h.0
each_at P (x ∷ xs) h o (suc n, lt, is) = each_at P xs h.1 o (n, omega (arith, lt), is)

pub submitted_more : (opened : LinkParameters) (es more : List RunEvent) (o : OutstandingCall) → IsSubmittedCall opened es o → IsSubmittedCall opened (es ++ more) o
submitted_more opened es more o h = record {
  earlier = h.earlier;
  later = h.later ++ more;
  place = h.place;
  call = h.call;
  is_submitted = ap (λ (xs : List RunEvent). xs ++ more) h.is_submitted ∙ append_assoc h.earlier (CallSubmitted h.place h.call ∷ h.later) more;
  own = h.own;
}

each_message : (P : OutstandingCall → Type 0) (k : ClientState) (place : ℕ) (m : Option (List ℕ)) → Each P k.outstanding → Each P (with_message k place m).outstanding
each_message P k place None h = h
each_message P k place (Some m) h = each_filter P (λ o. not (eqb o.xid (word_at 0 m))) k.outstanding h

each_request : (P : OutstandingCall → Type 0) (k : ClientState) (due : ℕ) (q : Option ReadRequest) → Each P k.outstanding → Each P (with_request k due q).outstanding
each_request P k due None h = h
each_request P k due (Some q) h = h

each_segment : (P : OutstandingCall → Type 0) (k : ClientState) (f : Frame) (r : Result Segment ℕ) → Each P k.outstanding → Each P (with_segment k f r).outstanding
each_segment P k f (Err reason) h = h
each_segment P k f (Ok s) h = each_request P (with_message k f.end (message_completed k.received s)) (due_with_response k f s) (read_request_of s) (each_message P k f.end (message_completed k.received s) h)

one_event : (opened : LinkParameters) (es : List RunEvent) (e : RunEvent) → Each (IsSubmittedCall opened es) (client_by opened es).state.outstanding
    → Each (IsSubmittedCall opened (es ++ e ∷ [])) (next_end_state (client_rules opened) (client_by opened es) e).state.outstanding
unfolding client_state_after
one_event opened es e h = by_ended (client_by opened es).ended
  where
    k : ClientState
    k = (client_by opened es).state

    P : OutstandingCall → Type 0
    P = IsSubmittedCall opened (es ++ e ∷ [])

    same : Each P k.outstanding
    same = each_weak (IsSubmittedCall opened es) P (submitted_more opened es (e ∷ [])) k.outstanding h

    revoked : (xid : ℕ) (o : OutstandingCall) → P o → P (revoked_call xid o)
    revoked xid o p = by (eqb o.xid xid)
      where
        by : (b : Bool) → P (cond b (record o { is_revoked = true }) o)
        by true = record { earlier = p.earlier; later = p.later; place = p.place; call = p.call; is_submitted = p.is_submitted; own = p.own }
        by false = p

    by_event : (x : RunEvent) → e ≡ x → Each P (client_state_after opened k x).outstanding
    by_event (FrameReceived f) is = by_hello (is_hello f)
      where
        by_hello : (b : Bool) → Each P (cond b (with_hello opened k f) (with_segment k f (client_segment k f))).outstanding
        by_hello true = same
        by_hello false = each_segment P k f (client_segment k f) same
    by_event (CallSubmitted place a) is =
        each_append P k.outstanding (outstanding_of k a ∷ []) same
        (record { earlier = es; later = []; place = place; call = a; is_submitted = ap (λ (x : RunEvent). es ++ x ∷ []) is; own = refl }, tt)
    by_event (MemoryRevoked place xid) is = each_map P (revoked_call xid) (revoked xid) k.outstanding same
    by_event (CallExecuted call) is = same
    by_event (QueueWritten taken) is = same
    by_event (ServerTold what) is = same

    by_why : (o : Option Stop) → Each P (next_end_state_by (client_rules opened) k e o).state.outstanding
    by_why None = by_event e refl
    by_why (Some end) = same

    by_ended : (o : Option Stop) → Each P (next_end_state_in (client_rules opened) k e o).state.outstanding
    by_ended None = by_why (client_end k e)
    by_ended (Some end) = same

all_events : (opened : LinkParameters) (front es : List RunEvent) → Each (IsSubmittedCall opened front) (client_by opened front).state.outstanding → Each (IsSubmittedCall opened (front ++ es)) (client_by opened (front ++ es)).state.outstanding
all_events opened front [] h = subst (λ (xs : List RunEvent). Each (IsSubmittedCall opened xs) (client_by opened xs).state.outstanding) (sym (append-nil front)) h
all_events opened front (e ∷ es) h =
    let one = subst (λ (r : EndState ClientState). Each (IsSubmittedCall opened (front ++ e ∷ [])) r.state.outstanding) (sym (end_state_after_append (client_rules opened) (initial_client opened) front (e ∷ []))) (one_event opened front e h) in
    subst (λ (xs : List RunEvent). Each (IsSubmittedCall opened xs) (client_by opened xs).state.outstanding) (append_assoc front (e ∷ []) es) (all_events opened (front ++ e ∷ []) es one)

pub outstanding_are_submitted : (opened : LinkParameters) (es : List RunEvent) (o : OutstandingCall) → Contains (client_by opened es).state.outstanding o → IsSubmittedCall opened es o
outstanding_are_submitted opened es o c = each_at (IsSubmittedCall opened es) (client_by opened es).state.outstanding (all_events opened [] es tt) o c
