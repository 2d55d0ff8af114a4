-- Outstanding calls have xids of their own.
use Rattle.std.proofs.Common.{◌≡◌, ℕ, ◌+◌, Bool, true, false, not, cond, eqb, ◌⊎◌, inl, inr, List, [], ◌∷◌, ◌++◌, Option, None, Some, Result, Ok, Err, refl, sym, subst, ◌∙◌, arith, map, ◌<◌, ◌≤◌}
use Rattle.std.specs.List.{filter}
use Rattle.nr_wire.specs.Segment.{Segment}
use Rattle.nr_xdr.specs.Fields.{word_at}
use Rattle.nr_reduce.specs.declared.mark.LinkParameters.{LinkParameters}
use Rattle.nr_reduce.specs.History.{AcceptedCall}
use Rattle.nr_link.specs.Frames.{Frame, is_hello}
use Rattle.nr_link.specs.ReceiveState.{ReadRequest, message_completed, read_request_of}
use Rattle.nr_reduce.specs.Events.RunEvent.{FrameReceived, CallSubmitted, QueueWritten, MemoryRevoked}
use Rattle.nr_reduce.specs.ClientState.{ClientState, OutstandingCall}
use Rattle.nr_reduce.specs.Client.{client_segment, client_state_after, with_segment, with_message, with_request, outstanding_of, with_hello, due_with_response, revoked_call, initial_client}
use Rattle.nr_laws.proofs.LinkInvariants.{IsUnused, AreDistinct, AreAtMost}
use Rattle.nr_laws.proofs.Totals.{apart_kept, apart_push}
use Rattle.nr_reduce.proofs.XidsFollow.{BothFollow, both_after, both_first}
use Rattle.nr_reduce.proofs.Placing.{sent_after, submit_rises, revoked_first, segment_next, segment_waiting}
use Rattle.nr_reduce.specs.SubmitAnswer.{first_xid_or, next_sent_xid}
use Rattle.nr_reduce.specs.Asked.{IsResent}

-- each goes by the number of its call's Send, and is below the one that is sent next
pub record OwnXids (opened : LinkParameters) (k : ClientState) : Type 0 where
  pub apart : AreDistinct (λ (o : OutstandingCall). o.xid) k.outstanding
  pub follow : BothFollow opened k
  pub below : AreAtMost (λ (o : OutstandingCall). o.xid + 1) (next_sent_xid k) k.outstanding

abbrev Distinct : List OutstandingCall → Type 0
Distinct os = AreDistinct (λ (o : OutstandingCall). o.xid) os

abbrev Below : ℕ → List OutstandingCall → Type 0
Below n os = AreAtMost (λ (o : OutstandingCall). o.xid + 1) n os

below_left : (n : ℕ) (p : OutstandingCall → Bool) (os : List OutstandingCall) → Below n os → Below n (filter p os)
below_left n p [] h = tt
below_left n p (o ∷ os) h = by (p o) (below_left n p os h.1)
  where
    by : (b : Bool) → Below n (filter p os) → Below n (cond b (o ∷ filter p os) (filter p os))
    by true rest = (h.0, rest)
    by false rest = rest

below_larger : (n m : ℕ) (os : List OutstandingCall) → n ≤ m → Below n os → Below m os
below_larger n m [] le h = tt
below_larger n m (o ∷ os) le h = ((let lt = h.0 in omega (arith, lt, le)), below_larger n m os le h.1)

below_push : (n : ℕ) (os : List OutstandingCall) (last : OutstandingCall) → Below n os → last.xid + 1 ≤ n → Below n (os ++ last ∷ [])
below_push n [] last h lt = (lt, tt)
below_push n (o ∷ os) last h lt = (h.0, below_push n os last h.1 lt)

-- whatever frame is received
pub segment_out : (k : ClientState) (f : Frame) (r : Result Segment ℕ) → ((with_segment k f r).outstanding ≡ k.outstanding) ⊎ ((p : OutstandingCall → Bool) × ((with_segment k f r).outstanding ≡ filter p k.outstanding))
segment_out k f (Err reason) = inl refl
segment_out k f (Ok segment) = by (message_completed k.received segment) (due_with_response k f segment) (read_request_of segment)
  where
    by : (m : Option (List ℕ)) (place : ℕ) (q : Option ReadRequest) → ((with_request (with_message k f.end m) place q).outstanding ≡ k.outstanding) ⊎ ((p : OutstandingCall → Bool) × ((with_request (with_message k f.end m) place q).outstanding ≡ filter p k.outstanding))
    by None place None = inl refl
    by None place (Some q) = inl refl
    by (Some m) place None = inr ((λ o. not (eqb o.xid (word_at 0 m))), refl)
    by (Some m) place (Some q) = inr ((λ o. not (eqb o.xid (word_at 0 m))), refl)

pub own_xids_came : (opened : LinkParameters) (k : ClientState) (f : Frame) → OwnXids opened k → OwnXids opened (client_state_after opened k (FrameReceived f))
unfolding client_state_after
own_xids_came opened k f h = record { apart = by (is_hello f); follow = both_after opened k (FrameReceived f) tt h.follow; below = below (is_hello f) }
  where
    next : next_sent_xid (with_segment k f (client_segment k f)) ≡ next_sent_xid k
    next = λ i. first_xid_or (segment_next k f (client_segment k f) i) (segment_waiting k f (client_segment k f) i)

    left : ((with_segment k f (client_segment k f)).outstanding ≡ k.outstanding) ⊎ ((p : OutstandingCall → Bool) × ((with_segment k f (client_segment k f)).outstanding ≡ filter p k.outstanding)) → Below (next_sent_xid k) (with_segment k f (client_segment k f)).outstanding
    left (inl same) = subst (λ (os : List OutstandingCall). Below (next_sent_xid k) os) (sym same) h.below
    left (inr some) = subst (λ (os : List OutstandingCall). Below (next_sent_xid k) os) (sym some.1) (below_left (next_sent_xid k) some.0 k.outstanding h.below)

    below : (b : Bool) → Below (next_sent_xid (cond b (with_hello opened k f) (with_segment k f (client_segment k f)))) (cond b (with_hello opened k f) (with_segment k f (client_segment k f))).outstanding
    below true = h.below
    below false = subst (λ (n : ℕ). Below n (with_segment k f (client_segment k f)).outstanding) (sym next) (left (segment_out k f (client_segment k f)))

    segment : ((with_segment k f (client_segment k f)).outstanding ≡ k.outstanding) ⊎ ((p : OutstandingCall → Bool) × ((with_segment k f (client_segment k f)).outstanding ≡ filter p k.outstanding)) → Distinct (with_segment k f (client_segment k f)).outstanding
    segment (inl same) = subst (λ (os : List OutstandingCall). Distinct os) (sym same) h.apart
    segment (inr left) = subst (λ (os : List OutstandingCall). Distinct os) (sym left.1) (apart_kept (λ (o : OutstandingCall). o.xid) left.0 k.outstanding h.apart)

    by : (b : Bool) → Distinct (cond b (with_hello opened k f) (with_segment k f (client_segment k f))).outstanding
    by true = h.apart
    by false = segment (segment_out k f (client_segment k f))

above : (n : ℕ) (os : List OutstandingCall) → AreAtMost (λ (o : OutstandingCall). o.xid + 1) n os → IsUnused (λ (o : OutstandingCall). o.xid) n os
above n [] h = tt
above n (o ∷ os) h = ((λ e. omega (arith, e, h.0)), above n os h.1)

-- a call is accepted that is the one to be sent next
pub own_xids_accepts : (opened : LinkParameters) (k : ClientState) (place : ℕ) (a : AcceptedCall) → a.xid ≡ next_sent_xid k → IsResent k.has_hello k.next_xid k.waiting a.call a.form → OwnXids opened k → OwnXids opened (client_state_after opened k (CallSubmitted place a))
unfolding client_state_after
own_xids_accepts opened k place a is again h =
    let rises : a.xid < sent_after a.xid k.next_xid k.waiting = submit_rises k.has_hello a.xid k.next_xid k.waiting a.call a.form is again in
    record {
      apart = apart_push (λ (o : OutstandingCall). o.xid) k.outstanding (outstanding_of k a) h.apart (subst (λ (n : ℕ). IsUnused (λ (o : OutstandingCall). o.xid) n k.outstanding) (sym is) (above (next_sent_xid k) k.outstanding h.below));
      follow = both_after opened k (CallSubmitted place a) is h.follow;
      below = below_push (sent_after a.xid k.next_xid k.waiting) k.outstanding (outstanding_of k a) (below_larger (next_sent_xid k) (sent_after a.xid k.next_xid k.waiting) k.outstanding (omega (arith, is, rises)) h.below) (omega (arith, rises));
    }

revoked_xid : (xid : ℕ) (o : OutstandingCall) → (revoked_call xid o).xid ≡ o.xid
revoked_xid xid o = by (eqb o.xid xid)
  where
    by : (b : Bool) → (cond b (record o { is_revoked = true }) o).xid ≡ o.xid
    by true = refl
    by false = refl

unused_revoked : (xid n : ℕ) (os : List OutstandingCall) → IsUnused (λ (o : OutstandingCall). o.xid) n os → IsUnused (λ (o : OutstandingCall). o.xid) n (map (revoked_call xid) os)
unused_revoked xid n [] h = tt
unused_revoked xid n (o ∷ os) h = ((λ e. h.0 (sym (revoked_xid xid o) ∙ e)), unused_revoked xid n os h.1)

apart_revoked : (xid : ℕ) (os : List OutstandingCall) → Distinct os → Distinct (map (revoked_call xid) os)
apart_revoked xid [] h = tt
apart_revoked xid (o ∷ os) h = (subst (λ (n : ℕ). IsUnused (λ (x : OutstandingCall). x.xid) n (map (revoked_call xid) os)) (sym (revoked_xid xid o)) (unused_revoked xid o.xid os h.0), apart_revoked xid os h.1)

below_revoked : (xid n : ℕ) (os : List OutstandingCall) → Below n os → Below n (map (revoked_call xid) os)
below_revoked xid n [] h = tt
below_revoked xid n (o ∷ os) h = ((let same = revoked_xid xid o in let lt = h.0 in omega (arith, same, lt)), below_revoked xid n os h.1)

pub own_xids_revokes : (opened : LinkParameters) (k : ClientState) (place xid : ℕ) → OwnXids opened k → OwnXids opened (client_state_after opened k (MemoryRevoked place xid))
unfolding client_state_after
own_xids_revokes opened k place xid h = record {
  apart = apart_revoked xid k.outstanding h.apart;
  follow = both_after opened k (MemoryRevoked place xid) tt h.follow;
  below = subst (λ (n : ℕ). Below n (map (revoked_call xid) k.outstanding)) (sym (revoked_first xid k.next_xid k.waiting)) (below_revoked xid (next_sent_xid k) k.outstanding h.below);
}

pub own_xids_writes : (taken : ℕ) (opened : LinkParameters) (k : ClientState) → OwnXids opened k → OwnXids opened (client_state_after opened k (QueueWritten taken))
unfolding client_state_after
own_xids_writes taken opened k h = record { apart = h.apart; follow = both_after opened k (QueueWritten taken) tt h.follow; below = h.below }

pub own_xids_begin : (opened : LinkParameters) → OwnXids opened (initial_client opened).state
own_xids_begin opened = record { apart = tt; follow = both_first opened; below = tt }
