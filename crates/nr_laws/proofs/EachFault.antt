-- What holds of each reason of the rules of a link holds of the reason of each fault of a segment.
use Rattle.std.proofs.Common.{ℕ, Bool, true, false, cond, not, ◌||◌, eqb, ltb, List, [], ◌∷◌, length, Option, None, Some}
use Rattle.nr_xdr.specs.Fields.{word_at}
use Rattle.nr_wire.specs.Segment.{Segment}
use Rattle.nr_wire.specs.Segment.Segment.{Tagged, Untagged}
use Rattle.nr_regions.specs.declared.denied.Denied.{Denied}
use Rattle.nr_link.specs.Reasons.{REASON_MSN, REASON_OFFSET, REASON_FORM, REASON_RESPONSE, REASON_REQUESTS, REASON_SHORT, REASON_LONG}
use Rattle.nr_link.specs.ReceiveState.{is_send, message_completed}
use Rattle.nr_link.specs.SegmentFaults.{Readiness, SegmentReason, reason_if, next_msn, next_offset, is_begun, no_buffer, missing_fault, is_malformed, is_unexpected, is_too_many, message_length_is, terminate_fault, first_fault, segment_reason}
use Rattle.nr_link.specs.SegmentFaults.SegmentReason.{Reason, NoBuffer, AccessDenied, PeerTerminated}

-- of a fault that has a reason
abbrev pub OfReason : (ℕ → Type 0) → Option (SegmentReason Denied) → Type 0
OfReason P None = Unit {0}
OfReason P (Some (Reason reason)) = P reason
OfReason P (Some (NoBuffer msn)) = Unit {0}
OfReason P (Some (AccessDenied why)) = Unit {0}
OfReason P (Some (PeerTerminated word)) = Unit {0}

abbrev OfReasons : (ℕ → Type 0) → List (Option (SegmentReason Denied)) → Type 0
OfReasons P [] = Unit {0}
OfReasons P (x ∷ xs) = OfReason P x × OfReasons P xs

pub record ReasonRule (P : ℕ → Type 0) : Type 0 where
  pub msn : P REASON_MSN
  pub offset : P REASON_OFFSET
  pub form : P REASON_FORM
  pub response : P REASON_RESPONSE
  pub requests : P REASON_REQUESTS
  pub long : P REASON_LONG
  pub short : P REASON_SHORT

first_rule : (P : ℕ → Type 0) (xs : List (Option (SegmentReason Denied))) → OfReasons P xs → OfReason P (first_fault xs)
first_rule P [] h = tt
first_rule P (None ∷ xs) h = first_rule P xs h.1
first_rule P (Some x ∷ xs) h = h.0

reason_rule : (P : ℕ → Type 0) (reason : ℕ) (b : Bool) → P reason → OfReason P (reason_if reason b)
reason_rule P reason true h = h
reason_rule P reason false h = tt

buffer_rule : (P : ℕ → Type 0) (r : Readiness Denied) (b : Bool) (msn : ℕ) → OfReason P (no_buffer r b msn)
buffer_rule P r true msn = by (is_begun r.received.begun || r.has_receive)
  where
    by : (b : Bool) → OfReason P (cond b None (Some (NoBuffer msn)))
    by true = tt
    by false = tt
buffer_rule P r false msn = tt

missing_rule : (P : ℕ → Type 0) (o : Option Denied) → OfReason P (missing_fault o)
missing_rule P None = tt
missing_rule P (Some why) = tt

terminate_rule : (P : ℕ → Type 0) (opcode : ℕ) (payload : List ℕ) → OfReason P (terminate_fault opcode payload)
terminate_rule P opcode payload = by (eqb opcode 7)
  where
    by : (b : Bool) → OfReason P (cond b (Some (PeerTerminated (word_at 0 payload))) None)
    by true = tt
    by false = tt

pub each_fault : (P : ℕ → Type 0) → ReasonRule P → (r : Readiness Denied) (s : Segment) → OfReason P (segment_reason r s)
unfolding segment_reason
each_fault P h r (Tagged last opcode stag to payload) =
    first_rule P (missing_fault r.missing ∷ reason_if REASON_RESPONSE (is_unexpected r opcode last stag to (length payload)) ∷ [])
    (missing_rule P r.missing, (reason_rule P REASON_RESPONSE (is_unexpected r opcode last stag to (length payload)) h.response, tt))
each_fault P h r (Untagged last opcode w queue msn offset payload) =
    let message : Option (List ℕ) = message_completed r.received (Untagged last opcode w queue msn offset payload) in
    first_rule P
    (reason_if REASON_MSN (not (eqb msn (next_msn r.received queue)))
    ∷ reason_if REASON_OFFSET (not (eqb offset (next_offset r.received queue)))
    ∷ no_buffer r (is_send opcode) msn
    ∷ reason_if REASON_FORM (is_malformed opcode last payload)
    ∷ missing_fault r.missing
    ∷ reason_if REASON_REQUESTS (is_too_many r opcode)
    ∷ reason_if REASON_LONG (message_length_is (ltb r.message_max) message)
    ∷ reason_if REASON_SHORT (message_length_is (λ n. ltb n 16) message)
    ∷ terminate_fault opcode payload
    ∷ []) (
      reason_rule P REASON_MSN (not (eqb msn (next_msn r.received queue))) h.msn,
      (
        reason_rule P REASON_OFFSET (not (eqb offset (next_offset r.received queue))) h.offset,
        (
          buffer_rule P r (is_send opcode) msn,
          (
            reason_rule P REASON_FORM (is_malformed opcode last payload) h.form,
            (
              missing_rule P r.missing,
              (
                reason_rule P REASON_REQUESTS (is_too_many r opcode) h.requests,
                (
                  reason_rule P REASON_LONG (message_length_is (ltb r.message_max) message) h.long,
                  (reason_rule P REASON_SHORT (message_length_is (λ n. ltb n 16) message) h.short, (terminate_rule P opcode payload, tt)),
                ),
              ),
            ),
          ),
        ),
      ),
    )
