-- The reasons of the rules of the link are others than those for which a client ends by what it makes of a reply.
use Rattle.std.proofs.Common.{◌≡◌, ◌≢◌, ℕ, ◌<◌, Option, arith, ◌⊎◌, inl, inr}
use Rattle.nr_wire.specs.Segment.{Segment}
use Rattle.nr_regions.specs.declared.denied.Denied.{Denied}
use Rattle.nr_link.specs.Reasons.{REASON_MSN, REASON_OFFSET, REASON_FORM, REASON_RESPONSE, REASON_REQUESTS, REASON_SHORT, REASON_LONG, REASON_INVALIDATED}
use Rattle.nr_link.specs.SegmentFaults.{Readiness, SegmentReason, segment_reason}
use Rattle.nr_laws.proofs.EndReasons.{IsMessageReason, IsVerdictReason}
use Rattle.nr_laws.proofs.EachFault.{OfReason, each_fault}

-- a reason for which no message ends a client
abbrev Apart : ℕ → Type 0
Apart reason = IsVerdictReason reason → ⊥

pub apart : (reason : ℕ) → (reason < 18) ⊎ ((reason ≡ 20) ⊎ (21 < reason)) → IsMessageReason reason → ⊥
apart reason (inl lt) (inl e) = omega (arith, lt, e)
apart reason (inl lt) (inr (inl e)) = omega (arith, lt, e)
apart reason (inl lt) (inr (inr e)) = omega (arith, lt, e)
apart reason (inr (inl same)) (inl e) = omega (arith, same, e)
apart reason (inr (inl same)) (inr (inl e)) = omega (arith, same, e)
apart reason (inr (inl same)) (inr (inr e)) = omega (arith, same, e)
apart reason (inr (inr lt)) (inl e) = omega (arith, lt, e)
apart reason (inr (inr lt)) (inr (inl e)) = omega (arith, lt, e)
apart reason (inr (inr lt)) (inr (inr e)) = omega (arith, lt, e)

pub never_judged : (reason : ℕ) → (reason < 18) ⊎ ((reason ≡ 20) ⊎ (21 < reason)) → reason ≢ REASON_INVALIDATED → IsVerdictReason reason → ⊥
never_judged reason other unnamed (inl own) = apart reason other own
never_judged reason other unnamed (inr own) = unnamed own

-- a fault of a segment that has none of these reasons
abbrev pub OtherFault : Option (SegmentReason Denied) → Type 0
OtherFault o = OfReason Apart o

pub fault_other : (r : Readiness Denied) (s : Segment) → OtherFault (segment_reason r s)
fault_other r s =
    each_fault Apart (record {
      msn = never_judged REASON_MSN (inl (omega arith)) (λ e. omega (arith, e));
      offset = never_judged REASON_OFFSET (inl (omega arith)) (λ e. omega (arith, e));
      form = never_judged REASON_FORM (inl (omega arith)) (λ e. omega (arith, e));
      response = never_judged REASON_RESPONSE (inl (omega arith)) (λ e. omega (arith, e));
      requests = never_judged REASON_REQUESTS (inl (omega arith)) (λ e. omega (arith, e));
      long = never_judged REASON_LONG (inr (inr (omega arith))) (λ e. omega (arith, e));
      short = never_judged REASON_SHORT (inl (omega arith)) (λ e. omega (arith, e));
    }) r s
