-- When a server ends for a call: at the frame that completed the call, its payload is refused.
use Rattle.std.proofs.Common.{◌≡◌, ℕ, ◌<◌, Bool, true, false, cond, List, [], ◌∷◌, ◌++◌, Option, None, Some, Result, Ok, refl, sym, ap, subst, ◌∙◌, arith, inl, inr, ◌⊎◌}
use Rattle.nr_regions.specs.declared.denied.Denied.{Denied}
use Rattle.nr_wire.specs.Segment.{Segment}
use Rattle.nr_link.specs.declared.end.End.TheVariants as ends
use Rattle.nr_link.specs.Frames.{Frame}
use Rattle.nr_link.specs.ReceiveState.{message_completed}
use Rattle.nr_link.specs.SegmentFaults.{Readiness, segment_reason}
use Rattle.nr_link.specs.Ending.{frame_segment, frame_end, frame_end_by, missing_access}
use Rattle.nr_regions.specs.Access.{Grant}
use Rattle.nr_reduce.specs.ServerState.{ServerState, PendingCall, PendingRead}
use Rattle.nr_reduce.specs.ServerReads.{is_read, reads_of, regions_of}
use Rattle.nr_reduce.specs.ServerMessages.{Verdict, CallVerdict, verdict, by_payload, pending_payload}
use Rattle.nr_reduce.specs.ServerMessages.Verdict.{EndsLink, OtherVersion, BadChunks, MakesPending}
use Rattle.nr_reduce.specs.ServerMessages.CallVerdict.{Refuses, IsReady}
use Rattle.nr_reduce.specs.ServerFrames.{FrameEffect, no_effect, with_verdict, ready_if_whole, message_effect, with_refused_call, call_of_number, with_access, frame_effect}
use Rattle.nr_reduce.specs.RunLaws.{ends_response}
use Rattle.nr_laws.proofs.EndReasons.{IsCallReason}
use Rattle.nr_laws.proofs.JudgedMessages.{by_fault_lem}
use Rattle.nr_laws.proofs.OtherReasons.{apart, fault_other}
use Rattle.nr_laws.proofs.EachEffect.{each_verdict, EffectCase, effect_case, read_over}
use Rattle.nr_laws.proofs.EachEffect.EffectCase.{Unchanged, OfMessage, OfRead, OfRefusal, OfCall}
use Rattle.nr_laws.proofs.Basics.{some_is_lem}

-- ---- Reasons that aren't those of a call

abbrev IsOther : ℕ → Type 0
IsOther reason = IsCallReason reason → ⊥

other : (reason : ℕ) → (reason < 18) ⊎ ((reason ≡ 20) ⊎ (21 < reason)) → IsOther reason
other reason h own = apart reason h (inr own)

-- the rules of a link end no side for such a reason
pub frame_other : (ready : Option Denied → Readiness Denied) (grants : List Grant) (f : Frame) (s : Segment) (at reason : ℕ) → frame_segment f ≡ Ok s → IsCallReason reason → frame_end ready grants f ≡ Some (ends.Bad at reason) → ⊥
unfolding frame_end
frame_other ready grants f s at reason is own e =
    by_fault_lem f s (segment_reason (ready (missing_access grants f s)) s) (fault_other (ready (missing_access grants f s)) s) at reason (inl (inr own))
    (ap (λ (r : Result Segment ℕ). frame_end_by ready grants f r) (sym is) ∙ e)

-- ---- The verdict on a message gives no such reason

abbrev OtherVerdict : Verdict → Type 0
OtherVerdict (EndsLink reason) = IsOther reason
OtherVerdict OtherVersion = Unit {0}
OtherVerdict BadChunks = Unit {0}
OtherVerdict (MakesPending c) = Unit {0}

verdict_other : (k : ServerState) (message : List ℕ) → OtherVerdict (verdict k message)
verdict_other k message =
    each_verdict OtherVerdict (record { kind = other 17 (inl (omega arith)); again = other 20 (inr (inl refl)); stags = other 30 (inr (inr (omega arith))); version = tt; chunks = tt; pending = λ c. tt }) k message

-- ---- Why the effect of a frame refuses for such a reason

pub data RefusedBy (k : ServerState) (f : Frame) (segment : Segment) (reason : ℕ) : Type 0 where
  AtMessage : (message : List ℕ) (c : PendingCall) → message_completed k.received segment ≡ Some message → verdict k message ≡ MakesPending c → is_read (k.reads ++ reads_of (k.regions ++ regions_of k f.end c) c) c.number ≡ true
      → by_payload c (pending_payload k f.end c) ≡ Refuses reason → RefusedBy k f segment reason
  AtRead : (q : PendingRead) (rest : List PendingRead) (c : PendingCall) → ends_response segment ≡ true → k.reads ≡ q ∷ rest → call_of_number k q.number ≡ Some c → is_read rest c.number ≡ true
      → by_payload c (pending_payload (with_access k f segment) f.end c) ≡ Refuses reason → RefusedBy k f segment reason

none_of_lem : {W : Type 0} (reason : ℕ) (o : Option ℕ) → o ≡ None → o ≡ Some reason → W
none_of_lem reason o none e = absurd (let t = sym none ∙ e in cc)

record WholeRefused (k : ServerState) (place : ℕ) (c : PendingCall) (reads : List PendingRead) (reason : ℕ) : Type 0 where
  read : is_read reads c.number ≡ true
  refuses : by_payload c (pending_payload k place c) ≡ Refuses reason

whole_refused : (k : ServerState) (place : ℕ) (c : PendingCall) (s : FrameEffect) (reason : ℕ) → s.refusal ≡ None → (ready_if_whole k place c s).refusal ≡ Some reason → WholeRefused k place c s.reads reason
whole_refused k place c s reason none e = by (is_read s.reads c.number) refl e
  where
    by_verdict : (v : CallVerdict) → by_payload c (pending_payload k place c) ≡ v → (with_verdict v s).refusal ≡ Some reason → by_payload c (pending_payload k place c) ≡ Refuses reason
    by_verdict (Refuses other) is e = is ∙ ap (λ (n : ℕ). Refuses n) (some_is_lem other reason e)
    by_verdict (IsReady r) is e = none_of_lem reason s.refusal none e

    by : (b : Bool) → is_read s.reads c.number ≡ b → (cond b (with_verdict (by_payload c (pending_payload k place c)) s) s).refusal ≡ Some reason → WholeRefused k place c s.reads reason
    by true is e = record { read = is; refuses = by_verdict (by_payload c (pending_payload k place c)) refl e }
    by false is e = none_of_lem reason s.refusal none e

message_refused : (k : ServerState) (f : Frame) (segment : Segment) (message : List ℕ) (reason : ℕ) → IsCallReason reason → message_completed k.received segment ≡ Some message → (v : Verdict) → verdict k message ≡ v
    → (message_effect k f.end message v).refusal ≡ Some reason → RefusedBy k f segment reason
message_refused k f segment message reason own whole (EndsLink other) is e =
    absurd (subst OtherVerdict is (verdict_other k message) (subst IsCallReason (sym (some_is_lem other reason e)) own))
message_refused k f segment message reason own whole OtherVersion is e = none_of_lem reason None refl e
message_refused k f segment message reason own whole BadChunks is e = none_of_lem reason None refl e
message_refused k f segment message reason own whole (MakesPending c) is e =
    let w = whole_refused k f.end c (record (no_effect k) { calls = k.calls ++ c ∷ []; reads = k.reads ++ reads_of (k.regions ++ regions_of k f.end c) c; regions = k.regions ++ regions_of k f.end c }) reason refl e in
    AtMessage message c whole is w.read w.refuses

pub refused_by : (k : ServerState) (f : Frame) (segment : Segment) (reason : ℕ) → IsCallReason reason → frame_segment f ≡ Ok segment → (frame_effect k f).refusal ≡ Some reason → RefusedBy k f segment reason
refused_by k f segment reason own is e = by (effect_case k f segment is)
  where
    refuses : (s : FrameEffect) → frame_effect k f ≡ s → s.refusal ≡ Some reason
    refuses s same = ap (λ (x : FrameEffect). x.refusal) (sym same) ∙ e

    by : EffectCase k f segment (frame_effect k f) → RefusedBy k f segment reason
    by (Unchanged same) = none_of_lem reason None refl (refuses (no_effect k) same)
    by (OfMessage message whole same) = message_refused k f segment message reason own whole (verdict k message) refl (refuses (message_effect k f.end message (verdict k message)) same)
    by (OfRead q reads last first same) = none_of_lem reason None refl (refuses (read_over k reads) same)
    by (OfRefusal q reads c last first found test same) = none_of_lem reason None refl (refuses (with_refused_call k c (read_over k reads)) same)
    by (OfCall q reads c last first found same) =
        let t = with_access k f segment in
        let w = whole_refused t f.end c (read_over k reads) reason refl (refuses (ready_if_whole t f.end c (read_over k reads)) same) in
        AtRead q reads c last first found w.read w.refuses
