-- A server that has its client's own hello is not rejected later: the reasons of its later frames are others than those of a hello.
use Rattle.std.proofs.Common.{◌≡◌, ℕ, ◌≤◌, Bool, true, false, cond, eqb, List, [], ◌∷◌, Option, None, Some, Result, Ok, Err, refl, sym, ap, subst, ◌∙◌, arith}
use Rattle.nr_rpc.specs.declared.head.CallHead.{CallHead}
use Rattle.nr_rpc.specs.Reading.{call_of, head_xid}
use Rattle.nr_regions.specs.declared.denied.Denied.{Denied}
use Rattle.nr_regions.specs.RegisteredMemory.{Access}
use Rattle.nr_wire.specs.declared.hello.Side.TheVariants.{Initiator}
use Rattle.nr_wire.specs.Hello.{hello_of}
use Rattle.nr_wire.specs.Segment.{Segment}
use Rattle.nr_link.specs.declared.end.End.{End as Stop}
use Rattle.nr_link.specs.declared.end.End.TheVariants as ends
use Rattle.nr_link.specs.Frames.{Frame, is_hello}
use Rattle.nr_link.specs.SegmentFaults.{Readiness, SegmentReason, segment_reason}
use Rattle.nr_link.specs.SegmentFaults.SegmentReason.{Reason, NoBuffer, AccessDenied, PeerTerminated}
use Rattle.nr_link.specs.Ending.{access_of, denied_at, frame_segment, frame_end, frame_end_by, end_of_fault, hello_end, missing_access}
use Rattle.nr_reduce.specs.declared.mark.LinkParameters.{LinkParameters}
use Rattle.nr_reduce.specs.OfferedRegions.{region_grants}
use Rattle.nr_reduce.specs.Events.RunEvent.{FrameReceived, ServerTold}
use Rattle.nr_reduce.specs.declared.mark.Told.{Told}
use Rattle.nr_reduce.specs.declared.mark.Told.TheVariants.{Granted, Old}
use Rattle.nr_reduce.specs.ServerState.{ServerState, PendingCall, ReadyCall}
use Rattle.nr_reduce.specs.ServerMessages.{Verdict, CallVerdict, verdict, by_head, by_payload, pending_payload}
use Rattle.nr_reduce.specs.ServerMessages.Verdict.{EndsLink, OtherVersion, BadChunks, MakesPending}
use Rattle.nr_reduce.specs.ServerMessages.CallVerdict.{Refuses, IsReady}
use Rattle.nr_reduce.specs.ServerFrames.{FrameEffect, with_verdict, frame_effect}
use Rattle.nr_reduce.specs.Server.{server_end, or_refusal, refusal_end, server_readiness, old_end, told_end}
use Rattle.nr_link.specs.Reasons.{REASON_OLD}
use Rattle.nr_laws.proofs.Brought.{IsHelloFrame}
use Rattle.nr_laws.proofs.EachEffect.{each_verdict, each_effect}
use Rattle.nr_laws.proofs.EachFault.{OfReason, each_fault}

-- ---- Faults of a segment

abbrev Big : Option (SegmentReason Denied) → Type 0
Big o = OfReason (λ reason. 5 ≤ reason) o

fault_big : (r : Readiness Denied) (s : Segment) → Big (segment_reason r s)
fault_big r s =
    each_fault (λ reason. 5 ≤ reason) (record { msn = omega arith; offset = omega arith; form = omega arith; response = omega arith; requests = omega arith; long = omega arith; short = omega arith }) r s

-- ---- Refusals

abbrev BigReason : Option ℕ → Type 0
BigReason None = Unit {0}
BigReason (Some reason) = 5 ≤ reason

abbrev BigVerdict : Verdict → Type 0
BigVerdict (EndsLink reason) = 5 ≤ reason
BigVerdict OtherVersion = Unit {0}
BigVerdict BadChunks = Unit {0}
BigVerdict (MakesPending c) = Unit {0}

abbrev BigCall : CallVerdict → Type 0
BigCall (Refuses reason) = 5 ≤ reason
BigCall (IsReady r) = Unit {0}

verdict_big : (k : ServerState) (message : List ℕ) → BigVerdict (verdict k message)
verdict_big k message = each_verdict BigVerdict (record { kind = omega arith; again = omega arith; stags = omega arith; version = tt; chunks = tt; pending = λ c. tt }) k message

head_big : (c : PendingCall) (payload : List ℕ) (r : Result CallHead ℕ) → BigCall (by_head c payload r)
head_big c payload (Err at) = omega arith
head_big c payload (Ok head) = by (eqb (head_xid head) c.xid)
  where
    by : (b : Bool) → BigCall (cond b (IsReady (record { number = c.number; xid = c.xid; payload = payload })) (Refuses 19))
    by true = tt
    by false = omega arith

payload_big : (c : PendingCall) (o : Option (List ℕ)) → BigCall (by_payload c o)
payload_big c None = omega arith
payload_big c (Some payload) = head_big c payload (call_of payload)

with_big : (v : CallVerdict) (s : FrameEffect) → BigCall v → BigReason s.refusal → BigReason (with_verdict v s).refusal
with_big (Refuses reason) s h g = h
with_big (IsReady r) s h g = g

effect_big : (k : ServerState) (f : Frame) → BigReason (frame_effect k f).refusal
effect_big k f =
    each_effect k (λ m. Unit {0}) (λ s. BigReason s.refusal)
    (record { judged = judged; ends = λ message reason good is. subst BigVerdict is (verdict_big k message); version = λ message good. tt; chunks = λ message good. tt; pending = λ place message c good is. tt })
    (record { unchanged = tt; judged = judged; read = λ r reads is. tt; refused = λ r reads c is found. tt }) f (λ s m is e. tt)
  where
    judged : (t : ServerState) (place : ℕ) (c : PendingCall) (s : FrameEffect) → BigReason s.refusal → BigReason (with_verdict (by_payload c (pending_payload t place c)) s).refusal
    judged t place c s h = with_big (by_payload c (pending_payload t place c)) s (payload_big c (pending_payload t place c)) h

-- ---- Ends

abbrev pub BigEnd : Option Stop → Type 0
BigEnd None = Unit {0}
BigEnd (Some (ends.Bad at reason)) = 5 ≤ reason
BigEnd (Some (ends.Denied stag offset why)) = Unit {0}
BigEnd (Some (ends.NoBuffer msn)) = Unit {0}
BigEnd (Some (ends.Terminated reason)) = Unit {0}
BigEnd (Some ends.Memory) = Unit {0}

fault_end : (f : Frame) (s : Segment) (o : Option (SegmentReason Denied)) → Big o → BigEnd (end_of_fault f s o)
fault_end f s None h = tt
fault_end f s (Some (Reason reason)) h = h
fault_end f s (Some (NoBuffer msn)) h = tt
fault_end f s (Some (AccessDenied why)) h = by (access_of s)
  where
    by : (o : Option Access) → BigEnd (Some (denied_at o why))
    by None = tt
    by (Some access) = tt
fault_end f s (Some (PeerTerminated word)) h = tt

refusal_big : (f : Frame) (o : Option ℕ) → BigReason o → BigEnd (refusal_end f o)
refusal_big f None h = tt
refusal_big f (Some reason) h = h

pub segment_ends : (opened : LinkParameters) (k : ServerState) (f : Frame) (s : Segment) → is_hello f ≡ false → frame_segment f ≡ Ok s → BigEnd (server_end opened k (FrameReceived f))
unfolding server_end frame_end
segment_ends opened k f s behind is =
    let grants = region_grants f.end k.regions in
    let whole : server_end opened k (FrameReceived f) ≡ or_refusal k f (end_of_fault f s (segment_reason (server_readiness opened k (missing_access grants f s)) s)) =
    (λ i. cond (behind i) (hello_end (hello_of Initiator f.bytes)) (or_refusal k f (frame_end_by (server_readiness opened k) grants f (is i)))) in
    subst (λ (o : Option Stop). BigEnd o) (sym whole) (by (end_of_fault f s (segment_reason (server_readiness opened k (missing_access grants f s)) s)) (fault_end f s _ (fault_big (server_readiness opened k (missing_access grants f s)) s)))
  where
    by : (o : Option Stop) → BigEnd o → BigEnd (or_refusal k f o)
    by None h = refusal_big f (frame_effect k f).refusal (effect_big k f)
    by (Some end) h = h

-- a client's hello ends no server
pub hello_goes : (opened : LinkParameters) (k : ServerState) (f : Frame) → is_hello f ≡ true → IsHelloFrame Initiator f.bytes → server_end opened k (FrameReceived f) ≡ None
unfolding server_end
hello_goes opened k f first read =
    ap (λ (b : Bool). cond b (hello_end (hello_of Initiator f.bytes)) (or_refusal k f (frame_end (server_readiness opened k) (region_grants f.end k.regions) f))) first
    ∙ ap hello_end read.says

-- ---- A call that is old

pub told_big : (k : ServerState) (what : Told) → BigEnd (told_end k what)
told_big k (Granted credits) = tt
told_big k (Old xid at) = by k.ready
  where
    by : (ready : List ReadyCall) → BigEnd (old_end at ready)
    by [] = tt
    by (r ∷ ready) = omega arith

-- it ends a server only if a call is ready
pub record EndsAsOld (k : ServerState) (end : Stop) : Type 0 where
  pub call : ReadyCall
  pub others : List ReadyCall
  pub is_next : k.ready ≡ call ∷ others
  pub at : ℕ
  pub is : end ≡ ends.Bad at REASON_OLD

pub ends_as_old : (k : ServerState) (what : Told) (end : Stop) → told_end k what ≡ Some end → EndsAsOld k end
ends_as_old k (Granted credits) end e = absurd cc
ends_as_old k (Old xid at) end e = by k.ready refl e
  where
    by : (ready : List ReadyCall) → k.ready ≡ ready → old_end at ready ≡ Some end → EndsAsOld k end
    by [] own e = absurd cc
    by (r ∷ ready) own e = record { call = r; others = ready; is_next = own; at = at; is = (let same : ends.Bad at REASON_OLD ≡ end = cc in sym same) }

pub stopped_as_old : (opened : LinkParameters) (k : ServerState) (what : Told) (end : Stop) → server_end opened k (ServerTold what) ≡ Some end → EndsAsOld k end
unfolding server_end
stopped_as_old opened k what end e = ends_as_old k what end e
