-- A call becomes ready with the payload that its lists, its stream and the server's memory convey.
use Rattle.std.proofs.Common.{◌≡◌, ℕ, Bool, true, false, cond, not, ◌&&◌, eqb, List, [], ◌∷◌, Option, Some, None, Result, Ok, Err, refl, sym, ap, subst, append-nil, inl, inr}
use Rattle.std.specs.Prelude.{find}
use Rattle.nr_wire.specs.Segment.{Segment}
use Rattle.nr_wire.specs.Segment.Segment.{Tagged, Untagged}
use Rattle.nr_regions.specs.Access.{TaggedSegment}
use Rattle.nr_rpc.specs.declared.head.CallHead.{CallHead}
use Rattle.nr_rpc.specs.Reading.{call_of, head_xid}
use Rattle.nr_link.specs.Frames.{Frame}
use Rattle.nr_link.specs.ReceiveState.{message_completed}
use Rattle.nr_link.specs.Ending.{frame_segment}
use Rattle.nr_reduce.specs.Chunks.{is_read_chunk_of_item}
use Rattle.nr_reduce.specs.ServerState.{ServerState, ReadyCall, PendingCall, PendingRead}
use Rattle.nr_reduce.specs.ServerReads.{is_read}
use Rattle.nr_reduce.specs.ServerMessages.{Verdict, verdict, by_payload, by_head, pending_payload, chunk_bytes}
use Rattle.nr_reduce.specs.ServerMessages.Verdict.{EndsLink, OtherVersion, BadChunks, MakesPending}
use Rattle.nr_reduce.specs.ServerMessages.CallVerdict.{Refuses, IsReady}
use Rattle.nr_reduce.specs.ServerFrames.{FrameEffect, no_effect, with_verdict, ready_if_whole, message_effect, with_refused_call, is_stream_read, read_effect, call_of_number, response_effect, by_message, with_access, effect_by, effect_in, frame_effect}
use Rattle.nr_reduce.specs.RunLaws.{IsCallOf, IsConveyed}

-- what is ready was conveyed by a call of this kind
pub record Conveys (k : ServerState) (place : ℕ) (Own : PendingCall → Type 0) (r : ReadyCall) : Type 0 where
  pub call : PendingCall
  pub own : Own call
  pub payload : pending_payload k place call ≡ Some r.payload
  pub number : r.number ≡ call.number
  pub xid : r.xid ≡ call.xid

abbrev pub AllConveyed : ServerState → ℕ → (PendingCall → Type 0) → List ReadyCall → Type 0
AllConveyed k place Own [] = Unit {0}
AllConveyed k place Own (r ∷ ready) = Conveys k place Own r × AllConveyed k place Own ready

conveyed_if : (k : ServerState) (place : ℕ) (Own : PendingCall → Type 0) (b : Bool) (s t : FrameEffect) → AllConveyed k place Own s.ready → AllConveyed k place Own t.ready → AllConveyed k place Own (cond b s t).ready
conveyed_if k place Own true s t h g = h
conveyed_if k place Own false s t h g = g

conveyed_head : (k : ServerState) (place : ℕ) (Own : PendingCall → Type 0) (c : PendingCall) (payload : List ℕ) (h : Result CallHead ℕ) (s : FrameEffect) → Own c → pending_payload k place c ≡ Some payload → s.ready ≡ []
    → AllConveyed k place Own (with_verdict (by_head c payload h) s).ready
conveyed_head k place Own c payload (Err at) s own is none = subst (λ (xs : List ReadyCall). AllConveyed k place Own xs) (sym none) tt
conveyed_head k place Own c payload (Ok head) s own is none = by (eqb (head_xid head) c.xid)
  where
    by : (b : Bool) → AllConveyed k place Own (with_verdict (cond b (IsReady (record { number = c.number; xid = c.xid; payload = payload })) (Refuses 19)) s).ready
    by true = (record { call = c; own = own; payload = is; number = refl; xid = refl }, tt)
    by false = subst (λ (xs : List ReadyCall). AllConveyed k place Own xs) (sym none) tt

conveyed_payload : (k : ServerState) (place : ℕ) (Own : PendingCall → Type 0) (c : PendingCall) (p : Option (List ℕ)) (s : FrameEffect) → Own c → pending_payload k place c ≡ p → s.ready ≡ []
    → AllConveyed k place Own (with_verdict (by_payload c p) s).ready
conveyed_payload k place Own c None s own is none = subst (λ (xs : List ReadyCall). AllConveyed k place Own xs) (sym none) tt
conveyed_payload k place Own c (Some payload) s own is none = conveyed_head k place Own c payload (call_of payload) s own is none

conveyed_whole : (k : ServerState) (place : ℕ) (Own : PendingCall → Type 0) (c : PendingCall) (s : FrameEffect) → Own c → s.ready ≡ [] → AllConveyed k place Own (ready_if_whole k place c s).ready
conveyed_whole k place Own c s own none =
    conveyed_if k place Own (is_read s.reads c.number) (with_verdict (by_payload c (pending_payload k place c)) s) s
    (conveyed_payload k place Own c (pending_payload k place c) s own refl none) (subst (λ (xs : List ReadyCall). AllConveyed k place Own xs) (sym none) tt)

conveyed_message : (k : ServerState) (f : Frame) (segment : Segment) (message : List ℕ) (v : Verdict) → message_completed k.received segment ≡ Some message → verdict k message ≡ v
    → AllConveyed k f.end (IsCallOf k segment) (message_effect k f.end message v).ready
conveyed_message k f segment message (EndsLink reason) whole is = tt
conveyed_message k f segment message OtherVersion whole is = tt
conveyed_message k f segment message BadChunks whole is = tt
conveyed_message k f segment message (MakesPending c) whole is = conveyed_whole k f.end (IsCallOf k segment) c _ (inr (message, (whole, is))) refl

conveyed_read : (k t : ServerState) (f : Frame) (segment : Segment) (r : PendingRead) (o : Option PendingCall) (s : FrameEffect) → call_of_number k r.number ≡ o → s.ready ≡ []
    → AllConveyed t f.end (IsCallOf k segment) (read_effect t f.end r o s).ready
conveyed_read k t f segment r None s is none = subst (λ (xs : List ReadyCall). AllConveyed t f.end (IsCallOf k segment) xs) (sym none) tt
conveyed_read k t f segment r (Some c) s is none =
    conveyed_if t f.end (IsCallOf k segment) (is_stream_read c r s.reads && not (is_read_chunk_of_item (chunk_bytes t f.end c 0) c.lists.read)) (with_refused_call t c s) (ready_if_whole t f.end c s)
    (subst (λ (xs : List ReadyCall). AllConveyed t f.end (IsCallOf k segment) xs) (sym none) tt) (conveyed_whole t f.end (IsCallOf k segment) c s (inl (r.number, is)) none)

conveyed_response : (k t : ServerState) (f : Frame) (segment : Segment) (reads : List PendingRead) → t.calls ≡ k.calls → AllConveyed t f.end (IsCallOf k segment) (response_effect t f.end reads).ready
conveyed_response k t f segment [] same = tt
conveyed_response k t f segment (r ∷ reads) same =
    conveyed_read k t f segment r (call_of_number t r.number) _ (ap (λ (cs : List PendingCall). find (λ (c : PendingCall). eqb c.number r.number) cs) (sym same)) refl

pub conveyed_by : (k : ServerState) (f : Frame) (segment : Segment) → AllConveyed (with_access k f segment) f.end (IsCallOf k segment) (effect_by k f segment).ready
conveyed_by k f (Tagged last opcode stag to payload) =
    let segment : Segment = Tagged last opcode stag to payload in
    let t : ServerState = with_access k f segment in
    conveyed_if t f.end (IsCallOf k segment) (eqb opcode 2 && last) (response_effect t f.end k.reads) (no_effect t) (conveyed_response k t f segment k.reads refl) tt
conveyed_by k f (Untagged last opcode w queue msn offset payload) = by (message_completed k.received segment) refl
  where
    segment : Segment
    segment = Untagged last opcode w queue msn offset payload

    plain : (ready : List ReadyCall) → AllConveyed k f.end (IsCallOf k segment) ready → AllConveyed (with_access k f segment) f.end (IsCallOf k segment) ready
    plain ready h = subst (λ (xs : List TaggedSegment). AllConveyed (record k { accesses_received = xs }) f.end (IsCallOf k segment) ready) (sym (append-nil k.accesses_received)) h

    by : (o : Option (List ℕ)) → message_completed k.received segment ≡ o → AllConveyed (with_access k f segment) f.end (IsCallOf k segment) (by_message k f.end o).ready
    by None is = tt
    by (Some message) is = plain (message_effect k f.end message (verdict k message)).ready (conveyed_message k f segment message (verdict k message) is refl)

first_one : (k : ServerState) (place : ℕ) (Own : PendingCall → Type 0) (ready : List ReadyCall) (r : ReadyCall) → ready ≡ r ∷ [] → AllConveyed k place Own ready → Conveys k place Own r
first_one k place Own ready r e h = (subst (λ (xs : List ReadyCall). AllConveyed k place Own xs) e h).0

pub ready_conveyed : (k : ServerState) (f : Frame) (segment : Segment) (r : ReadyCall) → frame_segment f ≡ Ok segment → (frame_effect k f).ready ≡ r ∷ [] → IsConveyed k f segment r
unfolding frame_effect
ready_conveyed k f segment r is made =
    let all = subst (λ (p : Result Segment ℕ). AllConveyed (with_access k f segment) f.end (IsCallOf k segment) (effect_in k f p).ready) (sym is) (conveyed_by k f segment) in
    let one = first_one (with_access k f segment) f.end (IsCallOf k segment) (frame_effect k f).ready r made all in
    record { call = one.call; own = one.own; payload = one.payload; number = one.number; xid = one.xid }
