-- Why a call is ready: its message, or the last read for it, came; its payload is what was conveyed then.
use Rattle.std.proofs.Common.{◌≡◌, ℕ, Bool, true, false, cond, eqb, List, [], ◌∷◌, ◌++◌, Option, None, Some, Result, Ok, Err, refl, sym, ap, subst, ◌∙◌, append_assoc, append-nil}
use Rattle.nr_wire.specs.declared.hello.Side.TheVariants.{Responder}
use Rattle.nr_wire.specs.Segment.{Segment}
use Rattle.nr_rpc.specs.declared.head.CallHead.{CallHead}
use Rattle.nr_rpc.specs.Reading.{call_of, head_xid}
use Rattle.nr_link.specs.declared.end.End.{End as Stop}
use Rattle.nr_link.specs.Frames.{Frame, is_hello}
use Rattle.nr_link.specs.ReceiveState.{message_completed}
use Rattle.nr_link.specs.Ending.{frame_segment}
use Rattle.nr_reduce.specs.declared.mark.Mark.{Mark}
use Rattle.nr_reduce.specs.declared.mark.LinkParameters.{LinkParameters}
use Rattle.nr_reduce.specs.Events.{RunEvent, events}
use Rattle.nr_reduce.specs.Events.RunEvent.{FrameReceived, CallSubmitted, MemoryRevoked, CallExecuted, QueueWritten, ServerTold}
use Rattle.nr_reduce.specs.EndRules.{EndState, next_end_state_by, next_end_state_in, end_state_after}
use Rattle.nr_reduce.specs.ServerState.{ServerState, PendingCall, PendingRead, ReadyCall}
use Rattle.nr_reduce.specs.ServerReads.{is_read, reads_of, regions_of}
use Rattle.nr_reduce.specs.ServerMessages.{Verdict, CallVerdict, verdict, pending_payload, by_payload, by_head}
use Rattle.nr_reduce.specs.ServerMessages.Verdict.{EndsLink, OtherVersion, BadChunks, MakesPending}
use Rattle.nr_reduce.specs.ServerMessages.CallVerdict.{Refuses, IsReady}
use Rattle.nr_reduce.specs.ServerFrames.{FrameEffect, no_effect, with_verdict, ready_if_whole, message_effect, with_refused_call, call_of_number, with_access, frame_effect}
use Rattle.nr_reduce.specs.Server.{server_rules, server_end, server_state_after, initial_server, with_effect, with_own_hello}
use Rattle.nr_reduce.specs.Run.{server}
use Rattle.nr_reduce.specs.RunLaws.{server_by, ends_response}
use Rattle.nr_reduce.specs.Served.{IsExecuted, next_call, first_ready}
use Rattle.nr_reduce.proofs.Conveyed.{Each, each_append, each_drop}
use Rattle.nr_reduce.proofs.Steps.{end_state_after_append}
use Rattle.nr_laws.proofs.Basics.{none_one_lem}
use Rattle.nr_laws.proofs.EachEffect.{each_effect, EffectCase, effect_case, read_over}
use Rattle.nr_laws.proofs.EachEffect.EffectCase.{Unchanged, OfMessage, OfRead, OfRefusal, OfCall}

-- the payload that is conveyed to a call that is ready
pub record Conveyed (k : ServerState) (place : ℕ) (c : PendingCall) (r : ReadyCall) : Type 0 where
  pub payload : pending_payload k place c ≡ Some r.payload
  pub number : r.number ≡ c.number
  pub xid : r.xid ≡ c.xid

pub data ReadyBy (k : ServerState) (f : Frame) (segment : Segment) (r : ReadyCall) : Type 0 where
  AtMessage : (message : List ℕ) (c : PendingCall) → message_completed k.received segment ≡ Some message → verdict k message ≡ MakesPending c → is_read (k.reads ++ reads_of (k.regions ++ regions_of k f.end c) c) c.number ≡ true → Conveyed k f.end c r → ReadyBy k f segment r
  AtRead : (q : PendingRead) (rest : List PendingRead) (c : PendingCall) → ends_response segment ≡ true → k.reads ≡ q ∷ rest → call_of_number k q.number ≡ Some c → is_read rest c.number ≡ true → Conveyed (with_access k f segment) f.end c r → ReadyBy k f segment r

record WholeBy (k : ServerState) (place : ℕ) (c : PendingCall) (reads : List PendingRead) (r : ReadyCall) : Type 0 where
  read : is_read reads c.number ≡ true
  conveyed : Conveyed k place c r

head_cause : (k : ServerState) (place : ℕ) (c : PendingCall) (payload : List ℕ) (h : Result CallHead ℕ) (s : FrameEffect) (r : ReadyCall) → pending_payload k place c ≡ Some payload → s.ready ≡ [] → (with_verdict (by_head c payload h) s).ready ≡ r ∷ [] → Conveyed k place c r
head_cause k place c payload (Err at) s r is none e = none_one_lem r s.ready none e
head_cause k place c payload (Ok head) s r is none e = by (eqb (head_xid head) c.xid) e
  where
    by : (b : Bool) → (with_verdict (cond b (IsReady (record { number = c.number; xid = c.xid; payload = payload })) (Refuses 19)) s).ready ≡ r ∷ [] → Conveyed k place c r
    by true e =
        let same : (record { number = c.number; xid = c.xid; payload = payload }) ≡ r = one (record { number = c.number; xid = c.xid; payload = payload }) r e in
        record { payload = is ∙ ap (λ (x : ReadyCall). Some x.payload) same; number = ap (λ (x : ReadyCall). x.number) (sym same); xid = ap (λ (x : ReadyCall). x.xid) (sym same) }
      where
        one : (a b : ReadyCall) → a ∷ [] ≡ b ∷ [] → a ≡ b
        one a b e = cc
    by false e = none_one_lem r s.ready none e

payload_cause : (k : ServerState) (place : ℕ) (c : PendingCall) (o : Option (List ℕ)) (s : FrameEffect) (r : ReadyCall) → pending_payload k place c ≡ o → s.ready ≡ [] → (with_verdict (by_payload c o) s).ready ≡ r ∷ [] → Conveyed k place c r
payload_cause k place c None s r is none e = none_one_lem r s.ready none e
payload_cause k place c (Some payload) s r is none e = head_cause k place c payload (call_of payload) s r is none e

whole_cause : (k : ServerState) (place : ℕ) (c : PendingCall) (s : FrameEffect) (r : ReadyCall) → s.ready ≡ [] → (ready_if_whole k place c s).ready ≡ r ∷ [] → WholeBy k place c s.reads r
whole_cause k place c s r none e = by (is_read s.reads c.number) refl e
  where
    by : (b : Bool) → is_read s.reads c.number ≡ b → (cond b (with_verdict (by_payload c (pending_payload k place c)) s) s).ready ≡ r ∷ [] → WholeBy k place c s.reads r
    by true is e = record { read = is; conveyed = payload_cause k place c (pending_payload k place c) s r refl none e }
    by false is e = none_one_lem r s.ready none e

message_cause : (k : ServerState) (f : Frame) (segment : Segment) (message : List ℕ) (r : ReadyCall) → message_completed k.received segment ≡ Some message → (v : Verdict) → verdict k message ≡ v → (message_effect k f.end message v).ready ≡ r ∷ [] → ReadyBy k f segment r
message_cause k f segment message r whole (EndsLink reason) is e = none_one_lem r [] refl e
message_cause k f segment message r whole OtherVersion is e = none_one_lem r [] refl e
message_cause k f segment message r whole BadChunks is e = none_one_lem r [] refl e
message_cause k f segment message r whole (MakesPending c) is e =
    let w = whole_cause k f.end c (record (no_effect k) { calls = k.calls ++ c ∷ []; reads = k.reads ++ reads_of (k.regions ++ regions_of k f.end c) c; regions = k.regions ++ regions_of k f.end c }) r refl e in
    AtMessage message c whole is w.read w.conveyed

pub ready_by : (k : ServerState) (f : Frame) (segment : Segment) (r : ReadyCall) → frame_segment f ≡ Ok segment → (frame_effect k f).ready ≡ r ∷ [] → ReadyBy k f segment r
ready_by k f segment r is e = by (effect_case k f segment is)
  where
    made : (s : FrameEffect) → frame_effect k f ≡ s → s.ready ≡ r ∷ []
    made s same = ap (λ (x : FrameEffect). x.ready) (sym same) ∙ e

    by : EffectCase k f segment (frame_effect k f) → ReadyBy k f segment r
    by (Unchanged same) = none_one_lem r [] refl (made (no_effect k) same)
    by (OfMessage message whole same) = message_cause k f segment message r whole (verdict k message) refl (made (message_effect k f.end message (verdict k message)) same)
    by (OfRead q reads last own same) = none_one_lem r [] refl (made (read_over k reads) same)
    by (OfRefusal q reads c last own found test same) = none_one_lem r [] refl (made (with_refused_call k c (read_over k reads)) same)
    by (OfCall q reads c last own found same) =
        let t = with_access k f segment in
        let w = whole_cause t f.end c (read_over k reads) r refl (made (ready_if_whole t f.end c (read_over k reads)) same) in
        AtRead q reads c last own found w.read w.conveyed

-- at most one call is ready by a frame
abbrev pub AtMostReady : List ReadyCall → Type 0
AtMostReady [] = Unit {0}
AtMostReady (r ∷ rs) = rs ≡ []

few_verdict : (v : CallVerdict) (s : FrameEffect) → AtMostReady s.ready → AtMostReady (with_verdict v s).ready
few_verdict (Refuses reason) s h = h
few_verdict (IsReady r) s h = refl

few_frame : (k : ServerState) (f : Frame) → AtMostReady (frame_effect k f).ready
few_frame k f =
    each_effect k (λ m. Unit {0}) (λ s. AtMostReady s.ready)
    (record { judged = judged; ends = λ message reason good is. tt; version = λ message good. tt; chunks = λ message good. tt; pending = λ place message c good is. tt })
    (record { unchanged = tt; judged = judged; read = λ r reads is. tt; refused = λ r reads c is found. tt }) f (λ s m is e. tt)
  where
    judged : (t : ServerState) (place : ℕ) (c : PendingCall) (s : FrameEffect) → AtMostReady s.ready → AtMostReady (with_verdict (by_payload c (pending_payload t place c)) s).ready
    judged t place c s h = few_verdict (by_payload c (pending_payload t place c)) s h

-- ---- Along the events of a server

pub record ReadyAt (opened : LinkParameters) (es : List RunEvent) (r : ReadyCall) : Type 0 where
  pub earlier : List RunEvent
  pub frame : Frame
  pub later : List RunEvent
  pub is : es ≡ earlier ++ FrameReceived frame ∷ later
  pub behind : is_hello frame ≡ false
  pub ready : (frame_effect (server_by opened earlier) frame).ready ≡ r ∷ []

ready_later : (opened : LinkParameters) (es : List RunEvent) (e : RunEvent) (r : ReadyCall) → ReadyAt opened es r → ReadyAt opened (es ++ e ∷ []) r
ready_later opened es e r h = record {
  earlier = h.earlier;
  frame = h.frame;
  later = h.later ++ e ∷ [];
  is = ap (λ (all : List RunEvent). all ++ e ∷ []) h.is ∙ append_assoc h.earlier (FrameReceived h.frame ∷ h.later) (e ∷ []);
  behind = h.behind;
  ready = h.ready;
}

each_later : (opened : LinkParameters) (es : List RunEvent) (e : RunEvent) (rs : List ReadyCall) → Each (ReadyAt opened es) rs → Each (ReadyAt opened (es ++ e ∷ [])) rs
each_later opened es e [] h = tt
each_later opened es e (r ∷ rs) h = (ready_later opened es e r h.0, each_later opened es e rs h.1)

new_each : (opened : LinkParameters) (es : List RunEvent) (f : Frame) (rs : List ReadyCall) → is_hello f ≡ false → (frame_effect (server_by opened es) f).ready ≡ rs → AtMostReady rs → Each (ReadyAt opened (es ++ FrameReceived f ∷ [])) rs
new_each opened es f [] behind is few = tt
new_each opened es f (r ∷ rs) behind is few =
    let none : rs ≡ [] = few in (
      record { earlier = es; frame = f; later = []; is = refl; behind = behind; ready = is ∙ ap (λ (xs : List ReadyCall). r ∷ xs) none },
      subst (λ (xs : List ReadyCall). Each (ReadyAt opened (es ++ FrameReceived f ∷ [])) xs) (sym none) tt,
    )

after_each : (opened : LinkParameters) (es : List RunEvent) (e : RunEvent) → Each (ReadyAt opened es) (server_by opened es).ready → Each (ReadyAt opened (es ++ e ∷ [])) (server_state_after opened (server_by opened es) e).ready
unfolding server_state_after
after_each opened es (FrameReceived f) h = by (is_hello f) refl
  where
    k : ServerState
    k = server_by opened es

    old : Each (ReadyAt opened (es ++ FrameReceived f ∷ [])) k.ready
    old = each_later opened es (FrameReceived f) k.ready h

    by : (b : Bool) → is_hello f ≡ b → Each (ReadyAt opened (es ++ FrameReceived f ∷ [])) (cond b (with_own_hello opened k f) (with_effect k f (frame_effect k f))).ready
    by true is = old
    by false is = each_append (ReadyAt opened (es ++ FrameReceived f ∷ [])) k.ready (frame_effect k f).ready old (new_each opened es f (frame_effect k f).ready is refl (few_frame k f))
after_each opened es (CallSubmitted p a) h = each_later opened es (CallSubmitted p a) (server_by opened es).ready h
after_each opened es (MemoryRevoked p xid) h = each_later opened es (MemoryRevoked p xid) (server_by opened es).ready h
after_each opened es (CallExecuted e) h = each_drop (ReadyAt opened (es ++ CallExecuted e ∷ [])) (server_by opened es).ready (each_later opened es (CallExecuted e) (server_by opened es).ready h)
after_each opened es (QueueWritten taken) h = each_later opened es (QueueWritten taken) (server_by opened es).ready h
after_each opened es (ServerTold what) h = each_later opened es (ServerTold what) (server_by opened es).ready h

next_each : (opened : LinkParameters) (es : List RunEvent) (e : RunEvent) → Each (ReadyAt opened es) (server_by opened es).ready → Each (ReadyAt opened (es ++ e ∷ [])) (server_by opened (es ++ e ∷ [])).ready
next_each opened es e h =
    subst (λ (r : EndState ServerState). Each (ReadyAt opened (es ++ e ∷ [])) r.state.ready) (sym (end_state_after_append (server_rules opened) (initial_server opened) es (e ∷ [])))
    (one (end_state_after (server_rules opened) (initial_server opened) es).ended)
  where
    k : ServerState
    k = server_by opened es

    by_why : (o : Option Stop) → Each (ReadyAt opened (es ++ e ∷ [])) (next_end_state_by (server_rules opened) k e o).state.ready
    by_why None = after_each opened es e h
    by_why (Some end) = each_later opened es e k.ready h

    one : (ended : Option Stop) → Each (ReadyAt opened (es ++ e ∷ [])) (next_end_state_in (server_rules opened) k e ended).state.ready
    one None = by_why (server_end opened k e)
    one (Some end) = each_later opened es e k.ready h

each_from : (opened : LinkParameters) (es more : List RunEvent) → Each (ReadyAt opened es) (server_by opened es).ready → Each (ReadyAt opened (es ++ more)) (server_by opened (es ++ more)).ready
each_from opened es [] h = subst (λ (all : List RunEvent). Each (ReadyAt opened all) (server_by opened all).ready) (sym (append-nil es)) h
each_from opened es (e ∷ more) h = subst (λ (all : List RunEvent). Each (ReadyAt opened all) (server_by opened all).ready) (append_assoc es (e ∷ []) more) (each_from opened (es ++ e ∷ []) more (next_each opened es e h))

first_at : (opened : LinkParameters) (es : List RunEvent) (ready : List ReadyCall) (ended : Option Stop) (r : ReadyCall) → Each (ReadyAt opened es) ready → first_ready ready ended ≡ Some r → ReadyAt opened es r
first_at opened es ready (Some end) r h e = absurd cc
first_at opened es [] None r h e = absurd cc
first_at opened es (x ∷ ready) None r h e = subst (ReadyAt opened es) (let s : Some x ≡ Some r = e in cc) h.0

-- the frame by which an executed call was ready
pub executed_ready : (opened : LinkParameters) (link : ℕ) (before : List Mark) (xid : ℕ) (payload : List ℕ) → (h : IsExecuted opened link before xid payload) → ReadyAt opened (events link Responder before) h.call
unfolding next_call server
executed_ready opened link before xid payload h =
    let es = events link Responder before in
    first_at opened es (server opened link before).state.ready (server opened link before).ended h.call (each_from opened [] es tt) h.is_next
