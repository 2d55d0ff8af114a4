-- A rule that each part of an effect keeps holds of the effect of each frame at a server; likewise of the verdict on each message.
use Rattle.std.proofs.Common.{◌≡◌, ℕ, ◌+◌, ◌-◌, Bool, true, false, cond, not, ◌&&◌, ◌||◌, eqb, ltb, List, [], ◌∷◌, ◌++◌, length, drop, Option, None, Some, Result, Ok, Err, refl, sym, subst}
use Rattle.nr_xdr.specs.Fields.{word_at}
use Rattle.nr_wire.specs.Constants.{OPCODE_READ_RESPONSE}
use Rattle.nr_wire.specs.Segment.{Segment}
use Rattle.nr_wire.specs.Segment.Segment.{Tagged, Untagged}
use Rattle.nr_header.specs.declared.fault.HeaderFault.{HeaderFault}
use Rattle.nr_header.specs.declared.header.Body.{Body}
use Rattle.nr_header.specs.declared.header.Body.TheVariants.{Msg, Nomsg, ErrVers, ErrChunk}
use Rattle.nr_header.specs.declared.header.ChunkLists.{ChunkLists}
use Rattle.nr_header.specs.declared.header.Header.{Header}
use Rattle.nr_header.specs.Reading.{header_of}
use Rattle.nr_link.specs.Frames.{Frame}
use Rattle.nr_link.specs.Ending.{frame_segment}
use Rattle.nr_link.specs.ReceiveState.{message_completed, begun_bytes}
use Rattle.nr_reduce.specs.Chunks.{is_read_chunk_of_item}
use Rattle.nr_reduce.specs.Holds.{chunk_error, version_error}
use Rattle.nr_reduce.specs.RunLaws.{ends_response}
use Rattle.nr_reduce.specs.ServerState.{ServerState, PendingCall, PendingRead, credit_word, next_stag, is_pending, receives_in_use}
use Rattle.nr_reduce.specs.ServerReads.{open_reads, is_read, reads_of, regions_of, chunks_of}
use Rattle.nr_reduce.specs.ServerMessages.{Verdict, CallVerdict, verdict, by_need, by_stream, by_body, by_header, by_payload, has_position, no_stream, chunk_bytes, pending_payload}
use Rattle.nr_reduce.specs.ServerMessages.CallVerdict.{Refuses, IsReady}
use Rattle.nr_reduce.specs.OfferedRegions.{Region}
use Rattle.nr_reduce.specs.ServerMessages.Verdict.{EndsLink, OtherVersion, BadChunks, MakesPending}
use Rattle.nr_reduce.specs.ServerFrames.{FrameEffect, no_effect, with_verdict, ready_if_whole, message_effect, with_refused_call, is_stream_read, read_effect, call_of_number, response_effect, by_message, with_access, effect_in, frame_effect}
use Rattle.nr_laws.proofs.FrameContents.{SentMessage, part_segment, last_segment, CompletesMessage}

-- ---- The verdict on a message

pub record VerdictRule (P : Verdict → Type 0) : Type 0 where
  pub kind : P (EndsLink 17)
  pub again : P (EndsLink 20)
  pub stags : P (EndsLink 30)
  pub version : P OtherVersion
  pub chunks : P BadChunks
  pub pending : (c : PendingCall) → P (MakesPending c)

verdict_if : (P : Verdict → Type 0) (b : Bool) (v w : Verdict) → P v → P w → P (cond b v w)
verdict_if P true v w h g = h
verdict_if P false v w h g = g

need_rule : (P : Verdict → Type 0) → VerdictRule P → (k : ServerState) (c : PendingCall) → P (by_need k c)
need_rule P h k c = verdict_if P (ltb 4294967296 (next_stag k + length (chunks_of c.lists))) (EndsLink 30) (MakesPending c) h.stags (h.pending c)

stream_rule : (P : Verdict → Type 0) → VerdictRule P → (k : ServerState) (lists : ChunkLists) (xid : ℕ) (o : Option (List ℕ)) → P (by_stream k lists xid o)
stream_rule P h k lists xid None = need_rule P h k (record { number = k.received.sends + 1; xid = xid; lists = lists; inline = None })
stream_rule P h k lists xid (Some stream) =
    verdict_if P (is_read_chunk_of_item stream lists.read) (by_need k (record { number = k.received.sends + 1; xid = xid; lists = lists; inline = Some stream })) BadChunks
    (need_rule P h k (record { number = k.received.sends + 1; xid = xid; lists = lists; inline = Some stream })) h.chunks

header_rule : (P : Verdict → Type 0) → VerdictRule P → (k : ServerState) (message : List ℕ) (r : Result Header HeaderFault) → P (by_header k message r)
header_rule P h k message (Err fault) = h.chunks
header_rule P h k message (Ok header) = by header.xid header.body
  where
    by : (xid : ℕ) (b : Body) → P (by_body k xid message b)
    by xid (Msg lists at) = stream_rule P h k lists xid (Some (drop at message))
    by xid (Nomsg lists) = verdict_if P (has_position lists.read) (by_stream k lists xid (no_stream lists.read)) BadChunks (stream_rule P h k lists xid (no_stream lists.read)) h.chunks
    by xid (ErrVers version low high) = h.chunks
    by xid (ErrChunk version) = h.chunks

pub each_verdict : (P : Verdict → Type 0) → VerdictRule P → (k : ServerState) (message : List ℕ) → P (verdict k message)
unfolding verdict
each_verdict P h k message =
    verdict_if P (not (eqb (word_at 4 message) 1)) OtherVersion _ h.version
    (verdict_if P (eqb (word_at 12 message) 3 || eqb (word_at 12 message) 4) (EndsLink 17) _ h.kind
    (verdict_if P (is_pending k (word_at 0 message)) (EndsLink 20) (by_header k message (header_of message)) h.again (header_rule P h k message (header_of message))))

-- ---- The effect of a frame

-- once the first read is over
abbrev pub read_over : ServerState → List PendingRead → FrameEffect
read_over k reads = record (no_effect k) { reads = reads; kept = length (open_reads k) - 1 }

abbrev pub stream_refused : ServerState → Frame → Segment → PendingRead → List PendingRead → PendingCall → Bool
stream_refused k f segment r reads c = is_stream_read c r reads && not (is_read_chunk_of_item (chunk_bytes (with_access k f segment) f.end c 0) c.lists.read)

-- which case of its definition an effect is
pub data EffectCase (k : ServerState) (f : Frame) (segment : Segment) (e : FrameEffect) : Type 0 where
  Unchanged : e ≡ no_effect k → EffectCase k f segment e
  OfMessage : (message : List ℕ) → message_completed k.received segment ≡ Some message → e ≡ message_effect k f.end message (verdict k message) → EffectCase k f segment e
  OfRead : (r : PendingRead) (reads : List PendingRead) → ends_response segment ≡ true → k.reads ≡ r ∷ reads → e ≡ read_over k reads → EffectCase k f segment e
  OfRefusal : (r : PendingRead) (reads : List PendingRead) (c : PendingCall) → ends_response segment ≡ true → k.reads ≡ r ∷ reads → call_of_number k r.number ≡ Some c → stream_refused k f segment r reads c ≡ true
      → e ≡ with_refused_call k c (read_over k reads) → EffectCase k f segment e
  OfCall : (r : PendingRead) (reads : List PendingRead) (c : PendingCall) → ends_response segment ≡ true → k.reads ≡ r ∷ reads → call_of_number k r.number ≡ Some c → e ≡ ready_if_whole (with_access k f segment) f.end c (read_over k reads)
      → EffectCase k f segment e

-- the access of the frame's own segment changes nothing in what is answered
refused_same : (k : ServerState) (f : Frame) (segment : Segment) (c : PendingCall) (s : FrameEffect) → with_refused_call (with_access k f segment) c s ≡ with_refused_call k c s
unfolding credit_word receives_in_use
refused_same k f segment c s = refl

response_case : (k : ServerState) (f : Frame) (segment : Segment) → ends_response segment ≡ true → (reads : List PendingRead) → k.reads ≡ reads → EffectCase k f segment (response_effect (with_access k f segment) f.end reads)
response_case k f segment last [] is = Unchanged refl
response_case k f segment last (r ∷ reads) is = by_call (call_of_number k r.number) refl
  where
    t : ServerState
    t = with_access k f segment

    by_test : (c : PendingCall) → call_of_number k r.number ≡ Some c → (b : Bool) → stream_refused k f segment r reads c ≡ b → EffectCase k f segment (cond b (with_refused_call t c (read_over k reads)) (ready_if_whole t f.end c (read_over k reads)))
    by_test c found true test = OfRefusal r reads c last is found test (refused_same k f segment c (read_over k reads))
    by_test c found false test = OfCall r reads c last is found refl

    by_call : (o : Option PendingCall) → call_of_number k r.number ≡ o → EffectCase k f segment (read_effect t f.end r o (read_over k reads))
    by_call None found = OfRead r reads last is refl
    by_call (Some c) found = by_test c found (stream_refused k f segment r reads c) refl

pub effect_case : (k : ServerState) (f : Frame) (segment : Segment) → frame_segment f ≡ Ok segment → EffectCase k f segment (frame_effect k f)
unfolding frame_effect
effect_case k f segment is = subst (λ (r : Result Segment ℕ). EffectCase k f segment (effect_in k f r)) (sym is) (by segment)
  where
    of_message : (s : Segment) (o : Option (List ℕ)) → message_completed k.received s ≡ o → EffectCase k f s (by_message k f.end o)
    of_message s None whole = Unchanged refl
    of_message s (Some message) whole = OfMessage message whole refl

    by : (s : Segment) → EffectCase k f s (effect_in k f (Ok s))
    by (Tagged last opcode stag to payload) = tagged (eqb opcode OPCODE_READ_RESPONSE && last) refl
      where
        s : Segment
        s = Tagged last opcode stag to payload

        tagged : (b : Bool) → (eqb opcode OPCODE_READ_RESPONSE && last) ≡ b → EffectCase k f s (cond b (response_effect (with_access k f s) f.end k.reads) (no_effect (with_access k f s)))
        tagged true own = response_case k f s own k.reads refl
        tagged false own = Unchanged refl
    by (Untagged last opcode w queue msn offset payload) = of_message (Untagged last opcode w queue msn offset payload) (message_completed k.received (Untagged last opcode w queue msn offset payload)) refl

-- what a message makes of a server: `Good` is what the messages have that are judged
pub record MessageRule (k : ServerState) (Good : List ℕ → Type 0) (P : FrameEffect → Type 0) : Type 0 where
  pub judged : (t : ServerState) (place : ℕ) (c : PendingCall) (s : FrameEffect) → P s → P (with_verdict (by_payload c (pending_payload t place c)) s)
  pub ends : (message : List ℕ) (reason : ℕ) → Good message → verdict k message ≡ EndsLink reason → P (record (no_effect k) { refusal = Some reason })
  pub version : (message : List ℕ) → Good message → P (record (no_effect k) { errors = version_error (word_at 0 message) (word_at 4 message) (credit_word k) ∷ [] })
  pub chunks : (message : List ℕ) → Good message → P (record (no_effect k) { errors = chunk_error (word_at 0 message) (credit_word k) ∷ [] })
  pub pending : (place : ℕ) (message : List ℕ) (c : PendingCall) → Good message → verdict k message ≡ MakesPending c
      → P (record (no_effect k) { calls = k.calls ++ c ∷ []; reads = k.reads ++ reads_of (k.regions ++ regions_of k place c) c; regions = k.regions ++ regions_of k place c })

-- what the last segment of a Read Response makes of it
pub record ResponseRule (k : ServerState) (P : FrameEffect → Type 0) : Type 0 where
  pub unchanged : P (no_effect k)
  pub judged : (t : ServerState) (place : ℕ) (c : PendingCall) (s : FrameEffect) → P s → P (with_verdict (by_payload c (pending_payload t place c)) s)
  pub read : (r : PendingRead) (reads : List PendingRead) → k.reads ≡ r ∷ reads → P (record (no_effect k) { reads = reads; kept = length (open_reads k) - 1 })
  pub refused : (r : PendingRead) (reads : List PendingRead) (c : PendingCall) → k.reads ≡ r ∷ reads → call_of_number k r.number ≡ Some c → P (with_refused_call k c (record (no_effect k) { reads = reads; kept = length (open_reads k) - 1 }))

pub whole_rule : (P : FrameEffect → Type 0) (t : ServerState) (place : ℕ) (c : PendingCall) (s : FrameEffect) → (P s → P (with_verdict (by_payload c (pending_payload t place c)) s)) → P s → P (ready_if_whole t place c s)
whole_rule P t place c s judged h = by (is_read s.reads c.number)
  where
    by : (b : Bool) → P (cond b (with_verdict (by_payload c (pending_payload t place c)) s) s)
    by true = judged h
    by false = h

message_rule : (k : ServerState) (Good : List ℕ → Type 0) (P : FrameEffect → Type 0) → MessageRule k Good P → (place : ℕ) (message : List ℕ) (v : Verdict) → Good message → verdict k message ≡ v → P (message_effect k place message v)
message_rule k Good P h place message (EndsLink reason) good is = h.ends message reason good is
message_rule k Good P h place message OtherVersion good is = h.version message good
message_rule k Good P h place message BadChunks good is = h.chunks message good
message_rule k Good P h place message (MakesPending c) good is =
    whole_rule P k place c (record (no_effect k) { calls = k.calls ++ c ∷ []; reads = k.reads ++ reads_of (k.regions ++ regions_of k place c) c; regions = k.regions ++ regions_of k place c }) (h.judged k place c _) (h.pending place message c good is)

-- a tagged segment
response_rule : (k : ServerState) (P : FrameEffect → Type 0) → ResponseRule k P → (f : Frame) (segment : Segment) (e : FrameEffect) → ((message : List ℕ) → message_completed k.received segment ≡ Some message → e ≡ message_effect k f.end message (verdict k message) → P e)
    → EffectCase k f segment e → P e
response_rule k P h f segment e of_message (Unchanged is) = subst P (sym is) h.unchanged
response_rule k P h f segment e of_message (OfMessage message whole is) = of_message message whole is
response_rule k P h f segment e of_message (OfRead r reads last own is) = subst P (sym is) (h.read r reads own)
response_rule k P h f segment e of_message (OfRefusal r reads c last own found test is) = subst P (sym is) (h.refused r reads c own found)
response_rule k P h f segment e of_message (OfCall r reads c last own found is) = subst P (sym is) (whole_rule P (with_access k f segment) f.end c (read_over k reads) (h.judged (with_access k f segment) f.end c (read_over k reads)) (h.read r reads own))

pub tagged_effect_lem : (k : ServerState) (P : FrameEffect → Type 0) → ResponseRule k P → (f : Frame) (last : Bool) (opcode stag to : ℕ) (payload : List ℕ) → frame_segment f ≡ Ok (Tagged last opcode stag to payload) → P (frame_effect k f)
tagged_effect_lem k P h f last opcode stag to payload is = (let segment = Tagged last opcode stag to payload in response_rule k P h f segment (frame_effect k f) (λ message whole e. absurd cc) (effect_case k f segment is))

-- a segment of a Send that isn't its last has no effect
pub part_effect : (k : ServerState) (P : FrameEffect → Type 0) → P (no_effect k) → (f : Frame) (offset : ℕ) (payload : List ℕ) → frame_segment f ≡ Ok (part_segment k.received.sends offset payload) → P (frame_effect k f)
unfolding frame_effect
part_effect k P same f offset payload is = subst (λ (r : Result Segment ℕ). P (effect_in k f r)) (sym is) same

-- the last segment of a Send
pub send_effect : (k : ServerState) (Good : List ℕ → Type 0) (P : FrameEffect → Type 0) → MessageRule k Good P → (f : Frame) (message : SentMessage) → CompletesMessage k.received message → Good message.bytes
    → frame_segment f ≡ Ok (last_segment k.received.sends message) → P (frame_effect k f)
unfolding frame_effect
send_effect k Good P h f message completes good is =
    let whole : List ℕ = begun_bytes k.received.begun ++ message.payload in
    subst (λ (r : Result Segment ℕ). P (effect_in k f r)) (sym is) (message_rule k Good P h f.end whole (verdict k whole) (subst Good (sym completes) good) refl)

pub each_effect : (k : ServerState) (Good : List ℕ → Type 0) (P : FrameEffect → Type 0) → MessageRule k Good P → ResponseRule k P → (f : Frame)
    → ((s : Segment) (m : List ℕ) → frame_segment f ≡ Ok s → message_completed k.received s ≡ Some m → Good m) → P (frame_effect k f)
unfolding frame_effect
each_effect k Good P h g f good = by (frame_segment f) refl
  where
    by : (r : Result Segment ℕ) → frame_segment f ≡ r → P (effect_in k f r)
    by (Err reason) is = g.unchanged
    by (Ok segment) is =
        subst (λ (r : Result Segment ℕ). P (effect_in k f r)) is
        (response_rule k P g f segment (effect_in k f (frame_segment f)) (λ message whole e. subst P (sym e) (message_rule k Good P h f.end message (verdict k message) (good segment message is whole) refl)) (effect_case k f segment is))

-- ---- Rules over what a server holds alone, which no verdict on a call changes

judged_held : (Q : List PendingCall → List PendingRead → List Region → Type 0) (o : CallVerdict) (s : FrameEffect) → Q s.calls s.reads s.regions → Q (with_verdict o s).calls (with_verdict o s).reads (with_verdict o s).regions
judged_held Q (Refuses reason) s h = h
judged_held Q (IsReady r) s h = h

pub held_messages : (k : ServerState) (Good : List ℕ → Type 0) (Q : List PendingCall → List PendingRead → List Region → Type 0) → Q k.calls k.reads k.regions
    → ((place : ℕ) (message : List ℕ) (c : PendingCall) → Good message → verdict k message ≡ MakesPending c → Q (k.calls ++ c ∷ []) (k.reads ++ reads_of (k.regions ++ regions_of k place c) c) (k.regions ++ regions_of k place c))
    → MessageRule k Good (λ s. Q s.calls s.reads s.regions)
held_messages k Good Q same pending = record {
  judged = λ t place c s h. judged_held Q (by_payload c (pending_payload t place c)) s h;
  ends = λ message reason good is. same;
  version = λ message good. same;
  chunks = λ message good. same;
  pending = pending;
}

pub held_responses : (k : ServerState) (Q : List PendingCall → List PendingRead → List Region → Type 0) → Q k.calls k.reads k.regions
    → ((c : PendingCall) (s : FrameEffect) → Q s.calls s.reads s.regions → Q (with_refused_call k c s).calls (with_refused_call k c s).reads s.regions) → ((r : PendingRead) (reads : List PendingRead) → k.reads ≡ r ∷ reads → Q k.calls reads k.regions)
    → ResponseRule k (λ s. Q s.calls s.reads s.regions)
held_responses k Q same refused read = record {
  unchanged = same;
  judged = λ t place c s h. judged_held Q (by_payload c (pending_payload t place c)) s h;
  read = read;
  refused = λ r reads c is found. refused c (record (no_effect k) { reads = reads; kept = length (open_reads k) - 1 }) (read r reads is);
}
