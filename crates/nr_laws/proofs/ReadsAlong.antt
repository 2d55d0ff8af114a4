-- Along the events of a server: the Read Requests that it said are those of the reads that are done or open, and each read that is
-- done had the last segment of a response.
use Rattle.std.proofs.Common.{◌≡◌, ℕ, ◌+◌, Bool, true, false, cond, ◌&&◌, not, eqb, List, [], ◌∷◌, ◌++◌, length, take, map, Option, None, Some, Result, Ok, Err, refl, sym, ap, subst, ◌∙◌, arith, append_assoc, append-nil, length-append, eqb-true}
use Rattle.nr_wire.specs.Constants.{OPCODE_READ_RESPONSE, OPCODE_READ_REQUEST}
use Rattle.nr_wire.specs.Segment.{Segment, segment_of}
use Rattle.nr_wire.specs.Segment.Segment.{Tagged, Untagged}
use Rattle.nr_regions.specs.declared.denied.Denied.{Denied}
use Rattle.nr_link.specs.declared.end.End.{End as Stop}
use Rattle.nr_link.specs.Frames.{Frame, is_hello}
use Rattle.nr_link.specs.ReceiveState.{ReceiveState, received_after, message_completed}
use Rattle.nr_link.specs.SegmentFaults.{Readiness, segment_reason, reason_if, missing_fault, is_unexpected, is_expected}
use Rattle.nr_link.specs.Reasons.{REASON_RESPONSE}
use Rattle.nr_link.specs.Ending.{frame_segment, frame_end, frame_end_by, end_of_fault, hello_end, missing_access}
use Rattle.nr_link.proofs.TakenSegments.{frame_read}
use Rattle.nr_wire.specs.Hello.{hello_of}
use Rattle.nr_wire.specs.declared.hello.Side.TheVariants.{Initiator}
use Rattle.nr_reduce.specs.declared.mark.LinkParameters.{LinkParameters}
use Rattle.nr_reduce.specs.OfferedRegions.{Region, region_grants, regions_closed}
use Rattle.nr_reduce.specs.Events.{RunEvent}
use Rattle.nr_reduce.specs.Events.RunEvent.{FrameReceived, CallSubmitted, MemoryRevoked, CallExecuted, QueueWritten, ServerTold}
use Rattle.nr_reduce.specs.ServerState.{ServerState, PendingCall, PendingRead, credit_word}
use Rattle.nr_reduce.specs.ServerReads.{expected_read_response, reads_of, regions_of, is_over}
use Rattle.nr_reduce.specs.ServerMessages.{Verdict, verdict}
use Rattle.nr_reduce.specs.ServerMessages.Verdict.{EndsLink, OtherVersion, BadChunks, MakesPending}
use Rattle.nr_reduce.specs.ServerFrames.{FrameEffect, no_effect, message_effect, response_effect, call_of_number, by_message, with_access, effect_in, frame_effect}
use Rattle.nr_reduce.specs.Server.{server_end, server_state_after, with_effect, received_by, or_refusal, server_readiness, newly_open_reads, offer_of, stag_named}
use Rattle.nr_reduce.specs.Holds.{Answer, answer_message, chunk_error}
use Rattle.nr_link.specs.Output.{segment_count}
use Rattle.nr_laws.specs.MessageSegments.{named_segment}
use Rattle.std.specs.List.{range_with_len}
use Rattle.nr_header.specs.declared.header.ChunkLists.{ChunkLists}
use Rattle.nr_reduce.proofs.Once.{NumberIs, verdict_number, whole_with, rises_with}
use Rattle.nr_reduce.proofs.OwnStags.{AreNumbered, closed_length}
use Rattle.nr_laws.proofs.Outputs.{Output, effect_outputs, answer_outputs, answer_of_call, message_sends, message_outputs, request_outputs, request_payload, named_outputs}
use Rattle.nr_laws.proofs.Outputs.Output.{AHello, ASegment}
use Rattle.nr_laws.proofs.TaggedSegments.{AreTagged}
use Rattle.nr_laws.proofs.ClientSays.{no_reason}
use Rattle.nr_laws.proofs.ServerOutputs.{tagged_answer}
use Rattle.nr_laws.proofs.SinkReads.{SinksBelow}
use Rattle.nr_laws.proofs.PendingSinks.{OwnersBelow, owners_closed, EachReads, each_closed, each_filter}
use Rattle.nr_laws.proofs.SinksKept.{SinksKept, EffectKept, IsOwnRead, same_kept_lem, ready_kept, pending_kept, read_kept}
use Rattle.std.proofs.lemmas.List.{map-append}
use Rattle.nr_reduce.proofs.Touches.{AreNone, all_none, no_flaw}
use Rattle.std.proofs.lemmas.Bool.{and_parts}

-- ---- The Read Requests among outputs

abbrev pub request_in : Segment → List (List ℕ)
request_in (Tagged last opcode stag to payload) = []
request_in (Untagged last opcode w queue msn offset payload) = cond (eqb opcode OPCODE_READ_REQUEST) (payload ∷ []) []

abbrev pub requests_in : List Output → List (List ℕ)
requests_in [] = []
requests_in (AHello bytes ∷ outs) = requests_in outs
requests_in (ASegment s ∷ outs) = request_in s ++ requests_in outs

pub requests_append : (xs ys : List Output) → requests_in (xs ++ ys) ≡ requests_in xs ++ requests_in ys
requests_append [] ys = refl
requests_append (AHello bytes ∷ xs) ys = requests_append xs ys
requests_append (ASegment s ∷ xs) ys = ap (λ (ps : List (List ℕ)). request_in s ++ ps) (requests_append xs ys) ∙ sym (append_assoc (request_in s) (requests_in xs) (requests_in ys))

requests_pieces : (named : Option ℕ) (msn : ℕ) (message is : List ℕ) → requests_in (map ASegment (map (named_segment named msn message) is)) ≡ []
requests_pieces named msn message [] = refl
requests_pieces None msn message (i ∷ is) = requests_pieces None msn message is
requests_pieces (Some stag) msn message (i ∷ is) = requests_pieces (Some stag) msn message is

requests_named : (named : Option ℕ) (msn : ℕ) (message : List ℕ) → requests_in (named_outputs named msn message) ≡ []
requests_named named msn message = requests_pieces named msn message (range_with_len 0 (segment_count message))

requests_message : (msn : ℕ) (message : List ℕ) → requests_in (message_outputs msn message) ≡ []
requests_message msn message = requests_named None msn message

requests_sends : (msn : ℕ) (ms : List (List ℕ)) → requests_in (message_sends msn ms) ≡ []
requests_sends msn [] = refl
requests_sends msn (m ∷ ms) =
    requests_append (message_outputs msn m) (message_sends (msn + 1) ms)
    ∙ (λ i. requests_message msn m i ++ requests_sends (msn + 1) ms i)

requests_reads : (msn : ℕ) (reads : List PendingRead) → requests_in (request_outputs msn reads) ≡ map request_payload reads
requests_reads msn [] = refl
requests_reads msn (r ∷ reads) = ap (λ (ps : List (List ℕ)). request_payload r ∷ ps) (requests_reads (msn + 1) reads)

requests_tagged : (segments : List Segment) → AreTagged segments → requests_in (map ASegment segments) ≡ []
requests_tagged [] h = refl
requests_tagged (Tagged last opcode stag to payload ∷ segments) h = requests_tagged segments h
requests_tagged (Untagged last opcode w queue msn offset payload ∷ segments) h = absurd h

requests_answer : (k : ServerState) (xid : ℕ) (offer : ChunkLists) (o : Option Answer) → requests_in (answer_outputs k xid offer o) ≡ []
requests_answer k xid offer None = requests_message (k.messages_queued + 1) (chunk_error xid (credit_word k))
requests_answer k xid offer (Some a) =
    requests_append (map ASegment (Rattle.nr_reduce.specs.ChunkBytes.answer_segments offer a)) (named_outputs (stag_named k.invalidates offer) (k.messages_queued + 1) (answer_message xid (credit_word k) offer a))
    ∙ (λ i. requests_tagged (Rattle.nr_reduce.specs.ChunkBytes.answer_segments offer a) (tagged_answer offer a) i
    ++ requests_named (stag_named k.invalidates offer) (k.messages_queued + 1) (answer_message xid (credit_word k) offer a) i)

-- ---- Last segments of responses

abbrev pub last_in : Segment → ℕ
last_in (Tagged last opcode stag to payload) = cond (eqb opcode OPCODE_READ_RESPONSE && last) 1 0
last_in (Untagged last opcode w queue msn offset payload) = 0

abbrev pub last_of : Result Segment ℕ → ℕ
last_of (Ok s) = last_in s
last_of (Err reason) = 0

abbrev pub lasts_in : List RunEvent → ℕ
lasts_in [] = 0
lasts_in (FrameReceived f ∷ es) = cond (is_hello f) 0 (last_of (segment_of f.bytes)) + lasts_in es
lasts_in (CallSubmitted p a ∷ es) = lasts_in es
lasts_in (MemoryRevoked p xid ∷ es) = lasts_in es
lasts_in (CallExecuted e ∷ es) = lasts_in es
lasts_in (QueueWritten taken ∷ es) = lasts_in es
lasts_in (ServerTold what ∷ es) = lasts_in es

lasts_append : (es more : List RunEvent) → lasts_in (es ++ more) ≡ lasts_in es + lasts_in more
lasts_append [] more = omega arith
lasts_append (FrameReceived f ∷ es) more = (let e = lasts_append es more in omega (arith, e))
lasts_append (CallSubmitted p a ∷ es) more = lasts_append es more
lasts_append (MemoryRevoked p xid ∷ es) more = lasts_append es more
lasts_append (CallExecuted e ∷ es) more = lasts_append es more
lasts_append (QueueWritten taken ∷ es) more = lasts_append es more
lasts_append (ServerTold what ∷ es) more = lasts_append es more

-- ---- What is kept

pub record ReadsAt (opened : LinkParameters) (es : List RunEvent) (k : ServerState) (outs : List Output) : Type 0 where
  pub done : List PendingRead
  pub kept : SinksKept k done
  pub requests : requests_in outs ≡ map request_payload (done ++ take 8 k.reads)
  pub lasts : length done ≡ lasts_in es

-- a call that a frame's message makes pending has reads of one position
abbrev pub OwnMessages : ServerState → Frame → Type 0
OwnMessages k f = (s : Segment) (message : List ℕ) (c : PendingCall) → frame_segment f ≡ Ok s → message_completed k.received s ≡ Some message → verdict k message ≡ MakesPending c → IsOwnRead c.lists.read

-- what a frame leaves, with the reads that are done by then
record FrameKept (k : ServerState) (done : List PendingRead) (s : FrameEffect) (sends n : ℕ) : Type 0 where
  later : List PendingRead
  effect : EffectKept k done later s sends
  count : length later ≡ length done + n

message_kept : (k : ServerState) (done : List PendingRead) (place sends : ℕ) (message : List ℕ) (v : Verdict) → verdict k message ≡ v → sends ≡ k.received.sends + 1 → ((c : PendingCall) → v ≡ MakesPending c → IsOwnRead c.lists.read) → AreNumbered 1 k.regions → SinksKept k done
    → EffectKept k done done (message_effect k place message v) sends
message_kept k done place sends message (EndsLink reason) is n own numbered h = same_kept_lem k done (message_effect k place message (EndsLink reason)) refl refl refl refl sends (omega (arith, n)) h
message_kept k done place sends message OtherVersion is n own numbered h = same_kept_lem k done (message_effect k place message OtherVersion) refl refl refl refl sends (omega (arith, n)) h
message_kept k done place sends message BadChunks is n own numbered h = same_kept_lem k done (message_effect k place message BadChunks) refl refl refl refl sends (omega (arith, n)) h
message_kept k done place sends message (MakesPending c) is n own numbered h =
    let number : c.number ≡ k.received.sends + 1 = subst (λ (v : Verdict). NumberIs (k.received.sends + 1) v) is (verdict_number k message) in
    subst (λ (m : ℕ). EffectKept k done done (message_effect k place message (MakesPending c)) m) (sym n)
    (ready_kept k k place c done done (record (no_effect k) { calls = k.calls ++ c ∷ []; reads = k.reads ++ reads_of (k.regions ++ regions_of k place c) c; regions = k.regions ++ regions_of k place c }) (k.received.sends + 1)
    (pending_kept k done place c (own c refl) number numbered h))

by_message_kept : (k : ServerState) (done : List PendingRead) (f : Frame) (s : Segment) (o : Option (List ℕ)) → message_completed k.received s ≡ o → ((message : List ℕ) (c : PendingCall) → o ≡ Some message → verdict k message ≡ MakesPending c → IsOwnRead c.lists.read) → AreNumbered 1 k.regions → SinksKept k done
    → EffectKept k done done (by_message k f.end o) (received_after k.received s).sends
by_message_kept k done f s None is own numbered h = same_kept_lem k done (no_effect k) refl refl refl refl (received_after k.received s).sends (rises_with k.received s) h
by_message_kept k done f s (Some message) is own numbered h = message_kept k done f.end (received_after k.received s).sends message (verdict k message) refl (whole_with k.received s message is) (λ c e. own message c refl e) numbered h

-- a live server that gets the last segment of a response has an open read
unexpected : (opened : LinkParameters) (k : ServerState) (f : Frame) (last : Bool) (opcode stag to : ℕ) (payload : List ℕ) → is_hello f ≡ false → frame_segment f ≡ Ok (Tagged last opcode stag to payload) → server_end opened k (FrameReceived f) ≡ None
    → (opcode ≡ OPCODE_READ_RESPONSE) → k.reads ≡ [] → ⊥
unfolding server_end frame_end segment_reason
unexpected opened k f last opcode stag to payload behind is stays own none =
    let grants = region_grants f.end k.regions in
    let s : Segment = Tagged last opcode stag to payload in
    let r : Readiness Denied = server_readiness opened k (missing_access grants f s) in
    let others : or_refusal k f (frame_end_by (server_readiness opened k) grants f (frame_segment f)) ≡ None =
    ap (λ (b : Bool). cond b (hello_end (hello_of Initiator f.bytes)) (or_refusal k f (frame_end_by (server_readiness opened k) grants f (frame_segment f)))) (sym behind) ∙ stays in
    let fine : frame_end_by (server_readiness opened k) grants f (frame_segment f) ≡ None = by_end (frame_end_by (server_readiness opened k) grants f (frame_segment f)) others in
    let whole : end_of_fault f s (segment_reason r s) ≡ None = ap (λ (x : Result Segment ℕ). frame_end_by (server_readiness opened k) grants f x) (sym is) ∙ fine in
    let all : AreNone (missing_fault r.missing ∷ reason_if REASON_RESPONSE (is_unexpected r opcode last stag to (length payload)) ∷ []) =
    all_none (missing_fault r.missing ∷ reason_if REASON_RESPONSE (is_unexpected r opcode last stag to (length payload)) ∷ []) (no_flaw f s (segment_reason r s) whole) in
    let bad : is_unexpected r opcode last stag to (length payload) ≡ true =
    (λ i. eqb (own i) OPCODE_READ_RESPONSE && not (is_expected (expected_read_response k.response_bytes (none i)) last stag to (length payload))) in
    let good = no_reason REASON_RESPONSE (is_unexpected r opcode last stag to (length payload)) all.1.0 in
    (let t : true ≡ false = sym bad ∙ good in absurd cc)
  where
    by_end : (o : Option Stop) → or_refusal k f o ≡ None → o ≡ None
    by_end None e = refl
    by_end (Some end) e = absurd cc

frame_kept : (opened : LinkParameters) (k : ServerState) (done : List PendingRead) (f : Frame) (s : Segment) → is_hello f ≡ false → frame_segment f ≡ Ok s → server_end opened k (FrameReceived f) ≡ None → OwnMessages k f → AreNumbered 1 k.regions → SinksKept k done
    → FrameKept k done (effect_in k f (Ok s)) (received_after k.received s).sends (last_in s)
frame_kept opened k done f (Untagged last opcode w queue msn offset payload) behind is stays own numbered h =
    let s : Segment = Untagged last opcode w queue msn offset payload in
    record { later = done; effect = by_message_kept k done f s (message_completed k.received s) refl (λ m c e v. own s m c is e v) numbered h; count = omega arith }
frame_kept opened k done f (Tagged last opcode stag to payload) behind is stays own numbered h = by (eqb opcode OPCODE_READ_RESPONSE && last) refl
  where
    t : ServerState
    t = with_access k f (Tagged last opcode stag to payload)

    response : eqb opcode OPCODE_READ_RESPONSE && last ≡ true → opcode ≡ OPCODE_READ_RESPONSE
    response e = eqb-true opcode OPCODE_READ_RESPONSE (and_parts (eqb opcode OPCODE_READ_RESPONSE) last e).0

    by_reads : (reads : List PendingRead) → k.reads ≡ reads → opcode ≡ OPCODE_READ_RESPONSE → FrameKept k done (response_effect t f.end reads) k.received.sends 1
    by_reads [] none o = absurd (unexpected opened k f last opcode stag to payload behind is stays o none)
    by_reads (r ∷ rest) reads o = record {
      later = done ++ r ∷ [];
      effect = read_kept k t f.end done r rest (call_of_number t r.number) reads h;
      count = length-append done (r ∷ []);
    }

    by : (b : Bool) → (eqb opcode OPCODE_READ_RESPONSE && last) ≡ b → FrameKept k done (cond b (response_effect t f.end t.reads) (no_effect t)) k.received.sends (cond b 1 0)
    by true e = by_reads k.reads refl (response e)
    by false e = record { later = done; effect = same_kept_lem k done (no_effect t) refl refl refl refl k.received.sends (omega arith) h; count = omega arith }

-- ---- One event

pub frame_reads : (opened : LinkParameters) (es : List RunEvent) (k : ServerState) (outs : List Output) (f : Frame) (s : Segment) → is_hello f ≡ false → frame_segment f ≡ Ok s → server_end opened k (FrameReceived f) ≡ None → OwnMessages k f → AreNumbered 1 k.regions → ReadsAt opened es k outs
    → ReadsAt opened (es ++ FrameReceived f ∷ []) (with_effect k f (frame_effect k f)) (outs ++ effect_outputs k (frame_effect k f))
unfolding frame_effect
frame_reads opened es k outs f s behind is stays own numbered h =
    let x = frame_kept opened k h.done f s behind is stays own numbered h.kept in
    let e : FrameEffect = effect_in k f (frame_segment f) in
    let effect : EffectKept k h.done x.later e (received_after k.received s).sends = subst (λ (r : Result Segment ℕ). EffectKept k h.done x.later (effect_in k f r) (received_after k.received s).sends) (sym is) x.effect in
    let test = is_over e.calls e.reads in
    record {
      done = x.later;
      kept = record {
        calls = each_closed test f.end (x.later ++ e.reads) e.regions e.calls effect.calls;
        sinks = subst (λ (n : ℕ). SinksBelow (1 + n) (x.later ++ e.reads)) (sym (closed_length test f.end e.regions)) effect.sinks;
        owners = subst (λ (r : Result Segment ℕ). OwnersBelow (received_by k.received r).sends (regions_closed test f.end e.regions)) (sym is) (owners_closed test f.end (received_after k.received s).sends e.regions effect.owners);
      };
      requests = requests_append outs (effect_outputs k e)
          ∙ (λ i. h.requests i ++ (requests_append (message_sends (k.messages_queued + 1) e.errors) (request_outputs (k.requests_sent + 1) (newly_open_reads e))
          ∙ (λ j. requests_sends (k.messages_queued + 1) e.errors j ++ requests_reads (k.requests_sent + 1) (newly_open_reads e) j)) i)
          ∙ sym (map-append request_payload (h.done ++ take 8 k.reads) (newly_open_reads e)) ∙ ap (λ (rs : List PendingRead). map request_payload rs) (sym effect.opened);
      lasts = x.count ∙ (let l = h.lasts in let a = lasts_append es (FrameReceived f ∷ []) in let b = ap (λ (c : Bool). cond c 0 (last_of (segment_of f.bytes))) behind in let c = ap last_of (frame_read f s is) in omega (arith, l, a, b, c));
    }

quiet_reads : (opened : LinkParameters) (es : List RunEvent) (e : RunEvent) (k : ServerState) (outs more : List Output) → lasts_in (e ∷ []) ≡ 0 → requests_in more ≡ [] → ReadsAt opened es k outs → ReadsAt opened (es ++ e ∷ []) k (outs ++ more)
quiet_reads opened es e k outs more none empty h = record {
  done = h.done;
  kept = h.kept;
  requests = requests_append outs more ∙ ap (λ (ps : List (List ℕ)). requests_in outs ++ ps) empty ∙ append-nil (requests_in outs) ∙ h.requests;
  lasts = (let l = h.lasts in let a = lasts_append es (e ∷ []) in omega (arith, l, a, none));
}

pub executed_reads : (opened : LinkParameters) (es : List RunEvent) (k : ServerState) (outs : List Output) (x : Rattle.nr_reduce.specs.History.ExecutedCall) → ReadsAt opened es k outs
    → ReadsAt opened (es ++ CallExecuted x ∷ []) (server_state_after opened k (CallExecuted x)) (outs ++ answer_outputs k x.xid (offer_of k x.xid) (answer_of_call k x))
unfolding server_state_after
executed_reads opened es k outs x h =
    let q = quiet_reads opened es (CallExecuted x) k outs (answer_outputs k x.xid (offer_of k x.xid) (answer_of_call k x)) refl (requests_answer k x.xid (offer_of k x.xid) (answer_of_call k x)) h in
    record {
      done = q.done;
      kept = record { calls = each_filter (q.done ++ k.reads) k.regions (λ c. not (eqb c.xid x.xid)) k.calls q.kept.calls; sinks = q.kept.sinks; owners = q.kept.owners };
      requests = q.requests;
      lasts = q.lasts;
    }

pub other_reads : (opened : LinkParameters) (es : List RunEvent) (e : RunEvent) (k t : ServerState) (outs more : List Output) → lasts_in (e ∷ []) ≡ 0 → requests_in more ≡ [] → t.calls ≡ k.calls → t.reads ≡ k.reads → t.regions ≡ k.regions → t.received ≡ k.received → ReadsAt opened es k outs → ReadsAt opened (es ++ e ∷ []) t (outs ++ more)
other_reads opened es e k t outs more none empty calls reads regions received h =
    let q = quiet_reads opened es e k outs more none empty h in
    record {
      done = q.done;
      kept = record {
        calls = subst (λ (cs : List PendingCall). EachReads (q.done ++ t.reads) t.regions cs) (sym calls)
            (subst (λ (rs : List Region). EachReads (q.done ++ t.reads) rs k.calls) (sym regions) (subst (λ (rs : List PendingRead). EachReads (q.done ++ rs) k.regions k.calls) (sym reads) q.kept.calls));
        sinks = subst (λ (rs : List Region). SinksBelow (1 + length rs) (q.done ++ t.reads)) (sym regions) (subst (λ (rs : List PendingRead). SinksBelow (1 + length k.regions) (q.done ++ rs)) (sym reads) q.kept.sinks);
        owners = subst (λ (rs : List Region). OwnersBelow t.received.sends rs) (sym regions) (subst (λ (r : ReceiveState). OwnersBelow r.sends k.regions) (sym received) q.kept.owners);
      };
      requests = q.requests ∙ ap (λ (rs : List PendingRead). map request_payload (q.done ++ take 8 rs)) (sym reads);
      lasts = q.lasts;
    }
