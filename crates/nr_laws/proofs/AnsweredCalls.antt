-- Each message of a server answers one call that was received: the xids of the messages and those of the pending calls are distinct.
use Rattle.std.proofs.Common.{◌≡◌, ℕ, ◌+◌, ◌≤◌, ◌<◌, ◌^◌, Bool, true, false, cond, not, ◌||◌, eqb, min, List, [], ◌∷◌, ◌++◌, length, map, take, drop, filter, Option, Some, None, Ok, refl, sym, ap, ◌∙◌, arith, append-nil}
use Rattle.std.specs.List.{list_any, find, range_with_len}
use Rattle.std.proofs.lemmas.Bool.{eqb-true, eq-eqb}
use Rattle.std.proofs.lemmas.List.{map-append}
use Rattle.nr_xdr.specs.Fields.{word_at}
use Rattle.nr_wire.specs.Constants.{OPCODE_WRITE}
use Rattle.nr_wire.specs.Segment.Segment.{Tagged}
use Rattle.nr_header.specs.declared.header.RdmaSegment.{RdmaSegment}
use Rattle.nr_header.specs.declared.header.ChunkLists.{ChunkLists}
use Rattle.nr_link.specs.Frames.{Frame}
use Rattle.nr_link.specs.Output.{segment_count}
use Rattle.nr_link.specs.Ending.{frame_segment}
use Rattle.nr_reduce.specs.Plans.{one_if}
use Rattle.nr_reduce.specs.Holds.{Answer, answer_message, first_chunk, no_segments, chunk_error}
use Rattle.nr_reduce.specs.ClientState.{OutstandingCall}
use Rattle.nr_reduce.specs.ServerState.{PendingCall, PendingRead, ServerState, credit_word}
use Rattle.nr_reduce.specs.ServerReads.{regions_of, reads_of}
use Rattle.nr_reduce.specs.ServerMessages.{CallVerdict, by_payload, pending_payload, verdict}
use Rattle.nr_reduce.specs.ServerMessages.CallVerdict.{Refuses, IsReady}
use Rattle.nr_reduce.specs.ServerMessages.Verdict.{MakesPending}
use Rattle.nr_reduce.specs.ServerFrames.{FrameEffect, no_effect, with_verdict, frame_effect}
use Rattle.nr_reduce.specs.Server.{newly_open_reads, stag_named}
use Rattle.nr_laws.proofs.FrameContents.{FrameContent, effect_frames, request_frame, write_frames, answer_frames, tagged_frames, SentMessage, CompletesMessage, last_segment, send_frames, errors_frames, part_frame, last_part, last_index}
use Rattle.nr_laws.proofs.FrameContents.FrameContent.{HelloFrame, PartFrame, SendFrame, RequestFrame, TaggedFrame}
use Rattle.nr_laws.proofs.PendingSends.{verdict_new}
use Rattle.nr_laws.proofs.HeaderXid.{answer_xid, chunk_error_xid, version_error_xid}
use Rattle.nr_laws.proofs.EachEffect.{send_effect, tagged_effect_lem}

-- the xids of the messages among some frames, and how often a number is among others
abbrev pub message_xids : List FrameContent → List ℕ
message_xids [] = []
message_xids (HelloFrame ∷ ps) = message_xids ps
message_xids (PartFrame named offset payload ∷ ps) = message_xids ps
message_xids (SendFrame message ∷ ps) = word_at 0 message.bytes ∷ message_xids ps
message_xids (RequestFrame sink at size stag to ∷ ps) = message_xids ps
message_xids (TaggedFrame last opcode stag to payload ∷ ps) = message_xids ps

abbrev pub times : ℕ → List ℕ → ℕ
times x [] = 0
times x (y ∷ ys) = one_if (eqb y x) + times x ys

abbrev pub call_xids : List PendingCall → List ℕ
call_xids calls = map (λ (c : PendingCall). c.xid) calls

abbrev pub outstanding_xids : List OutstandingCall → List ℕ
outstanding_xids calls = map (λ (o : OutstandingCall). o.xid) calls

pub xids_append : (ps qs : List FrameContent) → message_xids (ps ++ qs) ≡ message_xids ps ++ message_xids qs
xids_append [] qs = refl
xids_append (HelloFrame ∷ ps) qs = xids_append ps qs
xids_append (PartFrame named offset payload ∷ ps) qs = xids_append ps qs
xids_append (SendFrame message ∷ ps) qs = ap (λ (xs : List ℕ). word_at 0 message.bytes ∷ xs) (xids_append ps qs)
xids_append (RequestFrame sink at size stag to ∷ ps) qs = xids_append ps qs
xids_append (TaggedFrame last opcode stag to payload ∷ ps) qs = xids_append ps qs

pub times_append : (x : ℕ) (xs ys : List ℕ) → times x (xs ++ ys) ≡ times x xs + times x ys
times_append x [] ys = omega arith
times_append x (y ∷ xs) ys = omega (arith, times_append x xs ys)

-- ---- What is sent

pub send_xids : (named : Option ℕ) (message : List ℕ) → message_xids (send_frames named message) ≡ word_at 0 message ∷ []
unfolding send_frames
send_xids named message = by (range_with_len 0 (last_index message))
  where
    by : (is : List ℕ) → message_xids (map (part_frame named message) is ++ SendFrame (last_part named message) ∷ []) ≡ word_at 0 message ∷ []
    by [] = refl
    by (i ∷ is) = by is

errors_xids : (messages : List (List ℕ)) → message_xids (errors_frames messages) ≡ map (λ (m : List ℕ). word_at 0 m) messages
errors_xids [] = refl
errors_xids (m ∷ messages) = xids_append (send_frames None m) (errors_frames messages) ∙ (λ i. send_xids None m i ++ errors_xids messages i)

requests_xids : (reads : List PendingRead) → message_xids (map request_frame reads) ≡ []
requests_xids [] = refl
requests_xids (r ∷ reads) = requests_xids reads

pub effect_xids : (s : FrameEffect) → message_xids (effect_frames s) ≡ map (λ (m : List ℕ). word_at 0 m) s.errors
effect_xids s =
    xids_append (errors_frames s.errors) (map request_frame (newly_open_reads s))
    ∙ (λ i. errors_xids s.errors i ++ requests_xids (newly_open_reads s) i)
    ∙ append-nil (map (λ (m : List ℕ). word_at 0 m) s.errors)

writes_none : (chunk : List RdmaSegment) (bytes : List ℕ) → message_xids (write_frames chunk bytes) ≡ []
unfolding tagged_frames
writes_none [] bytes = refl
writes_none (p ∷ chunk) bytes =
    xids_append (cond (eqb (min p.length (length bytes)) 0) [] (tagged_frames OPCODE_WRITE p.handle p.offset (take p.length bytes))) (write_frames chunk (drop p.length bytes))
    ∙ (λ i. by (eqb (min p.length (length bytes)) 0) i ++ writes_none chunk (drop p.length bytes) i)
  where
    cuts : (last : ℕ → Bool) (at : ℕ → ℕ) (payload : ℕ → List ℕ) (is : List ℕ) → message_xids (map (λ i. TaggedFrame (last i) OPCODE_WRITE p.handle (at i) (payload i)) is) ≡ []
    cuts last at payload [] = refl
    cuts last at payload (i ∷ is) = cuts last at payload is

    by : (b : Bool) → message_xids (cond b [] (tagged_frames OPCODE_WRITE p.handle p.offset (take p.length bytes))) ≡ []
    by true = refl
    by false = cuts _ _ _ (range_with_len 0 (segment_count (take p.length bytes)))

-- of an executed call: one message, of its xid
pub answer_xids : (k : ServerState) (xid : ℕ) (offer : ChunkLists) (o : Option Answer) → xid < 2 ^ 32 → message_xids (answer_frames k xid offer o) ≡ xid ∷ []
answer_xids k xid offer None lt = send_xids None (chunk_error xid (credit_word k)) ∙ ap (λ (x : ℕ). x ∷ []) (chunk_error_xid xid (credit_word k) lt)
answer_xids k xid offer (Some a) lt =
    let long = cond a.long (write_frames (no_segments offer.reply) a.stream) [] in
    let last = send_frames (stag_named k.invalidates offer) (answer_message xid (credit_word k) offer a) in
    xids_append (write_frames (first_chunk offer.write) a.moved) (long ++ last)
    ∙ (λ i. writes_none (first_chunk offer.write) a.moved i ++ (xids_append long last ∙ (λ j. by a.long j ++ send_xids (stag_named k.invalidates offer) (answer_message xid (credit_word k) offer a) j)) i)
    ∙ ap (λ (x : ℕ). x ∷ []) (answer_xid xid (credit_word k) offer a lt)
  where
    by : (b : Bool) → message_xids (cond b (write_frames (no_segments offer.reply) a.stream) []) ≡ []
    by true = writes_none (no_segments offer.reply) a.stream
    by false = refl

-- ---- Calls that are answered

kept_less : (x : ℕ) (p : PendingCall → Bool) (cs : List PendingCall) → times x (call_xids (filter p cs)) ≤ times x (call_xids cs)
kept_less x p [] = omega arith
kept_less x p (c ∷ cs) = by (p c) (kept_less x p cs)
  where
    by : (b : Bool) → times x (call_xids (filter p cs)) ≤ times x (call_xids cs) → times x (call_xids (cond b (c ∷ filter p cs) (filter p cs))) ≤ times x (call_xids (c ∷ cs))
    by true le = omega (arith, le)
    by false le = omega (arith, le)

-- a call is found by its number, and left out
removed : (x n : ℕ) (cs : List PendingCall) (c : PendingCall) → find (λ (y : PendingCall). eqb y.number n) cs ≡ Some c
    → times x (call_xids (filter (λ (y : PendingCall). not (eqb y.number c.number)) cs)) + one_if (eqb c.xid x) ≤ times x (call_xids cs)
removed x n [] c e = absurd cc
removed x n (y ∷ cs) c e = by (eqb y.number n) e (removed x n cs c)
  where
    rest : List PendingCall
    rest = filter (λ (z : PendingCall). not (eqb z.number c.number)) cs

    dropped : (b : Bool) → eqb y.number c.number ≡ b → y ≡ c → times x (call_xids (cond (not b) (y ∷ rest) rest)) + one_if (eqb c.xid x) ≤ times x (call_xids (y ∷ cs))
    dropped true is same =
        let own : one_if (eqb y.xid x) ≡ one_if (eqb c.xid x) = ap (λ (z : PendingCall). one_if (eqb z.xid x)) same in
        omega (arith, own, kept_less x (λ (z : PendingCall). not (eqb z.number c.number)) cs)
    dropped false is same = absurd (let wrong : true ≡ false = sym (eq-eqb y.number c.number (ap (λ (z : PendingCall). z.number) same)) ∙ is in cc)

    later : (b : Bool) → times x (call_xids rest) + one_if (eqb c.xid x) ≤ times x (call_xids cs) → times x (call_xids (cond (not b) (y ∷ rest) rest)) + one_if (eqb c.xid x) ≤ times x (call_xids (y ∷ cs))
    later true le = omega (arith, le)
    later false le = omega (arith, le)

    by : (b : Bool) → cond b (Some y) (find (λ (z : PendingCall). eqb z.number n) cs) ≡ Some c
        → (find (λ (z : PendingCall). eqb z.number n) cs ≡ Some c → times x (call_xids rest) + one_if (eqb c.xid x) ≤ times x (call_xids cs))
        → times x (call_xids (cond (not (eqb y.number c.number)) (y ∷ rest) rest)) + one_if (eqb c.xid x) ≤ times x (call_xids (y ∷ cs))
    by true e more = dropped (eqb y.number c.number) refl (let same : y ≡ c = cc in same)
    by false e more = later (eqb y.number c.number) (more e)

-- or by its xid
pub executed_less : (x xid : ℕ) (cs : List PendingCall) → list_any (λ (c : PendingCall). eqb c.xid xid) cs ≡ true
    → times x (call_xids (filter (λ (c : PendingCall). not (eqb c.xid xid)) cs)) + one_if (eqb xid x) ≤ times x (call_xids cs)
executed_less x xid [] e = absurd cc
executed_less x xid (c ∷ cs) e = by (eqb c.xid xid) refl e (executed_less x xid cs)
  where
    rest : List PendingCall
    rest = filter (λ (z : PendingCall). not (eqb z.xid xid)) cs

    by : (b : Bool) → eqb c.xid xid ≡ b → (b || list_any (λ (z : PendingCall). eqb z.xid xid) cs) ≡ true
        → (list_any (λ (z : PendingCall). eqb z.xid xid) cs ≡ true → times x (call_xids rest) + one_if (eqb xid x) ≤ times x (call_xids cs))
        → times x (call_xids (cond (not b) (c ∷ rest) rest)) + one_if (eqb xid x) ≤ times x (call_xids (c ∷ cs))
    by true is e more =
        let own : one_if (eqb c.xid x) ≡ one_if (eqb xid x) = ap (λ (n : ℕ). one_if (eqb n x)) (eqb-true c.xid xid is) in
        omega (arith, own, kept_less x (λ (z : PendingCall). not (eqb z.xid xid)) cs)
    by false is e more = omega (arith, more e)

-- ---- Of a frame's effect: what is answered was pending, or is new

abbrev error_xids : FrameEffect → List ℕ
error_xids s = map (λ (m : List ℕ). word_at 0 m) s.errors

abbrev pub AnswersPending : List PendingCall → (ℕ → ℕ) → FrameEffect → Type 0
AnswersPending calls new s = (x : ℕ) → times x (error_xids s) + times x (call_xids s.calls) ≤ new x + times x (call_xids calls)

pending_judged : (calls : List PendingCall) (new : ℕ → ℕ) (o : CallVerdict) (s : FrameEffect) → AnswersPending calls new s → AnswersPending calls new (with_verdict o s)
pending_judged calls new (Refuses reason) s h = h
pending_judged calls new (IsReady r) s h = h

pub pending_send : (k : ServerState) (f : Frame) (message : SentMessage) → CompletesMessage k.received message → word_at 0 message.bytes < 2 ^ 32 → frame_segment f ≡ Ok (last_segment k.received.sends message)
    → AnswersPending k.calls (λ x. one_if (eqb (word_at 0 message.bytes) x)) (frame_effect k f)
pending_send k f message completes lt is =
    send_effect k (λ m. word_at 0 m ≡ word_at 0 message.bytes) (AnswersPending k.calls new) (record {
      judged = λ t place c s h. pending_judged k.calls new (by_payload c (pending_payload t place c)) s h;
      ends = λ m reason own is x. omega arith;
      version = λ m own x. omega (arith, ap (λ (n : ℕ). one_if (eqb n x)) (version_error_xid (word_at 0 m) (word_at 4 m) (credit_word k) (omega (arith, own, lt)) ∙ own));
      chunks = λ m own x. omega (arith, ap (λ (n : ℕ). one_if (eqb n x)) (chunk_error_xid (word_at 0 m) (credit_word k) (omega (arith, own, lt)) ∙ own));
      pending = pending;
    }) f message completes refl is
  where
    new : ℕ → ℕ
    new x = one_if (eqb (word_at 0 message.bytes) x)

    pending : (place : ℕ) (m : List ℕ) (c : PendingCall) → word_at 0 m ≡ word_at 0 message.bytes → verdict k m ≡ MakesPending c
        → AnswersPending k.calls new (record (no_effect k) { calls = k.calls ++ c ∷ []; reads = k.reads ++ reads_of (k.regions ++ regions_of k place c) c; regions = k.regions ++ regions_of k place c })
    pending place m c own is x =
        let own_xid = (verdict_new k m c is).0.own ∙ own in
        omega (arith, ap (λ (xs : List ℕ). times x xs) (map-append (λ (y : PendingCall). y.xid) k.calls (c ∷ [])), times_append x (call_xids k.calls) (c.xid ∷ []), ap (λ (n : ℕ). one_if (eqb n x)) own_xid)

pub pending_tagged : (k : ServerState) (f : Frame) (last : Bool) (opcode stag to : ℕ) (payload : List ℕ) → ((n : ℕ) (c : PendingCall) → find (λ (y : PendingCall). eqb y.number n) k.calls ≡ Some c → c.xid < 2 ^ 32) → frame_segment f ≡ Ok (Tagged last opcode stag to payload)
    → AnswersPending k.calls (λ x. 0) (frame_effect k f)
pending_tagged k f last opcode stag to payload small is =
    tagged_effect_lem k (AnswersPending k.calls (λ x. 0)) (record {
      unchanged = λ x. omega arith;
      judged = λ t place c s h. pending_judged k.calls (λ x. 0) (by_payload c (pending_payload t place c)) s h;
      read = λ r reads is x. omega arith;
      refused = λ r reads c is found x. omega (arith, removed x r.number k.calls c found, ap (λ (m : ℕ). one_if (eqb m x)) (chunk_error_xid c.xid (credit_word k) (small r.number c found)));
    }) f last opcode stag to payload is
