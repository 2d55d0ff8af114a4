-- No Send is executed twice, whatever the peer sends: the number of a call stands in its reads, then among the calls that are ready,
-- and then nowhere.
use Rattle.std.proofs.Common.{◌≡◌, ◌≢◌, ℕ, ◌+◌, ◌-◌, ◌<◌, ◌≤◌, Bool, true, false, cond, not, ◌&&◌, ◌||◌, eqb, ltb, List, [], ◌∷◌, ◌++◌, length, take, drop, Option, Some, None, Result, Ok, Err, refl, sym, ap, subst, ◌∙◌, arith, append_assoc, append-nil, inl, inr}
use Rattle.std.proofs.lemmas.Bool.{eq-eqb, ne_eqb, eqb-true, cases_lt}
use Rattle.std.proofs.lemmas.List.{take-append-drop}
use Rattle.std.specs.List.{list_any, filter, find}
use Rattle.nr_header.specs.declared.header.ReadSegment.{ReadSegment}
use Rattle.nr_header.specs.declared.header.ChunkLists.{ChunkLists}
use Rattle.nr_header.specs.declared.header.Body.{Body}
use Rattle.nr_header.specs.declared.header.Body.TheVariants.{Msg, Nomsg, ErrVers, ErrChunk}
use Rattle.nr_header.specs.declared.header.Header.{Header}
use Rattle.nr_header.specs.declared.fault.HeaderFault.{HeaderFault}
use Rattle.nr_header.specs.Reading.{header_of}
use Rattle.nr_rpc.specs.declared.head.CallHead.{CallHead}
use Rattle.nr_rpc.specs.Reading.{call_of, head_xid}
use Rattle.nr_wire.specs.Constants.{OPCODE_READ_REQUEST}
use Rattle.nr_wire.specs.declared.hello.Side.TheVariants.{Responder}
use Rattle.nr_wire.specs.Segment.{Segment}
use Rattle.nr_wire.specs.Segment.Segment.{Tagged, Untagged}
use Rattle.nr_link.specs.declared.end.End.{End as Stop}
use Rattle.nr_outside.specs.declared.moment.Moment.{Moment}
use Rattle.nr_reduce.specs.declared.mark.Mark.{Mark}
use Rattle.nr_reduce.specs.declared.mark.Mark.TheVariants as marks
use Rattle.nr_reduce.specs.declared.mark.LinkParameters.{LinkParameters}
use Rattle.nr_reduce.specs.History.{ExecutedCall}
use Rattle.nr_reduce.specs.AtEachMark.{AtEachMark}
use Rattle.nr_link.specs.Frames.{Frame, is_hello}
use Rattle.nr_link.specs.ReceiveState.{ReceiveState, received_after, message_completed, is_send, send_continued, begun_bytes}
use Rattle.nr_link.specs.Ending.{frame_segment}
use Rattle.nr_reduce.specs.OfferedRegions.{Region}
use Rattle.nr_reduce.specs.Events.{RunEvent, if_own, events_at, events}
use Rattle.nr_reduce.specs.EndRules.{EndState, end_state_after, next_end_state, next_end_state_by, next_end_state_in}
use Rattle.nr_reduce.specs.Events.RunEvent.{FrameReceived, CallSubmitted, MemoryRevoked, CallExecuted, QueueWritten, ServerTold}
use Rattle.nr_reduce.specs.Plans.{one_if}
use Rattle.nr_reduce.specs.ServerState.{ServerState, ReadyCall, PendingRead, PendingCall, next_stag, is_pending}
use Rattle.nr_reduce.specs.ServerReads.{is_read, reads_of, reads_from, read_of, chunks_of, regions_of}
use Rattle.nr_reduce.specs.ServerMessages.{Verdict, CallVerdict, chunk_bytes, verdict, by_header, by_body, by_stream, by_need, has_position, no_stream, by_payload, by_head, pending_payload}
use Rattle.nr_reduce.specs.ServerFrames.{FrameEffect, no_effect, with_verdict, ready_if_whole, with_pending_call, with_refused_call, read_effect, response_effect, call_of_number, is_stream_read, tagged_effect, message_effect, by_message, with_access, effect_in, frame_effect}
use Rattle.nr_reduce.specs.Server.{with_effect, received_by, server_state_after, server_end, server_rules, initial_server, with_own_hello}
use Rattle.nr_reduce.specs.ServerMessages.Verdict.{EndsLink, OtherVersion, BadChunks, MakesPending}
use Rattle.nr_reduce.specs.ServerMessages.CallVerdict.{Refuses, IsReady}
use Rattle.nr_reduce.specs.Chunks.{is_read_chunk_of_item, total_at}
use Rattle.nr_reduce.specs.Run.{server}
use Rattle.nr_reduce.specs.Served.{ServedMark, next_call, first_ready}
use Rattle.nr_reduce.proofs.Steps.{server_one}
use Rattle.nr_reduce.proofs.Standing.{itself}
use Rattle.nr_xdr.specs.Fields.{word_at}

-- ---- How often a number stands there

abbrev pub times_ready : ℕ → List ReadyCall → ℕ
times_ready n [] = 0
times_ready n (r ∷ ready) = one_if (eqb r.number n) + times_ready n ready

abbrev pub read_for : ℕ → List PendingRead → Bool
read_for n reads = list_any (λ r. eqb r.number n) reads

abbrev pub tokens : ServerState → ℕ → ℕ
tokens k n = times_ready n k.ready + one_if (read_for n k.reads)

pub times_ready_append : (n : ℕ) (xs ys : List ReadyCall) → times_ready n (xs ++ ys) ≡ times_ready n xs + times_ready n ys
times_ready_append n [] ys = omega arith
times_ready_append n (x ∷ xs) ys = (let h = times_ready_append n xs ys in omega (arith, h))

pub times_ready_drop : (n : ℕ) (xs : List ReadyCall) → times_ready n (drop 1 xs) ≤ times_ready n xs
times_ready_drop n [] = omega arith
times_ready_drop n (x ∷ xs) = omega arith

or_assoc : (a b c : Bool) → ((a || b) || c) ≡ (a || (b || c))
or_assoc true b c = refl
or_assoc false b c = refl

reads_append : (n : ℕ) (xs ys : List PendingRead) → read_for n (xs ++ ys) ≡ (read_for n xs || read_for n ys)
reads_append n [] ys = refl
reads_append n (x ∷ xs) ys = ap (λ (b : Bool). eqb x.number n || b) (reads_append n xs ys) ∙ sym (or_assoc (eqb x.number n) (read_for n xs) (read_for n ys))

-- the reads are fewer, for every number
abbrev Fewer : List PendingRead → List PendingRead → Type 0
Fewer xs ys = (n : ℕ) → one_if (read_for n xs) ≤ one_if (read_for n ys)

or_le : (a b c : Bool) → one_if b ≤ one_if c → one_if (a || b) ≤ one_if (a || c)
or_le true b c h = omega arith
or_le false b c h = h

or_more : (a b : Bool) → one_if b ≤ one_if (a || b)
or_more true true = omega arith
or_more true false = omega arith
or_more false b = omega arith

fewer_one : (p : PendingRead → Bool) (x : PendingRead) (xs : List PendingRead) (n : ℕ) (b : Bool) → one_if (read_for n (filter p xs)) ≤ one_if (read_for n xs)
    → one_if (read_for n (cond b (x ∷ filter p xs) (filter p xs))) ≤ one_if (eqb x.number n || read_for n xs)
fewer_one p x xs n true h = or_le (eqb x.number n) (read_for n (filter p xs)) (read_for n xs) h
fewer_one p x xs n false h = (let a = or_more (eqb x.number n) (read_for n xs) in omega (arith, a, h))

fewer_filter : (p : PendingRead → Bool) (xs : List PendingRead) → Fewer (filter p xs) xs
fewer_filter p [] n = omega arith
fewer_filter p (x ∷ xs) n = fewer_one p x xs n (p x) (fewer_filter p xs n)

-- ---- A frame

-- what a step leaves of each number, ready or still read for: at most what was read for it before, and `more` of it
abbrev Adds : ServerState → FrameEffect → (ℕ → ℕ) → Type 0
Adds k s more = (n : ℕ) → times_ready n s.ready + one_if (read_for n s.reads) ≤ one_if (read_for n k.reads) + more n

abbrev none : ℕ → ℕ
none n = 0

quiet : (k : ServerState) (s : FrameEffect) → s.ready ≡ [] → s.reads ≡ k.reads → Adds k s none
quiet k s e f n = (let a = ap (λ (xs : List ReadyCall). times_ready n xs) e in let b = ap (λ (xs : List PendingRead). one_if (read_for n xs)) f in omega (arith, a, b))

if_le : (b : Bool) (x y : FrameEffect) (P : FrameEffect → Type 0) → P x → P y → P (cond b x y)
if_le true x y P p q = p
if_le false x y P p q = q

not_true : (b : Bool) → not b ≡ true → b ≡ false
not_true true e = absurd cc
not_true false e = refl

-- a call becomes ready once, when nothing of it is left to be read
pub ready_times_ready : (n number : ℕ) (o : CallVerdict) (s : FrameEffect) → s.ready ≡ [] → ((r : ReadyCall) → o ≡ IsReady r → r.number ≡ number) → times_ready n (with_verdict o s).ready ≤ one_if (eqb number n)
ready_times_ready n number (Refuses reason) s e h = (let a = ap (λ (xs : List ReadyCall). times_ready n xs) e in omega (arith, a))
ready_times_ready n number (IsReady r) s e h = (let a = ap (λ (m : ℕ). one_if (eqb m n)) (h r refl) in omega (arith, a))

same_reads_lem : (o : CallVerdict) (s : FrameEffect) → (with_verdict o s).reads ≡ s.reads
same_reads_lem (Refuses reason) s = refl
same_reads_lem (IsReady r) s = refl

head_number : (c : PendingCall) (payload : List ℕ) (h : Result CallHead ℕ) (r : ReadyCall) → by_head c payload h ≡ IsReady r → r.number ≡ c.number
head_number c payload (Err at) r e = absurd cc
head_number c payload (Ok head) r e = by (eqb (head_xid head) c.xid) e
  where
    by : (b : Bool) → cond b (IsReady (record { number = c.number; xid = c.xid; payload = payload })) (Refuses 19) ≡ IsReady r → r.number ≡ c.number
    by true e = (let s : record { number = c.number; xid = c.xid; payload = payload } ≡ r = cc in ap (λ (q : ReadyCall). q.number) (sym s))
    by false e = absurd cc

pub payload_number : (c : PendingCall) (p : Option (List ℕ)) (r : ReadyCall) → by_payload c p ≡ IsReady r → r.number ≡ c.number
payload_number c None r e = absurd cc
payload_number c (Some payload) r e = head_number c payload (call_of payload) r e

-- complete or not: the number of the call stands there at most once, and of the others what is left to be read
whole_adds : (k : ServerState) (place : ℕ) (c : PendingCall) (s : FrameEffect) (n : ℕ) → s.ready ≡ [] →
    times_ready n (ready_if_whole k place c s).ready + one_if (read_for n (ready_if_whole k place c s).reads) ≤ cond (eqb c.number n) 1 (one_if (read_for n s.reads))
whole_adds k place c s n e = by (eqb c.number n) refl (is_read s.reads c.number) refl
  where
    o : CallVerdict
    o = by_payload c (pending_payload k place c)

    small : (b : Bool) → one_if b ≤ 1
    small true = omega arith
    small false = omega arith

    idle : times_ready n s.ready ≡ 0
    idle = ap (λ (xs : List ReadyCall). times_ready n xs) e

    one : times_ready n (with_verdict o s).ready ≤ one_if (eqb c.number n)
    one = ready_times_ready n c.number o s e (payload_number c (pending_payload k place c))

    kept : read_for n (with_verdict o s).reads ≡ read_for n s.reads
    kept = ap (λ (xs : List PendingRead). read_for n xs) (same_reads_lem o s)

    by : (is : Bool) → eqb c.number n ≡ is → (b : Bool) → is_read s.reads c.number ≡ b →
        times_ready n (cond b (with_verdict o s) s).ready + one_if (read_for n (cond b (with_verdict o s) s).reads) ≤ cond is 1 (one_if (read_for n s.reads))
    by true is false whole = (let a = small (read_for n s.reads) in omega (arith, a, idle))
    by false is false whole = omega (arith, idle)
    by true is true whole =
        let none_left : read_for n s.reads ≡ false = ap (λ (m : ℕ). read_for m s.reads) (sym (eqb-true c.number n is)) ∙ not_true (read_for c.number s.reads) whole in
        let a = ap one_if (kept ∙ none_left) in
        let b = ap one_if is in
        omega (arith, one, a, b)
    by false is true whole = (let a = ap one_if kept in let b = ap one_if is in omega (arith, one, a, b))

-- ---- A response

pub found_number : (number : ℕ) (calls : List PendingCall) (c : PendingCall) → find (λ c. eqb c.number number) calls ≡ Some c → c.number ≡ number
found_number number [] c e = absurd cc
found_number number (d ∷ calls) c e = by (eqb d.number number) refl e (λ f. found_number number calls c f)
  where
    by : (b : Bool) → eqb d.number number ≡ b → cond b (Some d) (find (λ c. eqb c.number number) calls) ≡ Some c → (find (λ c. eqb c.number number) calls ≡ Some c → c.number ≡ number) → c.number ≡ number
    by true is e h = (let s : d ≡ c = (let t : Some d ≡ Some c = e in cc) in ap (λ (x : PendingCall). x.number) (sym s) ∙ eqb-true d.number number is)
    by false is e h = h e

-- one read less
abbrev less : ServerState → List PendingRead → ℕ → FrameEffect
less k reads kept = record (no_effect k) { reads = reads; kept = kept }

refused_adds : (k : ServerState) (c : PendingCall) (reads : List PendingRead) (kept n : ℕ) → times_ready n (with_refused_call k c (less k reads kept)).ready + one_if (read_for n (with_refused_call k c (less k reads kept)).reads) ≤ one_if (read_for n reads)
refused_adds k c reads kept n =
    let p : PendingRead → Bool = λ r. not (eqb r.number c.number) in
    let a = ap one_if (reads_append n (take kept reads) (filter p (drop kept reads))) in
    let b = ap one_if (ap (λ (xs : List PendingRead). read_for n xs) (sym (take-append-drop kept reads)) ∙ reads_append n (take kept reads) (drop kept reads)) in
    let h = or_le (read_for n (take kept reads)) (read_for n (filter p (drop kept reads))) (read_for n (drop kept reads)) (fewer_filter p (drop kept reads) n) in
    omega (arith, a, b, h)

read_adds : (k : ServerState) (place : ℕ) (r : PendingRead) (reads : List PendingRead) (kept : ℕ) (o : Option PendingCall) → ((c : PendingCall) → o ≡ Some c → c.number ≡ r.number) → (n : ℕ)
    → times_ready n (read_effect k place r o (less k reads kept)).ready + one_if (read_for n (read_effect k place r o (less k reads kept)).reads) ≤ one_if (eqb r.number n || read_for n reads)
read_adds k place r reads kept None h n = (let a = or_more (eqb r.number n) (read_for n reads) in omega (arith, a))
read_adds k place r reads kept (Some c) h n = by (is_stream_read c r reads && not (is_read_chunk_of_item (chunk_bytes k place c 0) c.lists.read))
  where
    more : one_if (read_for n reads) ≤ one_if (eqb r.number n || read_for n reads)
    more = or_more (eqb r.number n) (read_for n reads)

    bound : (b : Bool) → eqb c.number n ≡ b → cond b 1 (one_if (read_for n reads)) ≤ one_if (eqb r.number n || read_for n reads)
    bound true is = (let a = ap (λ (m : ℕ). one_if (eqb m n || read_for n reads)) (h c refl) in let b = ap (λ (b : Bool). one_if (b || read_for n reads)) is in omega (arith, a, b))
    bound false is = more

    by : (b : Bool) → times_ready n (cond b (with_refused_call k c (less k reads kept)) (ready_if_whole k place c (less k reads kept))).ready
        + one_if (read_for n (cond b (with_refused_call k c (less k reads kept)) (ready_if_whole k place c (less k reads kept))).reads) ≤ one_if (eqb r.number n || read_for n reads)
    by true = (let a = refused_adds k c reads kept n in omega (arith, a, more))
    by false = (let a = whole_adds k place c (less k reads kept) n refl in let b = bound (eqb c.number n) refl in omega (arith, a, b))

read_response_adds : (k : ServerState) (place : ℕ) (reads : List PendingRead) → k.reads ≡ reads → Adds k (response_effect k place reads) none
read_response_adds k place [] e n = omega arith
read_response_adds k place (r ∷ reads) e n =
    let a = read_adds k place r reads (length (take 8 k.reads) - 1) (call_of_number k r.number) (λ c is. found_number r.number k.calls c is) n in
    let b = ap (λ (xs : List PendingRead). one_if (read_for n xs)) e in
    omega (arith, a, b)

tagged_adds : (k : ServerState) (place opcode : ℕ) (last : Bool) → Adds k (tagged_effect k place opcode last) none
tagged_adds k place opcode last = if_le (eqb opcode 2 && last) (response_effect k place k.reads) (no_effect k) (λ s. Adds k s none) (read_response_adds k place k.reads refl) (quiet k (no_effect k) refl refl)

-- ---- A message

abbrev fresh : ServerState → ℕ → ℕ
fresh k n = one_if (eqb (k.received.sends + 1) n)

readings_none : (regions : List Region) (number n : ℕ) (before read : List ReadSegment) → eqb number n ≡ false → read_for n (reads_from regions number before read) ≡ false
readings_none regions number n before [] e = refl
readings_none regions number n before (r ∷ read) e =
    by (eqb r.length 0) (readings_none regions number n (before ++ r ∷ []) read e)
  where
    rest : List PendingRead
    rest = reads_from regions number (before ++ r ∷ []) read

    by : (b : Bool) → read_for n rest ≡ false → read_for n (cond b [] (read_of regions number (total_at r.position before) r ∷ []) ++ rest) ≡ false
    by true h = h
    by false h = ap (λ (b : Bool). b || read_for n rest) e ∙ h

or_false_lem : (b : Bool) → one_if (b || false) ≤ one_if b
or_false_lem true = omega arith
or_false_lem false = omega arith

opened_adds : (k : ServerState) (place : ℕ) (c : PendingCall) → c.number ≡ k.received.sends + 1 → Adds k (with_pending_call k place c (no_effect k)) (fresh k)
opened_adds k place c is n =
    let a = whole_adds k place c s n refl in
    let b = bound (eqb c.number n) refl in
    omega (arith, a, b)
  where
    regions : List Region
    regions = k.regions ++ regions_of k place c

    s : FrameEffect
    s = record (no_effect k) { calls = k.calls ++ c ∷ []; reads = k.reads ++ reads_of regions c; regions = regions }

    bound : (b : Bool) → eqb c.number n ≡ b → cond b 1 (one_if (read_for n (k.reads ++ reads_of regions c))) ≤ one_if (read_for n k.reads) + fresh k n
    bound true e = (let a = ap (λ (m : ℕ). one_if (eqb m n)) (sym is) in let b = ap one_if e in omega (arith, a, b))
    bound false e =
        let a = ap one_if (reads_append n k.reads (reads_of regions c) ∙ ap (λ (b : Bool). read_for n k.reads || b) (readings_none regions c.number n [] c.lists.read e)) in
        let b = or_false_lem (read_for n k.reads) in
        omega (arith, a, b)

-- a call that opens has the number of its Send
abbrev pub NumberIs : ℕ → Verdict → Type 0
NumberIs m (EndsLink reason) = Unit {0}
NumberIs m OtherVersion = Unit {0}
NumberIs m BadChunks = Unit {0}
NumberIs m (MakesPending c) = c.number ≡ m

if_number : (b : Bool) (x y : Verdict) (m : ℕ) → NumberIs m x → NumberIs m y → NumberIs m (cond b x y)
if_number true x y m p q = p
if_number false x y m p q = q

need_number : (k : ServerState) (c : PendingCall) (m : ℕ) → c.number ≡ m → NumberIs m (by_need k c)
need_number k c m e = if_number (ltb 4294967296 (next_stag k + length (chunks_of c.lists))) (EndsLink 30) (MakesPending c) m tt e

stream_number : (k : ServerState) (lists : ChunkLists) (xid : ℕ) (o : Option (List ℕ)) → NumberIs (k.received.sends + 1) (by_stream k lists xid o)
stream_number k lists xid None = need_number k _ (k.received.sends + 1) refl
stream_number k lists xid (Some stream) = if_number (is_read_chunk_of_item stream lists.read) _ BadChunks (k.received.sends + 1) (need_number k _ (k.received.sends + 1) refl) tt

body_number : (k : ServerState) (xid : ℕ) (message : List ℕ) (b : Body) → NumberIs (k.received.sends + 1) (by_body k xid message b)
body_number k xid message (Msg lists stream_at) = stream_number k lists xid (Some (drop stream_at message))
body_number k xid message (Nomsg lists) = if_number (has_position lists.read) _ BadChunks (k.received.sends + 1) (stream_number k lists xid (no_stream lists.read)) tt
body_number k xid message (ErrVers version low high) = tt
body_number k xid message (ErrChunk version) = tt

header_number : (k : ServerState) (message : List ℕ) (r : Result Header HeaderFault) → NumberIs (k.received.sends + 1) (by_header k message r)
header_number k message (Ok header) = body_number k header.xid message header.body
header_number k message (Err fault) = tt

pub verdict_number : (k : ServerState) (message : List ℕ) → NumberIs (k.received.sends + 1) (verdict k message)
unfolding verdict
verdict_number k message =
    if_number (not (eqb (word_at 4 message) 1)) OtherVersion _ (k.received.sends + 1) tt
    (if_number (eqb (word_at 12 message) 3 || eqb (word_at 12 message) 4) (EndsLink 17) _ (k.received.sends + 1) tt
    (if_number (is_pending k (word_at 0 message)) (EndsLink 20) _ (k.received.sends + 1) tt
    (header_number k message (header_of message))))

message_adds : (k : ServerState) (place : ℕ) (message : List ℕ) (v : Verdict) → NumberIs (k.received.sends + 1) v → Adds k (message_effect k place message v) (fresh k)
message_adds k place message (EndsLink reason) h n = omega arith
message_adds k place message OtherVersion h n = omega arith
message_adds k place message BadChunks h n = omega arith
message_adds k place message (MakesPending c) h n = opened_adds k place c h n

-- ---- What the server goes to

-- no more of the numbers that were known, and of a new Send once at most
pub record Goes (k after : ServerState) : Type 0 where
  pub rises : k.received.sends ≤ after.received.sends
  pub known : (n : ℕ) → n ≤ k.received.sends → tokens after n ≤ tokens k n
  pub new : (n : ℕ) → tokens after n ≤ tokens k n + 1
  pub beyond : (n : ℕ) → after.received.sends < n → tokens after n ≤ tokens k n

stays : (k after : ServerState) → after.received.sends ≡ k.received.sends → ((n : ℕ) → tokens after n ≤ tokens k n) → Goes k after
stays k after e h = record { rises = omega (arith, e); known = λ n le. h n; new = λ n. (let a = h n in omega (arith, a)); beyond = λ n lt. h n }

none_preserves : (k : ServerState) (f : Frame) (s : FrameEffect) → k.received.sends ≤ (received_by k.received (frame_segment f)).sends → Adds k s none → Goes k (with_effect k f s)
none_preserves k f s rises h =
    let same : (n : ℕ) → tokens (with_effect k f s) n ≤ tokens k n = λ n. (let a = h n in let b = times_ready_append n k.ready s.ready in omega (arith, a, b)) in
    record { rises = rises; known = λ n le. same n; new = λ n. (let a = same n in omega (arith, a)); beyond = λ n lt. same n }

fresh_preserved : (k : ServerState) (f : Frame) (s : FrameEffect) → (received_by k.received (frame_segment f)).sends ≡ k.received.sends + 1 → Adds k s (fresh k) → Goes k (with_effect k f s)
fresh_preserved k f s one h = record {
  rises = omega (arith, one);
  known = λ n le. (let a = h n in let b = times_ready_append n k.ready s.ready in let c = not_new n (λ e. omega (arith, e, le)) in omega (arith, a, b, c));
  new = λ n. (let a = h n in let b = times_ready_append n k.ready s.ready in let c = at_most (eqb (k.received.sends + 1) n) in omega (arith, a, b, c));
  beyond = λ n lt. (let a = h n in let b = times_ready_append n k.ready s.ready in let c = not_new n (λ e. omega (arith, e, lt, one)) in omega (arith, a, b, c));
}
  where
    not_new : (n : ℕ) → (k.received.sends + 1 ≡ n → ⊥) → fresh k n ≡ 0
    not_new n ne = ap one_if (ne_eqb (k.received.sends + 1) n ne)

    at_most : (b : Bool) → one_if b ≤ 1
    at_most true = omega arith
    at_most false = omega arith

-- what a segment adds to the Sends that are complete
pub rises_with : (h : ReceiveState) (segment : Segment) → h.sends ≤ (received_after h segment).sends
rises_with h (Tagged last opcode stag to payload) = omega arith
rises_with h (Untagged last opcode w queue msn offset payload) = by (is_send opcode) (eqb opcode OPCODE_READ_REQUEST)
  where
    on : (b : Bool) → h.sends ≤ (send_continued h b payload).sends
    on true = omega arith
    on false = omega arith

    by : (a b : Bool) → h.sends ≤ (cond a (send_continued h last payload) (cond b (record { sends = h.sends; begun = h.begun; requests = h.requests + 1 }) h)).sends
    by true b = on last
    by false true = omega arith
    by false false = omega arith

pub whole_with : (h : ReceiveState) (segment : Segment) (message : List ℕ) → message_completed h segment ≡ Some message → (received_after h segment).sends ≡ h.sends + 1
whole_with h (Tagged last opcode stag to payload) message e = absurd cc
whole_with h (Untagged last opcode w queue msn offset payload) message e = by (is_send opcode) last (eqb opcode OPCODE_READ_REQUEST) e
  where
    so : List ℕ
    so = begun_bytes h.begun ++ payload

    by : (a b c : Bool) → cond (a && b) (Some so) None ≡ Some message → (cond a (send_continued h b payload) (cond c (record { sends = h.sends; begun = h.begun; requests = h.requests + 1 }) h)).sends ≡ h.sends + 1
    by true true c e = refl
    by true false c e = absurd cc
    by false b c e = absurd cc

by_message_goes : (k : ServerState) (f : Frame) (o : Option (List ℕ)) → k.received.sends ≤ (received_by k.received (frame_segment f)).sends → ((message : List ℕ) → o ≡ Some message → (received_by k.received (frame_segment f)).sends ≡ k.received.sends + 1)
    → Goes k (with_effect k f (by_message k f.end o))
by_message_goes k f None rises h = none_preserves k f (no_effect k) rises (quiet k (no_effect k) refl refl)
by_message_goes k f (Some message) rises h = fresh_preserved k f (message_effect k f.end message (verdict k message)) (h message refl) (message_adds k f.end message (verdict k message) (verdict_number k message))

frame_goes : (k : ServerState) (f : Frame) (r : Result Segment ℕ) → frame_segment f ≡ r → Goes k (with_effect k f (effect_in k f r))
frame_goes k f (Err reason) e = none_preserves k f (no_effect k) (let a = ap (λ (q : Result Segment ℕ). (received_by k.received q).sends) e in omega (arith, a)) (quiet k (no_effect k) refl refl)
frame_goes k f (Ok (Tagged last opcode stag to payload)) e =
    let segment : Segment = Tagged last opcode stag to payload in
    none_preserves k f (tagged_effect (with_access k f segment) f.end opcode last)
    (let a = ap (λ (q : Result Segment ℕ). (received_by k.received q).sends) e in omega (arith, a))
    (tagged_adds (with_access k f segment) f.end opcode last)
frame_goes k f (Ok (Untagged last opcode w queue msn offset payload)) e =
    let segment : Segment = Untagged last opcode w queue msn offset payload in
    let same = ap (λ (q : Result Segment ℕ). (received_by k.received q).sends) e in
    let rises = rises_with k.received segment in
    by_message_goes k f (message_completed k.received segment) (omega (arith, same, rises)) (λ message is. same ∙ whole_with k.received segment message is)

frame_effect_goes : (k : ServerState) (f : Frame) → Goes k (with_effect k f (frame_effect k f))
unfolding frame_effect
frame_effect_goes k f = frame_goes k f (frame_segment f) refl

pub after_goes : (opened : LinkParameters) (k : ServerState) (event : RunEvent) → Goes k (server_state_after opened k event)
unfolding server_state_after
after_goes opened k (FrameReceived f) = by (is_hello f)
  where
    by : (b : Bool) → Goes k (cond b (with_own_hello opened k f) (with_effect k f (frame_effect k f)))
    by true = stays k _ refl (λ n. omega arith)
    by false = frame_effect_goes k f
after_goes opened k (CallSubmitted place a) = stays k k refl (λ n. omega arith)
after_goes opened k (MemoryRevoked place xid) = stays k k refl (λ n. omega arith)
after_goes opened k (CallExecuted e) = stays k _ refl (λ n. (let a = times_ready_drop n k.ready in omega (arith, a)))
after_goes opened k (QueueWritten taken) = stays k _ refl (λ n. omega arith)
after_goes opened k (ServerTold what) = stays k _ refl (λ n. omega arith)

-- ---- What holds along a run

-- each number stands there once at most, and none that isn't a Send's
pub record Sound (k : ServerState) : Type 0 where
  pub once : (n : ℕ) → tokens k n ≤ 1
  pub number_sent : (n : ℕ) → k.received.sends < n → tokens k n ≡ 0

-- a Send that is settled for good
pub record Settled (n : ℕ) (k : ServerState) : Type 0 where
  pub number_sent : n ≤ k.received.sends
  pub none : tokens k n ≡ 0

pub sound_goes : (k after : ServerState) → Goes k after → Sound k → Sound after
sound_goes k after g s = record {
  once = λ n. elim (cases_lt k.received.sends n) [
    | inl lt ↦ (let a = g.new n in let b = s.number_sent n lt in omega (arith, a, b))
    | inr le ↦ (let a = g.known n le in let b = s.once n in omega (arith, a, b))
  ];
  number_sent = λ n lt. (let a = g.beyond n lt in let r = g.rises in let b = s.number_sent n (omega (arith, r, lt)) in omega (arith, a, b));
}

pub settled_goes : (n : ℕ) (k after : ServerState) → Goes k after → Settled n k → Settled n after
settled_goes n k after g s = record {
  number_sent = (let a = s.number_sent in let r = g.rises in omega (arith, a, r));
  none = (let a = g.known n s.number_sent in let b = s.none in omega (arith, a, b));
}

-- what is kept by each event is kept by all
pub kept : (opened : LinkParameters) (P : ServerState → Type 0) → ((k after : ServerState) → Goes k after → P k → P after) → (r : EndState ServerState) (events : List RunEvent) → P r.state → P (end_state_after (server_rules opened) r events).state
kept opened P goes r [] p = p
kept opened P goes r (event ∷ events) p = kept opened P goes (next_end_state (server_rules opened) r event) events (one r.state r.ended p)
  where
    by_why : (k : ServerState) (why : Option Stop) → P k → P (next_end_state_by (server_rules opened) k event why).state
    by_why k None p = goes k (server_state_after opened k event) (after_goes opened k event) p
    by_why k (Some end) p = p

    one : (k : ServerState) (ended : Option Stop) → P k → P (next_end_state_in (server_rules opened) k event ended).state
    one k None p = by_why k (server_end opened k event) p
    one k (Some end) p = p

pub sound : (opened : LinkParameters) (link : ℕ) (run : List Mark) → Sound (server opened link run).state
unfolding server
sound opened link run = kept opened Sound sound_goes (initial_server opened) (events link Responder run) (record { once = λ n. omega arith; number_sent = λ n lt. omega arith })

settled_later : (opened : LinkParameters) (link n : ℕ) (run more : List Mark) → Settled n (server opened link run).state → Settled n (server opened link (run ++ more)).state
settled_later opened link n run [] s = subst (λ (r : List Mark). Settled n (server opened link r).state) (sym (append-nil run)) s
settled_later opened link n run (mark ∷ more) s =
    let next : Settled n (server opened link (run ++ mark ∷ [])).state =
    subst (λ (r : EndState ServerState). Settled n r.state) (sym (server_one opened link run mark)) (kept opened (Settled n) (settled_goes n) (server opened link run) (events_at link Responder run mark) s) in
    subst (λ (r : List Mark). Settled n (server opened link r).state) (append_assoc run (mark ∷ []) more) (settled_later opened link n (run ++ mark ∷ []) more next)

-- the first that is ready is executed, and is settled then
pub first_times_ready : (ready : List ReadyCall) (ended : Option Stop) (r : ReadyCall) → first_ready ready ended ≡ Some r → (ended ≡ None) × (1 ≤ times_ready r.number ready) × (times_ready r.number (drop 1 ready) + 1 ≤ times_ready r.number ready)
first_times_ready ready (Some end) r e = absurd cc
first_times_ready [] None r e = absurd cc
first_times_ready (x ∷ ready) None r e =
    let same : x ≡ r = (let s : Some x ≡ Some r = e in cc) in
    let a = ap one_if (eq-eqb x.number r.number (ap (λ (q : ReadyCall). q.number) same)) in
    (refl, omega (arith, a), omega (arith, a))

executes_one : (opened : LinkParameters) (k : ServerState) (ended : Option Stop) (e : ExecutedCall) → ended ≡ None → (next_end_state_in (server_rules opened) k (CallExecuted e) ended).state ≡ server_state_after opened k (CallExecuted e)
unfolding server_end
executes_one opened k None e is = refl
executes_one opened k (Some end) e is = absurd cc

settled_one : (opened : LinkParameters) (link : ℕ) (run : List Mark) (xid : ℕ) (moment : Moment) (payload : List ℕ) (place : ℕ) (reply : List ℕ) (r : ReadyCall) → next_call opened link run ≡ Some r
    → Settled r.number (server opened link (run ++ marks.Execute link xid moment payload place reply ∷ [])).state
unfolding next_call server_state_after
settled_one opened link run xid moment payload place reply r is =
    let k : ServerState = (server opened link run).state in
    let f = first_times_ready k.ready (server opened link run).ended r is in
    let s = sound opened link run in
    let e : ExecutedCall = record { xid = xid; moment = moment; payload = payload; place = place; reply = reply } in
    let once = s.once r.number in
    let there : Settled r.number (server_state_after opened k (CallExecuted e)) = record {
      number_sent = elim (cases_lt k.received.sends r.number) [
        | inl lt ↦ (let a = s.number_sent r.number lt in let b = f.1 in absurd (omega (arith, a, b)))
        | inr le ↦ le
      ];
      none = (let a = f.1 in let b = f.2 in omega (arith, once, a, b));
    } in
    subst (λ (q : EndState ServerState). Settled r.number q.state) (sym (server_one opened link run (marks.Execute link xid moment payload place reply)))
    (subst (λ (b : Bool). Settled r.number (end_state_after (server_rules opened) (server opened link run) (if_own (b && true) (CallExecuted e ∷ []))).state) (sym (itself link))
    (subst (λ (q : ServerState). Settled r.number q) (sym (executes_one opened k (server opened link run).ended e f.0)) there))

-- On every link: no Send is executed twice.
pub executes_once : (Relates : List ℕ → List ℕ → Type 0) (opened : LinkParameters) (link : ℕ) (run before between after : List Mark) (xid yid : ℕ) (moment now : Moment) (payload asked : List ℕ) (place later : ℕ) (reply answer : List ℕ) →
    run ≡ before ++ marks.Execute link xid moment payload place reply ∷ (between ++ marks.Execute link yid now asked later answer ∷ after) → AtEachMark (ServedMark Relates opened link) [] run
    → (first second : ReadyCall) → next_call opened link before ≡ Some first → next_call opened link (before ++ marks.Execute link xid moment payload place reply ∷ between) ≡ Some second → first.number ≢ second.number
unfolding next_call
executes_once Relates opened link run before between after xid yid moment now payload asked place later reply answer is h first second one two same =
    let mark = marks.Execute link xid moment payload place reply in
    let run2 : List Mark = before ++ mark ∷ between in
    let s : Settled first.number (server opened link run2).state =
    subst (λ (r : List Mark). Settled first.number (server opened link r).state) (append_assoc before (mark ∷ []) between)
    (settled_later opened link first.number (before ++ mark ∷ []) between (settled_one opened link before xid moment payload place reply first one)) in
    let t = first_times_ready (server opened link run2).state.ready (server opened link run2).ended second two in
    let a = t.1 in
    let none = s.none in
    let b = ap (λ (n : ℕ). times_ready n (server opened link run2).state.ready) same in
    omega (arith, a, b, none)
