-- A client owes few Read Responses, and a server uses no more receives than it granted, whatever the peer sends.
use Rattle.std.proofs.Common.{◌≡◌, ℕ, suc, ◌+◌, ◌≤◌, ◌<◌, Bool, true, false, not, cond, ◌&&◌, ◌||◌, eqb, ltb, leb, List, [], ◌∷◌, ◌++◌, length, Option, None, Some, Result, Ok, Err, refl, sym, ap, subst, ◌∙◌, arith, append_assoc, append-nil, length-append, inl, inr, ◌⊎◌, lt-ltb, eqb-true}
use Rattle.std.specs.List.{filter, find, list_any}
use Rattle.std.proofs.lemmas.Bool.{leb-false, ltb-true}
use Rattle.std.proofs.lemmas.List.{length-take}
use Rattle.nr_wire.specs.declared.hello.Side.TheVariants.{Initiator, Responder}
use Rattle.nr_wire.specs.Constants.{OPCODE_READ_REQUEST}
use Rattle.nr_wire.specs.Hello.{hello_of}
use Rattle.nr_wire.specs.Segment.{Segment}
use Rattle.nr_wire.specs.Segment.Segment.{Tagged, Untagged}
use Rattle.nr_regions.specs.declared.denied.Denied.{Denied}
use Rattle.nr_link.specs.declared.end.End.{End as Stop}
use Rattle.nr_link.specs.declared.end.End.TheVariants as ends_as
use Rattle.nr_link.specs.Limits.{open_reads_max}
use Rattle.nr_link.specs.Reasons.{REASON_MSN, REASON_OFFSET, REASON_FORM, REASON_REQUESTS, REASON_SHORT, REASON_LONG}
use Rattle.nr_link.specs.Frames.{Frame, is_hello}
use Rattle.nr_link.specs.ReceiveState.{ReceiveState, ReadRequest, is_send, begun_bytes, send_continued, received_after, message_completed, read_request_in, read_request_of}
use Rattle.nr_link.specs.SegmentFaults.{Readiness, SegmentReason, segment_reason, reason_if, next_msn, next_offset, is_begun, no_buffer, is_malformed, missing_fault, is_too_many, message_length_is, terminate_fault}
use Rattle.nr_link.specs.SegmentFaults.SegmentReason.{NoBuffer}
use Rattle.nr_link.specs.Ending.{frame_segment, frame_end, frame_end_by, hello_end, missing_access}
use Rattle.nr_reduce.specs.declared.mark.Mark.{Mark}
use Rattle.nr_reduce.specs.declared.mark.LinkParameters.{LinkParameters}
use Rattle.nr_reduce.specs.History.{AcceptedCall, ExecutedCall}
use Rattle.nr_reduce.specs.Plans.{one_if}
use Rattle.nr_reduce.specs.Written.{ends_waiting}
use Rattle.nr_reduce.specs.declared.mark.Told.{Told}
use Rattle.nr_reduce.specs.Events.{RunEvent, events}
use Rattle.nr_reduce.specs.Events.RunEvent.{FrameReceived, CallSubmitted, MemoryRevoked, CallExecuted, QueueWritten, ServerTold}
use Rattle.nr_reduce.specs.EndRules.{EndState, next_end_state, next_end_state_by, next_end_state_in, end_state_after}
use Rattle.nr_reduce.specs.OfferedRegions.{Region, region_grants}
use Rattle.nr_reduce.specs.ClientState.{ClientState, responses_owed}
use Rattle.nr_reduce.specs.Client.{client_segment, client_rules, client_end, client_state_after, initial_client, with_hello, with_message, with_request, with_segment, due_with_response}
use Rattle.nr_reduce.specs.ServerState.{ServerState, PendingCall, receives_in_use}
use Rattle.nr_reduce.specs.ServerReads.{is_read, reads_of, regions_of}
use Rattle.nr_reduce.specs.ServerMessages.{CallVerdict, Verdict, by_payload, pending_payload, verdict}
use Rattle.nr_reduce.specs.ServerMessages.CallVerdict.{Refuses, IsReady}
use Rattle.nr_reduce.specs.ServerMessages.Verdict.{EndsLink, OtherVersion, BadChunks, MakesPending}
use Rattle.nr_reduce.specs.ServerFrames.{FrameEffect, frame_effect, no_effect, with_verdict, ready_if_whole, message_effect, with_refused_call, with_access, call_of_number}
use Rattle.nr_reduce.specs.Server.{server_rules, server_end, server_state_after, initial_server, server_readiness, or_refusal, received_by, with_effect, with_own_hello, send_ends_from, execution_output}
use Rattle.nr_reduce.specs.RunLaws.{server_by, ends_response}
use Rattle.nr_reduce.specs.Served.{ServedSoFar}
use Rattle.nr_reduce.specs.Run.{client, server}
use Rattle.nr_reduce.proofs.Touches.{AreNone, all_none, no_flaw}
use Rattle.nr_reduce.proofs.Steps.{end_state_after_append}
use Rattle.nr_laws.specs.Typed.{IsTyped}
use Rattle.nr_laws.specs.Bounds.{ClientOwesFewResponses, ServerReadsFew, ServerUsesItsReceives}
use Rattle.nr_laws.proofs.ClientSays.{client_has_no_fault, no_reason}
use Rattle.nr_laws.proofs.EachEffect.{EffectCase, effect_case, read_over}
use Rattle.nr_laws.proofs.EachEffect.EffectCase.{Unchanged, OfMessage, OfRead, OfRefusal, OfCall}
use Rattle.nr_laws.proofs.EndsWaiting.{waiting_append, sends_length}
use Rattle.nr_laws.proofs.PendingRuns.{executes_pending}

-- ---- What an untagged segment that breaks no rule passes

record Passes (r : Readiness Denied) (opcode msn : ℕ) : Type 0 where
  buffer : no_buffer r (is_send opcode) msn ≡ None
  requests : is_too_many r opcode ≡ false

passes : (r : Readiness Denied) (last : Bool) (opcode w queue msn offset : ℕ) (payload : List ℕ) → segment_reason r (Untagged last opcode w queue msn offset payload) ≡ None → Passes r opcode msn
unfolding segment_reason
passes r last opcode w queue msn offset payload e =
    let message : Option (List ℕ) = message_completed r.received (Untagged last opcode w queue msn offset payload) in
    let flaws : List (Option (SegmentReason Denied)) =
    reason_if REASON_MSN (not (eqb msn (next_msn r.received queue)))
    ∷ reason_if REASON_OFFSET (not (eqb offset (next_offset r.received queue)))
    ∷ no_buffer r (is_send opcode) msn
    ∷ reason_if REASON_FORM (is_malformed opcode last payload)
    ∷ missing_fault r.missing
    ∷ reason_if REASON_REQUESTS (is_too_many r opcode)
    ∷ reason_if REASON_LONG (message_length_is (ltb r.message_max) message)
    ∷ reason_if REASON_SHORT (message_length_is (λ n. ltb n 16) message)
    ∷ terminate_fault opcode payload
    ∷ [] in
    let all : AreNone flaws = all_none flaws e in
    record { buffer = all.1.1.0; requests = no_reason REASON_REQUESTS (is_too_many r opcode) all.1.1.1.1.1.0 }

-- ---- Ends that wait

filter_most : {X : Type 0} (p : X → Bool) (xs : List X) → length (filter p xs) ≤ length xs
filter_most p [] = omega arith
filter_most p (x ∷ xs) = by (p x) (filter_most p xs)
  where
    by : (b : Bool) → length (filter p xs) ≤ length xs → length (cond b (x ∷ filter p xs) (filter p xs)) ≤ suc (length xs)
    by true h = omega (arith, h)
    by false h = omega (arith, h)

waiting_later : (w t : ℕ) (ends : List ℕ) → ends_waiting (w + t) ends ≤ ends_waiting w ends
waiting_later w t [] = omega arith
waiting_later w t (e ∷ ends) = by (ltb (w + t) e) refl (ltb w e) refl (waiting_later w t ends)
  where
    by : (a : Bool) → ltb (w + t) e ≡ a → (b : Bool) → ltb w e ≡ b → ends_waiting (w + t) ends ≤ ends_waiting w ends
        → length (cond a (e ∷ filter (ltb (w + t)) ends) (filter (ltb (w + t)) ends)) ≤ length (cond b (e ∷ filter (ltb w) ends) (filter (ltb w) ends))
    by true p true q h = omega (arith, h)
    by false p true q h = omega (arith, h)
    by false p false q h = h
    by true p false q h =
        let far = ltb-true (w + t) e p in
        let near : ltb w e ≡ true = lt-ltb w e (omega (arith, far)) in
        absurd (let wrong : true ≡ false = sym near ∙ q in cc)

waiting_most : (w : ℕ) (ends : List ℕ) → ends_waiting w ends ≤ length ends
waiting_most w ends = filter_most (ltb w) ends

waiting_more : (w n : ℕ) (xs ys : List ℕ) → length ys ≡ n → ends_waiting w (xs ++ ys) ≤ ends_waiting w xs + n
waiting_more w n xs ys is = (let a = waiting_append w xs ys in let b = waiting_most w ys in omega (arith, a, b, is))

-- ---- A client

message_owes : (k : ClientState) (place : ℕ) (o : Option (List ℕ)) → responses_owed (with_message k place o) ≡ responses_owed k
message_owes k place None = refl
message_owes k place (Some message) = refl

few_owed : (k : ClientState) (f : Frame) (s : Segment) → is_hello f ≡ false → client_segment k f ≡ Ok s → client_end k (FrameReceived f) ≡ None → (q : ReadRequest) → read_request_of s ≡ Some q → responses_owed k < open_reads_max
few_owed k f (Tagged last opcode stag to payload) behind is stays q asks = absurd (let wrong : None ≡ Some q = asks in cc)
few_owed k f (Untagged last opcode w queue msn offset payload) behind is stays q asks =
    by (eqb opcode OPCODE_READ_REQUEST) refl asks (passes _ last opcode w queue msn offset payload (client_has_no_fault k f (Untagged last opcode w queue msn offset payload) behind is stays)).requests
  where
    by : (b : Bool) → eqb opcode OPCODE_READ_REQUEST ≡ b → cond b (Some (read_request_in payload)) None ≡ Some q → (eqb opcode OPCODE_READ_REQUEST && leb open_reads_max (responses_owed k)) ≡ false → responses_owed k < open_reads_max
    by false own e few = absurd (let wrong : None ≡ Some q = e in cc)
    by true own e few = leb-false open_reads_max (responses_owed k) (ap (λ (b : Bool). b && leb open_reads_max (responses_owed k)) (sym own) ∙ few)

owes_request : (m : ClientState) (due : ℕ) (o : Option ReadRequest) → (o ≡ None → responses_owed m ≤ open_reads_max) → ((q : ReadRequest) → o ≡ Some q → responses_owed m < open_reads_max) → responses_owed (with_request m due o) ≤ open_reads_max
owes_request m due None h few = h refl
owes_request m due (Some q) h few = (let a = few q refl in let b = waiting_more m.written 1 m.response_ends (due ∷ []) refl in omega (arith, a, b))

owes_event : (opened : LinkParameters) (k : ClientState) (e : RunEvent) → client_end k e ≡ None → responses_owed k ≤ open_reads_max → responses_owed (client_state_after opened k e) ≤ open_reads_max
unfolding client_state_after
owes_event opened k (FrameReceived f) stays h = by (is_hello f) refl
  where
    by_segment : is_hello f ≡ false → (r : Result Segment ℕ) → client_segment k f ≡ r → responses_owed (with_segment k f r) ≤ open_reads_max
    by_segment behind (Err reason) is = h
    by_segment behind (Ok s) is =
        let m : ClientState = with_message k f.end (message_completed k.received s) in
        let same = message_owes k f.end (message_completed k.received s) in
        owes_request m (due_with_response k f s) (read_request_of s) (λ none. omega (arith, same, h)) (λ q asks. (let few = few_owed k f s behind is stays q asks in omega (arith, same, few)))

    by : (b : Bool) → is_hello f ≡ b → responses_owed (cond b (with_hello opened k f) (with_segment k f (client_segment k f))) ≤ open_reads_max
    by true behind = h
    by false behind = by_segment behind (client_segment k f) refl
owes_event opened k (CallSubmitted p a) stays h = h
owes_event opened k (MemoryRevoked p xid) stays h = h
owes_event opened k (CallExecuted e) stays h = h
owes_event opened k (QueueWritten taken) stays h = (let less = waiting_later k.written taken k.response_ends in omega (arith, less, h))
owes_event opened k (ServerTold what) stays h = h

owes_all : (opened : LinkParameters) (r : EndState ClientState) (es : List RunEvent) → responses_owed r.state ≤ open_reads_max → responses_owed (end_state_after (client_rules opened) r es).state ≤ open_reads_max
owes_all opened r [] h = h
owes_all opened r (e ∷ es) h = owes_all opened (next_end_state (client_rules opened) r e) es (by_end r.ended)
  where
    by_why : (o : Option Stop) → client_end r.state e ≡ o → responses_owed (next_end_state_by (client_rules opened) r.state e o).state ≤ open_reads_max
    by_why None is = owes_event opened r.state e is h
    by_why (Some end) is = h

    by_end : (o : Option Stop) → responses_owed (next_end_state_in (client_rules opened) r.state e o).state ≤ open_reads_max
    by_end None = by_why (client_end r.state e) refl
    by_end (Some end) = h

pub client_owes_few_responses : ClientOwesFewResponses
unfolding client
client_owes_few_responses opened link run = owes_all opened (initial_client opened) (events link Initiator run) (omega arith)

-- ---- A server

pub server_reads_few : ServerReadsFew
server_reads_few opened link run = (let l = length-take open_reads_max (server opened link run).state.reads in omega (arith, l))

verdict_same : (v : CallVerdict) (s : FrameEffect) → ((with_verdict v s).calls ≡ s.calls) × ((with_verdict v s).errors ≡ s.errors)
verdict_same (Refuses reason) s = (refl, refl)
verdict_same (IsReady r) s = (refl, refl)

pub whole_same : (k : ServerState) (place : ℕ) (c : PendingCall) (s : FrameEffect) → ((ready_if_whole k place c s).calls ≡ s.calls) × ((ready_if_whole k place c s).errors ≡ s.errors)
whole_same k place c s = by (is_read s.reads c.number)
  where
    by : (b : Bool) → ((cond b (with_verdict (by_payload c (pending_payload k place c)) s) s).calls ≡ s.calls) × ((cond b (with_verdict (by_payload c (pending_payload k place c)) s) s).errors ≡ s.errors)
    by true = verdict_same (by_payload c (pending_payload k place c)) s
    by false = (refl, refl)

-- the pending calls and error messages of an effect
abbrev pub uses : FrameEffect → ℕ
uses e = length e.calls + length e.errors

message_uses : (k : ServerState) (place : ℕ) (message : List ℕ) (v : Verdict) → uses (message_effect k place message v) ≤ length k.calls + 1
message_uses k place message (EndsLink reason) = omega arith
message_uses k place message OtherVersion = omega arith
message_uses k place message BadChunks = omega arith
message_uses k place message (MakesPending c) =
    let regions : List Region = k.regions ++ regions_of k place c in
    let e : FrameEffect = record (no_effect k) { calls = k.calls ++ c ∷ []; reads = k.reads ++ reads_of regions c; regions = regions } in
    let w = whole_same k place c e in
    let a = ap (λ (cs : List PendingCall). length cs) w.0 in
    let b = ap (λ (es : List (List ℕ)). length es) w.1 in
    let l = length-append k.calls (c ∷ []) in
    omega (arith, a, b, l)

found_less : {X : Type 0} (p : X → Bool) (xs : List X) (x : X) → find p xs ≡ Some x → length (filter (λ y. not (p y)) xs) + 1 ≤ length xs
found_less {X} p [] x e = absurd (let wrong : None ≡ Some x = e in cc)
found_less {X} p (y ∷ xs) x e = by (p y) e (λ h. found_less p xs x h)
  where
    rest : List X
    rest = filter (λ y. not (p y)) xs

    by : (b : Bool) → cond b (Some y) (find p xs) ≡ Some x → (find p xs ≡ Some x → length rest + 1 ≤ length xs) → length (cond (not b) (y ∷ rest) rest) + 1 ≤ suc (length xs)
    by true e more = (let most = filter_most (λ y. not (p y)) xs in omega (arith, most))
    by false e more = (let h = more e in omega (arith, h))

any_less : {X : Type 0} (p : X → Bool) (xs : List X) → list_any p xs ≡ true → length (filter (λ y. not (p y)) xs) + 1 ≤ length xs
any_less {X} p [] e = absurd (let wrong : false ≡ true = e in cc)
any_less {X} p (y ∷ xs) e = by (p y) e (λ h. any_less p xs h)
  where
    rest : List X
    rest = filter (λ y. not (p y)) xs

    by : (b : Bool) → (b || list_any p xs) ≡ true → (list_any p xs ≡ true → length rest + 1 ≤ length xs) → length (cond (not b) (y ∷ rest) rest) + 1 ≤ suc (length xs)
    by true e more = (let most = filter_most (λ y. not (p y)) xs in omega (arith, most))
    by false e more = (let h = more e in omega (arith, h))

-- ---- A frame at a server

server_unharmed : (opened : LinkParameters) (k : ServerState) (f : Frame) (segment : Segment) → is_hello f ≡ false → frame_segment f ≡ Ok segment → server_end opened k (FrameReceived f) ≡ None
    → segment_reason (server_readiness opened k (missing_access (region_grants f.end k.regions) f segment)) segment ≡ None
unfolding server_end frame_end
server_unharmed opened k f segment behind is e =
    let others : or_refusal k f (frame_end (server_readiness opened k) (region_grants f.end k.regions) f) ≡ None =
    ap (λ (b : Bool). cond b (hello_end (hello_of Initiator f.bytes)) (or_refusal k f (frame_end (server_readiness opened k) (region_grants f.end k.regions) f))) (sym behind) ∙ e in
    let none : frame_end (server_readiness opened k) (region_grants f.end k.regions) f ≡ None = by_end (frame_end (server_readiness opened k) (region_grants f.end k.regions) f) others in
    no_flaw f segment _ (ap (λ (r : Result Segment ℕ). frame_end_by (server_readiness opened k) (region_grants f.end k.regions) f r) (sym is) ∙ none)
  where
    by_end : (o : Option Stop) → or_refusal k f o ≡ None → o ≡ None
    by_end None e = refl
    by_end (Some end) e = absurd (let wrong : Some end ≡ None = e in cc)

-- the receives of pending calls and of a Send that is begun, after the segment of a frame, with the errors that are due
abbrev begun_one : ReceiveState → ℕ
begun_one h = one_if (is_begun h.begun)

-- no more than before; or one more, if a receive was left for a Send
abbrev Keeps : ServerState → (granted : ℕ) → ReceiveState → FrameEffect → Type 0
Keeps k granted h e = (uses e + begun_one h ≤ length k.calls + begun_one k.received) ⊎ ((receives_in_use k < granted) × (uses e + begun_one h ≤ length k.calls + 1) × (is_begun k.received.begun ≡ false))

receive_left : (k : ServerState) (granted msn : ℕ) (r : Readiness Denied) → r.received ≡ k.received → r.has_receive ≡ ltb (receives_in_use k) granted → no_buffer r true msn ≡ None → is_begun k.received.begun ≡ false → receives_in_use k < granted
receive_left k granted msn r own free none not_begun = by (ltb (receives_in_use k) granted) refl
  where
    without : Bool → Option (SegmentReason Denied)
    without b = cond b None (Some (NoBuffer msn))

    passed : without (is_begun k.received.begun || r.has_receive) ≡ None
    passed = ap (λ (h : ReceiveState). without (is_begun h.begun || r.has_receive)) (sym own) ∙ none

    fails : without false ≡ None → ⊥
    fails e = cc

    by : (b : Bool) → ltb (receives_in_use k) granted ≡ b → receives_in_use k < granted
    by true is = ltb-true (receives_in_use k) granted is
    by false is = (let p : r.has_receive ≡ false = free ∙ is in absurd (fails (sym (λ i. without (not_begun i || p i)) ∙ passed)))

pub found_number : (n : ℕ) (calls : List PendingCall) (c : PendingCall) → find (λ c. eqb c.number n) calls ≡ Some c → c.number ≡ n
found_number n [] c e = absurd (let wrong : None ≡ Some c = e in cc)
found_number n (x ∷ calls) c e = by (eqb x.number n) refl e (λ h. found_number n calls c h)
  where
    by : (b : Bool) → eqb x.number n ≡ b → cond b (Some x) (find (λ c. eqb c.number n) calls) ≡ Some c → (find (λ c. eqb c.number n) calls ≡ Some c → c.number ≡ n) → c.number ≡ n
    by true is e more = (let same : x ≡ c = (let t : Some x ≡ Some c = e in cc) in ap (λ (q : PendingCall). q.number) (sym same) ∙ eqb-true x.number n is)
    by false is e more = more e

refused_uses : (k : ServerState) (n : ℕ) (c : PendingCall) (s : FrameEffect) → s.calls ≡ k.calls → call_of_number k n ≡ Some c → uses (with_refused_call k c s) ≤ length k.calls
refused_uses k n c s same found =
    let number = found_number n k.calls c found in
    let less = found_less (λ (x : PendingCall). eqb x.number n) k.calls c found in
    let kept : length (filter (λ (x : PendingCall). not (eqb x.number c.number)) s.calls) ≡ length (filter (λ (x : PendingCall). not (eqb x.number n)) k.calls) = (λ i. length (filter (λ (x : PendingCall). not (eqb x.number (number i))) (same i))) in
    omega (arith, less, kept)

tagged_uses : (k : ServerState) (f : Frame) (s : Segment) (e : FrameEffect) → message_completed k.received s ≡ None → EffectCase k f s e → uses e ≤ length k.calls
tagged_uses k f s e none (Unchanged is) = (let u = ap (λ (x : FrameEffect). uses x) is in omega (arith, u))
tagged_uses k f s e none (OfMessage m whole is) = absurd (let wrong : None ≡ Some m = sym none ∙ whole in cc)
tagged_uses k f s e none (OfRead r reads last reads_are is) = (let u = ap (λ (x : FrameEffect). uses x) is in omega (arith, u))
tagged_uses k f s e none (OfRefusal r reads c last reads_are found test is) = (let u = ap (λ (x : FrameEffect). uses x) is in let less = refused_uses k r.number c (read_over k reads) refl found in omega (arith, u, less))
tagged_uses k f s e none (OfCall r reads c last reads_are found is) =
    let u = ap (λ (x : FrameEffect). uses x) is in
    let w = whole_same (with_access k f s) f.end c (read_over k reads) in
    let a = ap (λ (cs : List PendingCall). length cs) w.0 in
    let b = ap (λ (es : List (List ℕ)). length es) w.1 in
    omega (arith, u, a, b)

untagged_uses : (k : ServerState) (f : Frame) (s : Segment) (e : FrameEffect) → ends_response s ≡ false → EffectCase k f s e → uses e ≤ length k.calls + 1
untagged_uses k f s e none (Unchanged is) = (let u = ap (λ (x : FrameEffect). uses x) is in omega (arith, u))
untagged_uses k f s e none (OfMessage m whole is) = (let u = ap (λ (x : FrameEffect). uses x) is in let most = message_uses k f.end m (verdict k m) in omega (arith, u, most))
untagged_uses k f s e none (OfRead r reads last reads_are is) = absurd (let wrong : false ≡ true = sym none ∙ last in cc)
untagged_uses k f s e none (OfRefusal r reads c last reads_are found test is) = absurd (let wrong : false ≡ true = sym none ∙ last in cc)
untagged_uses k f s e none (OfCall r reads c last reads_are found is) = absurd (let wrong : false ≡ true = sym none ∙ last in cc)

keeps_send : (opened : LinkParameters) (k : ServerState) (h : ReceiveState) (e : FrameEffect) → (uses e + begun_one h ≤ length k.calls + 1) → (is_begun k.received.begun ≡ false → receives_in_use k < opened.receives) → Keeps k opened.receives h e
keeps_send opened k h e most left = by (is_begun k.received.begun) refl
  where
    by : (b : Bool) → is_begun k.received.begun ≡ b → Keeps k opened.receives h e
    by true begun = (let one = ap one_if begun in inl (omega (arith, one, most)))
    by false begun = inr (left begun, most, begun)

frame_keeps : (opened : LinkParameters) (k : ServerState) (f : Frame) (s : Segment) → is_hello f ≡ false → frame_segment f ≡ Ok s → server_end opened k (FrameReceived f) ≡ None → Keeps k opened.receives (received_after k.received s) (frame_effect k f)
frame_keeps opened k f (Tagged last opcode stag to payload) behind is stays =
    (let u = tagged_uses k f (Tagged last opcode stag to payload) (frame_effect k f) refl (effect_case k f (Tagged last opcode stag to payload) is) in inl (omega (arith, u)))
frame_keeps opened k f (Untagged last opcode w queue msn offset payload) behind is stays = by (is_send opcode) refl
  where
    r : Readiness Denied
    r = server_readiness opened k (missing_access (region_grants f.end k.regions) f (Untagged last opcode w queue msn offset payload))

    case : EffectCase k f (Untagged last opcode w queue msn offset payload) (frame_effect k f)
    case = effect_case k f (Untagged last opcode w queue msn offset payload) is

    pass : Passes r opcode msn
    pass = passes r last opcode w queue msn offset payload (server_unharmed opened k f (Untagged last opcode w queue msn offset payload) behind is stays)

    others : Bool → ReceiveState
    others b = cond b (record { sends = k.received.sends; begun = k.received.begun; requests = k.received.requests + 1 }) k.received

    by_other : (b : Bool) → begun_one (others b) ≡ begun_one k.received
    by_other true = refl
    by_other false = refl

    after : (b : Bool) → is_send opcode ≡ b → begun_one (received_after k.received (Untagged last opcode w queue msn offset payload)) ≡ begun_one (cond b (send_continued k.received last payload) (others (eqb opcode OPCODE_READ_REQUEST)))
    after b own = ap (λ (x : Bool). begun_one (cond x (send_continued k.received last payload) (others (eqb opcode OPCODE_READ_REQUEST)))) own

    part : is_send opcode ≡ true → last ≡ false → message_completed k.received (Untagged last opcode w queue msn offset payload) ≡ None
    part own more = (λ i. cond (own i && more i) (Some (begun_bytes k.received.begun ++ payload)) None)

    by_last : is_send opcode ≡ true → (b : Bool) → last ≡ b → uses (frame_effect k f) + begun_one (received_after k.received (Untagged last opcode w queue msn offset payload)) ≤ length k.calls + 1
    by_last own true ends =
        let most = untagged_uses k f (Untagged last opcode w queue msn offset payload) (frame_effect k f) refl case in
        let none : begun_one (received_after k.received (Untagged last opcode w queue msn offset payload)) ≡ 0 = after true own ∙ ap (λ (x : Bool). begun_one (send_continued k.received x payload)) ends in
        omega (arith, most, none)
    by_last own false ends =
        let most = tagged_uses k f (Untagged last opcode w queue msn offset payload) (frame_effect k f) (part own ends) case in
        let one : begun_one (received_after k.received (Untagged last opcode w queue msn offset payload)) ≡ 1 = after true own ∙ ap (λ (x : Bool). begun_one (send_continued k.received x payload)) ends in
        omega (arith, most, one)

    by : (b : Bool) → is_send opcode ≡ b → Keeps k opened.receives (received_after k.received (Untagged last opcode w queue msn offset payload)) (frame_effect k f)
    by true own = keeps_send opened k (received_after k.received (Untagged last opcode w queue msn offset payload)) (frame_effect k f) (by_last own last refl)
        (λ not_begun. receive_left k opened.receives msn r refl refl (ap (λ (b : Bool). no_buffer r b msn) (sym own) ∙ pass.buffer) not_begun)
    by false own =
        let none : message_completed k.received (Untagged last opcode w queue msn offset payload) ≡ None = ap (λ (b : Bool). cond (b && last) (Some (begun_bytes k.received.begun ++ payload)) None) own in
        let most = tagged_uses k f (Untagged last opcode w queue msn offset payload) (frame_effect k f) none case in
        let same = after false own ∙ by_other (eqb opcode OPCODE_READ_REQUEST) in
        inl (omega (arith, most, same))

-- ---- Each event of a server

effect_receives : (granted : ℕ) (k : ServerState) (f : Frame) (s : Segment) (e : FrameEffect) → frame_segment f ≡ Ok s → Keeps k granted (received_after k.received s) e → receives_in_use k ≤ granted → receives_in_use (with_effect k f e) ≤ granted
unfolding receives_in_use
effect_receives granted k f s e is keeps h = by keeps
  where
    ends : List ℕ
    ends = send_ends_from k.due (k.messages_queued + 1) e.errors

    begun : one_if (is_begun (received_by k.received (frame_segment f)).begun) ≡ begun_one (received_after k.received s)
    begun = ap (λ (r : Result Segment ℕ). one_if (is_begun (received_by k.received r).begun)) is

    by : Keeps k granted (received_after k.received s) e → length e.calls + one_if (is_begun (received_by k.received (frame_segment f)).begun) + ends_waiting k.written (k.message_ends ++ ends) ≤ granted
    by (inl less) = (let more = waiting_more k.written (length e.errors) k.message_ends ends (sends_length k.due (k.messages_queued + 1) e.errors) in omega (arith, less, more, begun, h))
    by (inr (left, most, not_begun)) = (let more = waiting_more k.written (length e.errors) k.message_ends ends (sends_length k.due (k.messages_queued + 1) e.errors) in let none = ap one_if not_begun in omega (arith, left, most, more, begun, none))

executed_receives : (granted : ℕ) (opened : LinkParameters) (k : ServerState) (e : ExecutedCall) → list_any (λ (c : PendingCall). eqb c.xid e.xid) k.calls ≡ true → receives_in_use k ≤ granted → receives_in_use (server_state_after opened k (CallExecuted e)) ≤ granted
unfolding receives_in_use server_state_after
executed_receives granted opened k e pending h =
    let less = any_less (λ (c : PendingCall). eqb c.xid e.xid) k.calls pending in
    let more = waiting_more k.written 1 k.message_ends ((k.due + length (execution_output k e)) ∷ []) refl in
    omega (arith, less, more, h)

written_receives : (granted : ℕ) (opened : LinkParameters) (k : ServerState) (taken : ℕ) → receives_in_use k ≤ granted → receives_in_use (server_state_after opened k (QueueWritten taken)) ≤ granted
unfolding receives_in_use server_state_after
written_receives granted opened k taken h = (let less = waiting_later k.written taken k.message_ends in omega (arith, less, h))

-- a frame that is no segment ends the server
pub wrong_frame : (opened : LinkParameters) (k : ServerState) (f : Frame) (reason : ℕ) → is_hello f ≡ false → frame_segment f ≡ Err reason → server_end opened k (FrameReceived f) ≡ None → ⊥
unfolding server_end frame_end
wrong_frame opened k f reason behind is e =
    let ends : or_refusal k f (frame_end_by (server_readiness opened k) (region_grants f.end k.regions) f (frame_segment f)) ≡ None =
    ap (λ (b : Bool). cond b (hello_end (hello_of Initiator f.bytes)) (or_refusal k f (frame_end_by (server_readiness opened k) (region_grants f.end k.regions) f (frame_segment f)))) (sym behind) ∙ e in
    let wrong : Some (ends_as.Bad f.at reason) ≡ None = ap (λ (r : Result Segment ℕ). or_refusal k f (frame_end_by (server_readiness opened k) (region_grants f.end k.regions) f r)) (sym is) ∙ ends in cc

quiet_submitted : (opened : LinkParameters) (k : ServerState) (p : ℕ) (a : AcceptedCall) → receives_in_use k ≤ opened.receives → receives_in_use (server_state_after opened k (CallSubmitted p a)) ≤ opened.receives
unfolding server_state_after
quiet_submitted opened k p a h = h

quiet_revoked : (opened : LinkParameters) (k : ServerState) (p xid : ℕ) → receives_in_use k ≤ opened.receives → receives_in_use (server_state_after opened k (MemoryRevoked p xid)) ≤ opened.receives
unfolding server_state_after
quiet_revoked opened k p xid h = h

quiet_told : (opened : LinkParameters) (k : ServerState) (what : Told) → receives_in_use k ≤ opened.receives → receives_in_use (server_state_after opened k (ServerTold what)) ≤ opened.receives
unfolding server_state_after receives_in_use
quiet_told opened k what h = h

frame_receives : (opened : LinkParameters) (k : ServerState) (f : Frame) → server_end opened k (FrameReceived f) ≡ None → receives_in_use k ≤ opened.receives → receives_in_use (server_state_after opened k (FrameReceived f)) ≤ opened.receives
unfolding server_state_after receives_in_use
frame_receives opened k f stays h = by (is_hello f) refl
  where
    refused : (reason : ℕ) → is_hello f ≡ false → frame_segment f ≡ Err reason → ⊥
    refused reason behind is = wrong_frame opened k f reason behind is stays

    by_segment : is_hello f ≡ false → (r : Result Segment ℕ) → frame_segment f ≡ r → receives_in_use (with_effect k f (frame_effect k f)) ≤ opened.receives
    by_segment behind (Err reason) is = absurd (refused reason behind is)
    by_segment behind (Ok s) is = effect_receives opened.receives k f s (frame_effect k f) is (frame_keeps opened k f s behind is stays) h

    by : (b : Bool) → is_hello f ≡ b → receives_in_use (cond b (with_own_hello opened k f) (with_effect k f (frame_effect k f))) ≤ opened.receives
    by true behind = h
    by false behind = by_segment behind (frame_segment f) refl

server_step : (opened : LinkParameters) (k : ServerState) (event : RunEvent) → server_end opened k event ≡ None → ((e : ExecutedCall) → event ≡ CallExecuted e → list_any (λ (c : PendingCall). eqb c.xid e.xid) k.calls ≡ true)
    → receives_in_use k ≤ opened.receives → receives_in_use (server_state_after opened k event) ≤ opened.receives
server_step opened k (FrameReceived f) stays pending h = frame_receives opened k f stays h
server_step opened k (CallSubmitted p a) stays pending h = quiet_submitted opened k p a h
server_step opened k (MemoryRevoked p xid) stays pending h = quiet_revoked opened k p xid h
server_step opened k (CallExecuted e) stays pending h = executed_receives opened.receives opened k e (pending e refl) h
server_step opened k (QueueWritten taken) stays pending h = written_receives opened.receives opened k taken h
server_step opened k (ServerTold what) stays pending h = quiet_told opened k what h

server_next : (opened : LinkParameters) (r : EndState ServerState) (event : RunEvent) → ((e : ExecutedCall) → event ≡ CallExecuted e → list_any (λ (c : PendingCall). eqb c.xid e.xid) r.state.calls ≡ true)
    → receives_in_use r.state ≤ opened.receives → receives_in_use (next_end_state (server_rules opened) r event).state ≤ opened.receives
server_next opened r event pending h = by_end r.ended
  where
    by_why : (o : Option Stop) → server_end opened r.state event ≡ o → receives_in_use (next_end_state_by (server_rules opened) r.state event o).state ≤ opened.receives
    by_why None is = server_step opened r.state event is pending h
    by_why (Some end) is = h

    by_end : (o : Option Stop) → receives_in_use (next_end_state_in (server_rules opened) r.state event o).state ≤ opened.receives
    by_end None = by_why (server_end opened r.state event) refl
    by_end (Some end) = h

server_all : (opened : LinkParameters) (link : ℕ) (run : List Mark) → IsTyped run → ServedSoFar opened link run → (more es : List RunEvent) → events link Responder run ≡ es ++ more → receives_in_use (server_by opened es) ≤ opened.receives
    → receives_in_use (server_by opened (es ++ more)) ≤ opened.receives
server_all opened link run typed served [] es is h = subst (λ (xs : List RunEvent). receives_in_use (server_by opened xs) ≤ opened.receives) (sym (append-nil es)) h
server_all opened link run typed served (event ∷ more) es is h =
    let next : receives_in_use (server_by opened (es ++ event ∷ [])) ≤ opened.receives =
    subst (λ (r : EndState ServerState). receives_in_use r.state ≤ opened.receives) (sym (end_state_after_append (server_rules opened) (initial_server opened) es (event ∷ [])))
    (server_next opened (end_state_after (server_rules opened) (initial_server opened) es) event
    (λ e own. executes_pending opened link run typed served es e more (is ∙ ap (λ (x : RunEvent). es ++ x ∷ more) own)) h) in
    subst (λ (xs : List RunEvent). receives_in_use (server_by opened xs) ≤ opened.receives) (append_assoc es (event ∷ []) more)
    (server_all opened link run typed served more (es ++ event ∷ []) (is ∙ sym (append_assoc es (event ∷ []) more)) next)

none_in_use : (opened : LinkParameters) → receives_in_use (server_by opened []) ≤ opened.receives
unfolding receives_in_use
none_in_use opened = omega arith

pub server_uses_its_receives : ServerUsesItsReceives
unfolding server
server_uses_its_receives opened link run typed served = server_all opened link run typed served (events link Responder run) [] refl (none_in_use opened)
