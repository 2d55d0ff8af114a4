-- The payload of an executed call is what a message that was received conveys: each pending call came from a message, and each call
-- that is ready was conveyed by one.
use Rattle.std.proofs.Common.{◌≡◌, ℕ, ◌+◌, Bool, true, false, cond, not, ◌&&◌, ◌||◌, eqb, ltb, List, [], ◌∷◌, ◌++◌, length, drop, Option, Some, None, Result, Ok, Err, refl, sym, ap, subst, ◌∙◌, append_assoc, append-nil, inl, inr}
use Rattle.std.specs.List.{filter, find}
use Rattle.nr_header.specs.declared.header.ChunkLists.{ChunkLists}
use Rattle.nr_header.specs.declared.header.Body.{Body}
use Rattle.nr_header.specs.declared.header.Body.TheVariants.{Msg, Nomsg, ErrVers, ErrChunk}
use Rattle.nr_header.specs.declared.header.Header.{Header}
use Rattle.nr_header.specs.declared.fault.HeaderFault.{HeaderFault}
use Rattle.nr_header.specs.Reading.{header_of}
use Rattle.nr_wire.specs.declared.hello.Side.TheVariants.{Responder}
use Rattle.nr_wire.specs.Segment.{Segment}
use Rattle.nr_wire.specs.Segment.Segment.{Tagged, Untagged}
use Rattle.nr_link.specs.declared.end.End.{End as Stop}
use Rattle.nr_link.specs.Frames.{Frame, is_hello}
use Rattle.nr_link.specs.ReceiveState.{message_completed}
use Rattle.nr_link.specs.Ending.{frame_segment}
use Rattle.nr_reduce.specs.declared.mark.Mark.{Mark}
use Rattle.nr_reduce.specs.declared.mark.LinkParameters.{LinkParameters}
use Rattle.nr_reduce.specs.Events.{RunEvent, events}
use Rattle.nr_reduce.specs.Events.RunEvent.{FrameReceived, CallSubmitted, MemoryRevoked, CallExecuted, QueueWritten, ServerTold}
use Rattle.nr_reduce.specs.EndRules.{EndState, end_state_after, next_end_state_by, next_end_state_in}
use Rattle.nr_reduce.specs.ServerState.{ServerState, ReadyCall, PendingRead, PendingCall, next_stag, is_pending}
use Rattle.nr_reduce.specs.ServerReads.{is_read, chunks_of}
use Rattle.nr_reduce.specs.ServerMessages.{Verdict, CallVerdict, chunk_bytes, verdict, by_header, by_body, by_stream, by_need, has_position, no_stream, by_payload, pending_payload}
use Rattle.nr_reduce.specs.ServerMessages.Verdict.{EndsLink, OtherVersion, BadChunks, MakesPending}
use Rattle.nr_reduce.specs.ServerMessages.CallVerdict.{Refuses, IsReady}
use Rattle.nr_reduce.specs.ServerFrames.{FrameEffect, no_effect, with_verdict, ready_if_whole, with_refused_call, read_effect, response_effect, call_of_number, is_stream_read, message_effect, by_message, with_access, effect_by, effect_in, frame_effect}
use Rattle.nr_reduce.specs.Chunks.{is_read_chunk_of_item}
use Rattle.nr_reduce.specs.Server.{with_effect, server_state_after, server_end, server_rules, initial_server, with_own_hello}
use Rattle.nr_reduce.specs.Run.{server}
use Rattle.nr_reduce.specs.Served.{IsExecuted, next_call, first_ready}
use Rattle.nr_reduce.specs.ChunkBytes.{lists_by}
use Rattle.nr_reduce.specs.RunLaws.{known_stream, IsCallOf, server_by, IsReceivedCall, WasConveyed}
use Rattle.nr_reduce.proofs.Steps.{end_state_after_append}
use Rattle.nr_reduce.proofs.ReadyCalls.{AllConveyed, conveyed_by}
use Rattle.nr_xdr.specs.Fields.{word_at}

-- ---- The call of a message

abbrev Made : (PendingCall → Type 0) → Verdict → Type 0
Made P (EndsLink reason) = Unit {0}
Made P OtherVersion = Unit {0}
Made P BadChunks = Unit {0}
Made P (MakesPending c) = P c

made_if : (P : PendingCall → Type 0) (b : Bool) (x y : Verdict) → Made P x → Made P y → Made P (cond b x y)
made_if P true x y p q = p
made_if P false x y p q = q

made_need : (P : PendingCall → Type 0) (k : ServerState) (c : PendingCall) → P c → Made P (by_need k c)
made_need P k c p = made_if P (ltb 4294967296 (next_stag k + length (chunks_of c.lists))) (EndsLink 30) (MakesPending c) tt p

-- the call that a message of this header makes pending
record OfHeader (k : ServerState) (message : List ℕ) (r : Result Header HeaderFault) (c : PendingCall) : Type 0 where
  pub header : Header
  pub is : r ≡ Ok header
  pub number : c.number ≡ k.received.sends + 1
  pub xid : c.xid ≡ header.xid
  pub lists : c.lists ≡ lists_by header.body
  pub stream : c.inline ≡ known_stream message header.body

made_stream : (P : PendingCall → Type 0) (k : ServerState) (lists : ChunkLists) (xid : ℕ) (o : Option (List ℕ)) → P (record { number = k.received.sends + 1; xid = xid; lists = lists; inline = o }) → Made P (by_stream k lists xid o)
made_stream P k lists xid None p = made_need P k _ p
made_stream P k lists xid (Some stream) p = made_if P (is_read_chunk_of_item stream lists.read) _ BadChunks (made_need P k _ p) tt

made_body : (P : PendingCall → Type 0) (k : ServerState) (xid : ℕ) (message : List ℕ) (b : Body) → P (record { number = k.received.sends + 1; xid = xid; lists = lists_by b; inline = known_stream message b }) → Made P (by_body k xid message b)
made_body P k xid message (Msg lists stream_at) p = made_stream P k lists xid (Some (drop stream_at message)) p
made_body P k xid message (Nomsg lists) p = made_if P (has_position lists.read) _ BadChunks (made_stream P k lists xid (no_stream lists.read) p) tt
made_body P k xid message (ErrVers version low high) p = tt
made_body P k xid message (ErrChunk version) p = tt

made_header : (k : ServerState) (message : List ℕ) (r : Result Header HeaderFault) → Made (OfHeader k message r) (by_header k message r)
made_header k message (Err fault) = tt
made_header k message (Ok header) = made_body (OfHeader k message (Ok header)) k header.xid message header.body (record { header = header; is = refl; number = refl; xid = refl; lists = refl; stream = refl })

made_verdict : (k : ServerState) (message : List ℕ) → Made (OfHeader k message (header_of message)) (verdict k message)
unfolding verdict
made_verdict k message =
    let P : PendingCall → Type 0 = OfHeader k message (header_of message) in
    made_if P (not (eqb (word_at 4 message) 1)) OtherVersion _ tt
    (made_if P (eqb (word_at 12 message) 3 || eqb (word_at 12 message) 4) (EndsLink 17) _ tt
    (made_if P (is_pending k (word_at 0 message)) (EndsLink 20) _ tt (made_header k message (header_of message))))

-- ---- All of a list

abbrev pub Each : {X : Type 0} → (X → Type 0) → List X → Type 0
Each P [] = Unit {0}
Each P (x ∷ xs) = P x × Each P xs

pub each_append : {X : Type 0} (P : X → Type 0) (xs ys : List X) → Each P xs → Each P ys → Each P (xs ++ ys)
each_append P [] ys h g = g
each_append P (x ∷ xs) ys h g = (h.0, each_append P xs ys h.1 g)

each_with : {X : Type 0} (P Q : X → Type 0) → ((x : X) → P x → Q x) → (xs : List X) → Each P xs → Each Q xs
each_with P Q f [] h = tt
each_with P Q f (x ∷ xs) h = (f x h.0, each_with P Q f xs h.1)

each_keep : {X : Type 0} (P : X → Type 0) (b : Bool) (x : X) (xs : List X) → P x → Each P xs → Each P (cond b (x ∷ xs) xs)
each_keep P true x xs p h = (p, h)
each_keep P false x xs p h = h

each_filter : {X : Type 0} (P : X → Type 0) (p : X → Bool) (xs : List X) → Each P xs → Each P (filter p xs)
each_filter P p [] h = tt
each_filter P p (x ∷ xs) h = each_keep P (p x) x (filter p xs) h.0 (each_filter P p xs h.1)

pub each_drop : {X : Type 0} (P : X → Type 0) (xs : List X) → Each P xs → Each P (drop 1 xs)
each_drop P [] h = tt
each_drop P (x ∷ xs) h = h.1

pub each_found : (P : PendingCall → Type 0) (number : ℕ) (calls : List PendingCall) (c : PendingCall) → Each P calls → find (λ c. eqb c.number number) calls ≡ Some c → P c
each_found P number [] c h e = absurd cc
each_found P number (d ∷ calls) c h e = by (eqb d.number number) e (λ f. each_found P number calls c h.1 f)
  where
    by : (b : Bool) → cond b (Some d) (find (λ c. eqb c.number number) calls) ≡ Some c → (find (λ c. eqb c.number number) calls ≡ Some c → P c) → P c
    by true e more = subst P (let t : Some d ≡ Some c = e in cc) h.0
    by false e more = more e

-- ---- What a frame leaves pending

calls_if : (P : PendingCall → Type 0) (b : Bool) (s t : FrameEffect) → Each P s.calls → Each P t.calls → Each P (cond b s t).calls
calls_if P true s t h g = h
calls_if P false s t h g = g

calls_verdict : (P : PendingCall → Type 0) (o : CallVerdict) (s : FrameEffect) → Each P s.calls → Each P (with_verdict o s).calls
calls_verdict P (Refuses reason) s h = h
calls_verdict P (IsReady r) s h = h

calls_whole : (P : PendingCall → Type 0) (k : ServerState) (place : ℕ) (c : PendingCall) (s : FrameEffect) → Each P s.calls → Each P (ready_if_whole k place c s).calls
calls_whole P k place c s h = calls_if P (is_read s.reads c.number) (with_verdict (by_payload c (pending_payload k place c)) s) s (calls_verdict P (by_payload c (pending_payload k place c)) s h) h

calls_read : (P : PendingCall → Type 0) (k : ServerState) (place : ℕ) (r : PendingRead) (o : Option PendingCall) (s : FrameEffect) → Each P s.calls → Each P (read_effect k place r o s).calls
calls_read P k place r None s h = h
calls_read P k place r (Some c) s h =
    calls_if P (is_stream_read c r s.reads && not (is_read_chunk_of_item (chunk_bytes k place c 0) c.lists.read)) (with_refused_call k c s) (ready_if_whole k place c s)
    (each_filter P (λ d. not (eqb d.number c.number)) s.calls h) (calls_whole P k place c s h)

calls_response : (P : PendingCall → Type 0) (k : ServerState) (place : ℕ) (reads : List PendingRead) → Each P k.calls → Each P (response_effect k place reads).calls
calls_response P k place [] h = h
calls_response P k place (r ∷ reads) h = calls_read P k place r (call_of_number k r.number) _ h

calls_message : (P : PendingCall → Type 0) (k : ServerState) (place : ℕ) (message : List ℕ) (v : Verdict) → Each P k.calls → Made P v → Each P (message_effect k place message v).calls
calls_message P k place message (EndsLink reason) h m = h
calls_message P k place message OtherVersion h m = h
calls_message P k place message BadChunks h m = h
calls_message P k place message (MakesPending c) h m = calls_whole P k place c _ (each_append P k.calls (c ∷ []) h (m, tt))

calls_by_message : (P : PendingCall → Type 0) (k : ServerState) (place : ℕ) (o : Option (List ℕ)) → Each P k.calls → ((message : List ℕ) → o ≡ Some message → Made P (verdict k message)) → Each P (by_message k place o).calls
calls_by_message P k place None h m = h
calls_by_message P k place (Some message) h m = calls_message P k place message (verdict k message) h (m message refl)

calls_by : (P : PendingCall → Type 0) (k : ServerState) (f : Frame) (segment : Segment) → Each P k.calls → ((message : List ℕ) → message_completed k.received segment ≡ Some message → Made P (verdict k message)) → Each P (effect_by k f segment).calls
calls_by P k f (Tagged last opcode stag to payload) h m =
    let t : ServerState = with_access k f (Tagged last opcode stag to payload) in
    calls_if P (eqb opcode 2 && last) (response_effect t f.end t.reads) (no_effect t) (calls_response P t f.end t.reads h) h
calls_by P k f (Untagged last opcode w queue msn offset payload) h m = calls_by_message P k f.end (message_completed k.received (Untagged last opcode w queue msn offset payload)) h m

-- ---- Along the events

-- one event more
call_later : (opened : LinkParameters) (es : List RunEvent) (event : RunEvent) (c : PendingCall) → IsReceivedCall opened es c → IsReceivedCall opened (es ++ event ∷ []) c
call_later opened es event c h = record {
  earlier = h.earlier;
  later = h.later ++ event ∷ [];
  frame = h.frame;
  segment = h.segment;
  message = h.message;
  header = h.header;
  is_received = ap (λ (all : List RunEvent). all ++ event ∷ []) h.is_received ∙ append_assoc h.earlier (FrameReceived h.frame ∷ h.later) (event ∷ []);
  behind_hello = h.behind_hello;
  is_segment = h.is_segment;
  whole = h.whole;
  is_header = h.is_header;
  number = h.number;
  xid = h.xid;
  lists = h.lists;
  stream = h.stream;
}

ready_later : (opened : LinkParameters) (es : List RunEvent) (event : RunEvent) (r : ReadyCall) → WasConveyed opened es r → WasConveyed opened (es ++ event ∷ []) r
ready_later opened es event r h = record {
  earlier = h.earlier;
  later = h.later ++ event ∷ [];
  frame = h.frame;
  segment = h.segment;
  call = h.call;
  is_received = ap (λ (all : List RunEvent). all ++ event ∷ []) h.is_received ∙ append_assoc h.earlier (FrameReceived h.frame ∷ h.later) (event ∷ []);
  behind_hello = h.behind_hello;
  is_segment = h.is_segment;
  own = h.own;
  payload = h.payload;
  number = h.number;
  xid = h.xid;
}

pub record Known (opened : LinkParameters) (es : List RunEvent) (k : ServerState) : Type 0 where
  pub calls : Each (IsReceivedCall opened es) k.calls
  pub ready : Each (WasConveyed opened es) k.ready

known_later : (opened : LinkParameters) (es : List RunEvent) (event : RunEvent) (k : ServerState) → Known opened es k → Known opened (es ++ event ∷ []) k
known_later opened es event k h = record {
  calls = each_with (IsReceivedCall opened es) (IsReceivedCall opened (es ++ event ∷ [])) (call_later opened es event) k.calls h.calls;
  ready = each_with (WasConveyed opened es) (WasConveyed opened (es ++ event ∷ [])) (ready_later opened es event) k.ready h.ready;
}

-- the call of the message that a frame completes
made_now : (opened : LinkParameters) (es : List RunEvent) (f : Frame) (segment : Segment) (message : List ℕ) → is_hello f ≡ false → frame_segment f ≡ Ok segment → message_completed (server_by opened es).received segment ≡ Some message
    → (v : Verdict) → Made (OfHeader (server_by opened es) message (header_of message)) v → Made (IsReceivedCall opened (es ++ FrameReceived f ∷ [])) v
made_now opened es f segment message behind is whole (EndsLink reason) m = tt
made_now opened es f segment message behind is whole OtherVersion m = tt
made_now opened es f segment message behind is whole BadChunks m = tt
made_now opened es f segment message behind is whole (MakesPending c) m = record {
  earlier = es;
  later = [];
  frame = f;
  segment = segment;
  message = message;
  header = m.header;
  is_received = refl;
  behind_hello = behind;
  is_segment = is;
  whole = whole;
  is_header = m.is;
  number = m.number;
  xid = m.xid;
  lists = m.lists;
  stream = m.stream;
}

call_of_lem : (opened : LinkParameters) (es : List RunEvent) (f : Frame) (segment : Segment) (c : PendingCall) → is_hello f ≡ false → frame_segment f ≡ Ok segment → Each (IsReceivedCall opened es) (server_by opened es).calls
    → IsCallOf (server_by opened es) segment c → IsReceivedCall opened (es ++ FrameReceived f ∷ []) c
call_of_lem opened es f segment c behind is h (inl (number, e)) = call_later opened es (FrameReceived f) c (each_found (IsReceivedCall opened es) number (server_by opened es).calls c h e)
call_of_lem opened es f segment c behind is h (inr (message, (whole, e))) =
    subst (λ (v : Verdict). Made (IsReceivedCall opened (es ++ FrameReceived f ∷ [])) v) e
    (made_now opened es f segment message behind is whole (verdict (server_by opened es) message) (made_verdict (server_by opened es) message))

ready_now : (opened : LinkParameters) (es : List RunEvent) (f : Frame) (segment : Segment) (ready : List ReadyCall) → is_hello f ≡ false → frame_segment f ≡ Ok segment → Each (IsReceivedCall opened es) (server_by opened es).calls
    → AllConveyed (with_access (server_by opened es) f segment) f.end (IsCallOf (server_by opened es) segment) ready → Each (WasConveyed opened (es ++ FrameReceived f ∷ [])) ready
ready_now opened es f segment [] behind is h all = tt
ready_now opened es f segment (r ∷ ready) behind is h all = (
  record {
    earlier = es;
    later = [];
    frame = f;
    segment = segment;
    call = all.0.call;
    is_received = refl;
    behind_hello = behind;
    is_segment = is;
    own = call_of_lem opened es f segment all.0.call behind is h all.0.own;
    payload = all.0.payload;
    number = all.0.number;
    xid = all.0.xid;
  },
  ready_now opened es f segment ready behind is h all.1,
)

effect_known : (opened : LinkParameters) (es : List RunEvent) (f : Frame) (r : Result Segment ℕ) → is_hello f ≡ false → frame_segment f ≡ r → Known opened es (server_by opened es)
    → Known opened (es ++ FrameReceived f ∷ []) (with_effect (server_by opened es) f (effect_in (server_by opened es) f r))
effect_known opened es f (Err reason) behind is h = (let g = known_later opened es (FrameReceived f) (server_by opened es) h in record { calls = g.calls; ready = each_append _ (server_by opened es).ready [] g.ready tt })
effect_known opened es f (Ok segment) behind is h =
    let k : ServerState = server_by opened es in
    let g = known_later opened es (FrameReceived f) k h in
    record {
      calls = calls_by (IsReceivedCall opened (es ++ FrameReceived f ∷ [])) k f segment g.calls
          (λ message whole. made_now opened es f segment message behind is whole (verdict k message) (made_verdict k message));
      ready = each_append (WasConveyed opened (es ++ FrameReceived f ∷ [])) k.ready (effect_by k f segment).ready g.ready
          (ready_now opened es f segment (effect_by k f segment).ready behind is h.calls (conveyed_by k f segment));
    }

after_known : (opened : LinkParameters) (es : List RunEvent) (event : RunEvent) → Known opened es (server_by opened es) → Known opened (es ++ event ∷ []) (server_state_after opened (server_by opened es) event)
unfolding server_state_after frame_effect
after_known opened es (FrameReceived f) h = by (is_hello f) refl
  where
    k : ServerState
    k = server_by opened es

    by : (b : Bool) → is_hello f ≡ b → Known opened (es ++ FrameReceived f ∷ []) (cond b (with_own_hello opened k f) (with_effect k f (effect_in k f (frame_segment f))))
    by true is = (let g = known_later opened es (FrameReceived f) k h in record { calls = g.calls; ready = g.ready })
    by false is = effect_known opened es f (frame_segment f) is refl h
after_known opened es (CallSubmitted place a) h = known_later opened es (CallSubmitted place a) (server_by opened es) h
after_known opened es (MemoryRevoked place xid) h = known_later opened es (MemoryRevoked place xid) (server_by opened es) h
after_known opened es (CallExecuted e) h =
    let k : ServerState = server_by opened es in
    let g = known_later opened es (CallExecuted e) k h in
    record {
      calls = each_filter (IsReceivedCall opened (es ++ CallExecuted e ∷ [])) (λ c. not (eqb c.xid e.xid)) k.calls g.calls;
      ready = each_drop (WasConveyed opened (es ++ CallExecuted e ∷ [])) k.ready g.ready;
    }
after_known opened es (QueueWritten taken) h = (let g = known_later opened es (QueueWritten taken) (server_by opened es) h in record { calls = g.calls; ready = g.ready })
after_known opened es (ServerTold what) h = (let g = known_later opened es (ServerTold what) (server_by opened es) h in record { calls = g.calls; ready = g.ready })

next_known : (opened : LinkParameters) (es : List RunEvent) (event : RunEvent) → Known opened es (server_by opened es) → Known opened (es ++ event ∷ []) (server_by opened (es ++ event ∷ []))
next_known opened es event h =
    subst (λ (r : EndState ServerState). Known opened (es ++ event ∷ []) r.state) (sym (end_state_after_append (server_rules opened) (initial_server opened) es (event ∷ [])))
    (one (end_state_after (server_rules opened) (initial_server opened) es).ended)
  where
    k : ServerState
    k = server_by opened es

    by_why : (why : Option Stop) → Known opened (es ++ event ∷ []) (next_end_state_by (server_rules opened) k event why).state
    by_why None = after_known opened es event h
    by_why (Some end) = known_later opened es event k h

    one : (ended : Option Stop) → Known opened (es ++ event ∷ []) (next_end_state_in (server_rules opened) k event ended).state
    one None = by_why (server_end opened k event)
    one (Some end) = known_later opened es event k h

pub known_from : (opened : LinkParameters) (es more : List RunEvent) → Known opened es (server_by opened es) → Known opened (es ++ more) (server_by opened (es ++ more))
known_from opened es [] h = subst (λ (all : List RunEvent). Known opened all (server_by opened all)) (sym (append-nil es)) h
known_from opened es (event ∷ more) h =
    subst (λ (all : List RunEvent). Known opened all (server_by opened all)) (append_assoc es (event ∷ []) more) (known_from opened (es ++ event ∷ []) more (next_known opened es event h))

first_conveyed : (opened : LinkParameters) (es : List RunEvent) (ready : List ReadyCall) (ended : Option Stop) (r : ReadyCall) → Each (WasConveyed opened es) ready → first_ready ready ended ≡ Some r → WasConveyed opened es r
first_conveyed opened es ready (Some end) r h e = absurd cc
first_conveyed opened es [] None r h e = absurd cc
first_conveyed opened es (x ∷ ready) None r h e = subst (WasConveyed opened es) (let s : Some x ≡ Some r = e in cc) h.0

pub payload_conveyed : (opened : LinkParameters) (link : ℕ) (before : List Mark) (xid : ℕ) (payload : List ℕ) → (h : IsExecuted opened link before xid payload) →
    WasConveyed opened (events link Responder before) (record { number = h.call.number; xid = xid; payload = payload })
unfolding next_call server
payload_conveyed opened link before xid payload h =
    let es : List RunEvent = events link Responder before in
    let r : EndState ServerState = server opened link before in
    let known : Known opened es (server_by opened es) = known_from opened [] es (record { calls = tt; ready = tt }) in
    let was : WasConveyed opened es h.call = first_conveyed opened es r.state.ready r.ended h.call known.ready h.is_next in
    let same : h.call ≡ record { number = h.call.number; xid = xid; payload = payload } = (λ i. record { number = h.call.number; xid = sym h.own i; payload = sym h.conveyed i }) in
    subst (WasConveyed opened es) same was
