-- The side of the link after a frame that doesn't end it.
use Rattle.std.proofs.Common.{◌≡◌, ◌≢◌, ℕ, ◌+◌, ◌-◌, ◌<◌, ◌≤◌, Bool, true, false, cond, not, ◌&&◌, eqb, ltb, List, [], ◌∷◌, ◌++◌, length, map, Option, None, Some, Ok, refl, sym, ap, subst, ◌∙◌, arith, append_assoc, length-append}
use Rattle.std.specs.Prelude.{option_and_then, IfSome}
use Rattle.std.proofs.lemmas.List.{append-nil}
use Rattle.std.proofs.lemmas.Bool.{ne_eqb}
use Rattle.nr_wire.specs.Constants.{OPCODE_READ_REQUEST, OPCODE_READ_RESPONSE}
use Rattle.nr_wire.specs.Segment.{Segment}
use Rattle.nr_wire.specs.Segment.Segment.{Tagged, Untagged}
use Rattle.nr_regions.specs.declared.denied.Denied.{Denied}
use Rattle.nr_regions.specs.declared.right.Right.TheVariants.{Fetch}
use Rattle.nr_regions.specs.RegisteredMemory.{RegisteredMemory, denial, right_for, after_place, bytes_at}
use Rattle.nr_link.specs.Reasons.{REASON_RESPONSE, REASON_MSN, REASON_OFFSET, REASON_FORM, REASON_REQUESTS, REASON_LONG, REASON_SHORT}
use Rattle.nr_link.specs.Frames.{Frame}
use Rattle.nr_link.specs.Output.{msn_word, read_response}
use Rattle.nr_link.specs.ReceiveState.{ReceiveState, ReadRequest, is_send, received_after, message_completed, stag_invalidated, read_request_in, read_request_of}
use Rattle.nr_link.specs.SegmentFaults.{ExpectedResponse, Readiness, SegmentReason, segment_reason, first_fault, missing_fault, reason_if, is_expected, is_unexpected, next_msn, next_offset, no_buffer, is_malformed, is_too_many, message_length_is, terminate_fault}
use Rattle.nr_link.specs.Ending.{kind_of}
use Rattle.nr_endpoint.specs.Hellos.{receive_length_for}
use Rattle.nr_endpoint.specs.LinkState.{LinkState}
use Rattle.nr_endpoint.specs.SendQueue.{SendQueue, writable}
use Rattle.nr_endpoint.specs.ReceiveQueue.{sends_begun, takes_receive, message_deliveries, with_segment as received_segment, delivered, posted}
use Rattle.nr_endpoint.specs.Judging.{with_effect, with_read_response, after_frame, segment_end, readiness, missing_access, with_read_request, fetch_access, expected_response}
use Rattle.nr_endpoint.proofs.Queued.{response_some}
use Rattle.nr_reduce.specs.declared.mark.LinkParameters.{LinkParameters}
use Rattle.nr_reduce.specs.ClientState.{ClientState, WaitingCall}
use Rattle.nr_reduce.specs.Client.{with_segment, with_message, with_request, response_output, due_with_response}
use Rattle.nr_reduce.proofs.Touches.{AreNone, all_none, no_lack, no_flaw}
use Rattle.nr_requester.specs.Standing.{HasEnds, sends_ends, LinkKeeps, waiting_message}
use Rattle.nr_requester.specs.AfterPiece.{taken}
use Rattle.nr_requester.proofs.Links.{ends_more}
use Rattle.nr_requester.proofs.OneReceive.{received_next, receive_part, none_told, MessageAt, after_message, IsFreed, is_freed}

-- the place of a frame that isn't the first
later_place : (opened : LinkParameters) (s : LinkState) (k : ClientState) (end : ℕ) → LinkKeeps opened s k → s.place ≢ 0 → 0 < end → k.has_hello ≡ not (eqb end 0)
later_place opened s k end keeps later some = keeps.greeted ∙ ap not (ne_eqb s.place 0 later) ∙ sym (ap not (ne_eqb end 0 (λ e. (let h = e in omega (arith, h, some)))))

pub has_greeted : (opened : LinkParameters) (s : LinkState) (k : ClientState) → LinkKeeps opened s k → s.place ≢ 0 → k.has_hello ≡ true
has_greeted opened s k keeps later = keeps.greeted ∙ ap not (ne_eqb s.place 0 later)

not_greeted : {X : Type 0} (k : ClientState) → k.has_hello ≡ true → k.has_hello ≡ false → X
not_greeted k greeted ungreeted = absurd (let t : true ≡ false = sym greeted ∙ ungreeted in cc)

-- ---- A tagged segment: an RDMA Write, since a client reads nothing

pub record TaggedFine (s : LinkState) (opcode stag to : ℕ) (payload : List ℕ) : Type 0 where
  pub allowed : denial s.memory (record { right = right_for (kind_of opcode); stag = stag; to = to; len = length payload }) ≡ None
  pub is_write : eqb opcode OPCODE_READ_RESPONSE ≡ false

pub tagged_fine : (s : LinkState) (f : Frame) (last : Bool) (opcode stag to : ℕ) (payload : List ℕ) → s.reads ≡ [] → segment_end s f (Tagged last opcode stag to payload) ≡ None → TaggedFine s opcode stag to payload
unfolding segment_end segment_reason
tagged_fine s f last opcode stag to payload none is =
    let r : Readiness Denied = readiness s (missing_access s.memory (Tagged last opcode stag to payload)) in
    let faults : List (Option (SegmentReason Denied)) = missing_fault r.missing ∷ reason_if REASON_RESPONSE (is_unexpected r opcode last stag to (length payload)) ∷ [] in
    let all : AreNone faults = all_none faults (no_flaw f (Tagged last opcode stag to payload) (first_fault faults) is) in
    record {
      allowed = no_lack r.missing all.0;
      is_write = by (eqb opcode OPCODE_READ_RESPONSE) (ap (λ (e : List ExpectedResponse). reason_if {D = Denied} REASON_RESPONSE (eqb opcode OPCODE_READ_RESPONSE && not (is_expected (expected_response e) last stag to (length payload)))) (sym none) ∙ all.1.0);
    }
  where
    by : (b : Bool) → reason_if {D = Denied} REASON_RESPONSE (b && true) ≡ None → b ≡ false
    by true e = absurd cc
    by false e = refl

pub link_tagged : (opened : LinkParameters) (s : LinkState) (k : ClientState) (f : Frame) (last : Bool) (opcode stag to : ℕ) (payload : List ℕ) → LinkKeeps opened s k →
    TaggedFine s opcode stag to payload → s.place ≢ 0 → 0 < f.end → LinkKeeps opened (after_frame f (with_effect (Tagged last opcode stag to payload) s)) (with_segment k f (Ok (Tagged last opcode stag to payload)))
unfolding with_effect
link_tagged opened s k f last opcode stag to payload keeps fine later some =
    let placed : LinkState = record s { memory = after_place s.memory stag to payload } in
    let greeted : k.has_hello ≡ true = has_greeted opened s k keeps later in
    subst (λ (b : Bool). LinkKeeps opened (after_frame f (cond b (with_read_response last (length payload) placed) placed)) (with_segment k f (Ok (Tagged last opcode stag to payload)))) (sym fine.is_write)
    (record {
      side = keeps.side;
      has_hello = keeps.has_hello;
      receive_length = keeps.receive_length;
      message_max = keeps.message_max;
      fits = keeps.fits;
      terms = keeps.terms;
      received = keeps.received;
      receive = keeps.receive;
      none_lent = keeps.none_lent;
      none_waits = keeps.none_waits;
      no_reads = keeps.no_reads;
      number = keeps.number;
      waiting = λ none. not_greeted k greeted none;
      none_due = λ none. not_greeted k greeted none;
      granted = λ none. not_greeted k greeted none;
      client_terms = keeps.client_terms;
      sends = subst (λ (xs : List ℕ). HasEnds k.written (length s.send_queue.hello) xs s.send_queue.send_ends) (sym (same k.has_hello)) keeps.sends;
      responses = keeps.responses;
      left = keeps.left;
      numbered = ap (λ (xs : List ℕ). length xs) (same k.has_hello) ∙ keeps.numbered;
      held = keeps.held;
      greeted = later_place opened s k f.end keeps later some;
    })
  where
    same : (b : Bool) → sends_ends b opened (with_segment k f (Ok (Tagged last opcode stag to payload))) ≡ sends_ends b opened k
    same true = refl
    same false = refl

-- ---- A Read Request, and a part of a Send

-- what a client keeps but of its responses is not changed by a Read Request
record SameButResponses (k k2 : ClientState) : Type 0 where
  pub has_hello : k2.has_hello ≡ k.has_hello
  pub written : k2.written ≡ k.written
  pub send_ends : k2.send_ends ≡ k.send_ends
  pub sends : k2.sends ≡ k.sends
  pub down_max : k2.down_max ≡ k.down_max
  pub waiting : k2.waiting ≡ k.waiting
  pub terms : k2.terms ≡ k.terms

same_request_lem : (k : ClientState) (due : ℕ) (req : Option ReadRequest) → SameButResponses k (with_request k due req)
same_request_lem k due None = record { has_hello = refl; written = refl; send_ends = refl; sends = refl; down_max = refl; waiting = refl; terms = refl }
same_request_lem k due (Some r) = record { has_hello = refl; written = refl; send_ends = refl; sends = refl; down_max = refl; waiting = refl; terms = refl }

-- what the queue has more for it is what is due, by what the memory holds
pub record RequestFine (s : LinkState) (k : ClientState) (end : ℕ) (req : Option ReadRequest) : Type 0 where
  pub queue : IfSome req (λ r. read_response r.sink r.sink_to (bytes_at s.memory (fetch_access r)) ≡ response_output k end (Some r))

request_ends : (s : LinkState) (k : ClientState) (end : ℕ) (req : Option ReadRequest) → HasEnds k.written (length s.send_queue.hello) k.response_ends s.send_queue.response_ends → k.due ≡ k.written + length s.send_queue.hello + length s.send_queue.fpdus → RequestFine s k end req →
    HasEnds k.written (length (with_read_request req s.memory s.send_queue).hello) (with_request k (k.due + length (response_output k end req)) req).response_ends (with_read_request req s.memory s.send_queue).response_ends
request_ends s k end None h due fine = h
request_ends s k end (Some r) h due fine =
    let out : List ℕ = read_response r.sink r.sink_to (bytes_at s.memory (fetch_access r)) in
    let some = response_some r.sink r.sink_to (bytes_at s.memory (fetch_access r)) in
    subst (λ (xs : List ℕ). HasEnds k.written (length s.send_queue.hello) (k.response_ends ++ (k.due + length xs) ∷ []) (s.send_queue.response_ends ++ length (s.send_queue.fpdus ++ out) ∷ [])) fine.queue
    (ends_more k.written (length s.send_queue.hello) k.due s.send_queue.fpdus out k.response_ends s.send_queue.response_ends h due (omega (arith, some)))

-- the rest of the queue
record SameQueue (q q2 : SendQueue) : Type 0 where
  pub hello : q2.hello ≡ q.hello
  pub send_ends : q2.send_ends ≡ q.send_ends
  pub sends_left : q2.sends_left ≡ q.sends_left
  pub last_send : q2.last_send ≡ q.last_send
  pub held : q2.held ≡ q.held

same_queue : (q : SendQueue) (m : RegisteredMemory) (req : Option ReadRequest) → SameQueue q (with_read_request req m q)
same_queue q m None = record { hello = refl; send_ends = refl; sends_left = refl; last_send = refl; held = refl }
same_queue q m (Some r) = record { hello = refl; send_ends = refl; sends_left = refl; last_send = refl; held = refl }

pub link_untagged : (opened : LinkParameters) (s : LinkState) (k : ClientState) (f : Frame) (last : Bool) (opcode w queue msn offset : ℕ) (payload : List ℕ) → LinkKeeps opened s k → s.place ≢ 0 → 0 < f.end →
    message_completed k.received (Untagged last opcode w queue msn offset payload) ≡ None → k.due ≡ k.written + length (writable s.has_hello s.send_queue) →
    RequestFine s k f.end (read_request_of (Untagged last opcode w queue msn offset payload)) →
    LinkKeeps opened (after_frame f (with_effect (Untagged last opcode w queue msn offset payload) s)) (with_segment k f (Ok (Untagged last opcode w queue msn offset payload)))
unfolding with_effect received_segment
link_untagged opened s k f last opcode w queue msn offset payload keeps later some none due fine =
    subst (λ (o : Option (List ℕ)). LinkKeeps opened (after_frame f (with_effect segment s)) (record (with_request (with_message k f.end o) more req) { received = received_after k.received segment; accesses_received = k.accesses_received ++ [] })) (sym none)
    (record {
      side = keeps.side;
      has_hello = keeps.has_hello ∙ sym same.has_hello;
      receive_length = keeps.receive_length;
      message_max = keeps.message_max ∙ sym same.down_max;
      fits = subst (λ (n : ℕ). n ≤ receive_length_for opened.client) (sym same.down_max) keeps.fits;
      terms = keeps.terms;
      received = received_next (receive_length_for opened.client) s.receive_queue k.received segment keeps.receive_length keeps.received;
      receive = ap (λ (r : ReceiveState). cond (takes_receive r segment) (s.receive_queue.free - 1) s.receive_queue.free + sends_begun (received_after k.received segment).begun) keeps.received
          ∙ receive_part (receive_length_for opened.client) k.received s.receive_queue.free segment keeps.receive none;
      none_lent = keeps.none_lent;
      none_waits = ap (λ (r : ReceiveState). s.receive_queue.deliveries ++ message_deliveries (s.receive_queue.received.sends + 1) (stag_invalidated segment) (message_completed r segment)) keeps.received ∙ none_told (receive_length_for opened.client) k.received (s.receive_queue.received.sends + 1) s.receive_queue.deliveries segment keeps.none_waits none;
      no_reads = keeps.no_reads;
      number = left.last_send ∙ keeps.number ∙ ap msn_word (sym same.sends);
      waiting = λ e. not_greeted k greeted (sym same.has_hello ∙ e);
      none_due = λ e. not_greeted k greeted (sym same.has_hello ∙ e);
      granted = λ e. not_greeted k greeted (sym same.has_hello ∙ e);
      client_terms = same.terms ∙ keeps.client_terms;
      sends = sends_are;
      responses = subst (λ (n : ℕ). HasEnds n (length (with_read_request req s.memory s.send_queue).hello) (with_request k more req).response_ends (with_read_request req s.memory s.send_queue).response_ends) (sym same.written)
          (request_ends s k f.end req keeps.responses (due ∙ queue_len) fine);
      left = (λ i. left.sends_left i + length (left.send_ends i)) ∙ keeps.left ∙ sym same.sends;
      numbered = ap (λ (xs : List ℕ). length xs) sends_same ∙ keeps.numbered ∙ sym same.sends;
      held = left.held ∙ keeps.held ∙ ap (λ (ws : List WaitingCall). map (waiting_message opened) ws) (sym same.waiting);
      greeted = same.has_hello ∙ later_place opened s k f.end keeps later some;
    })
  where
    segment : Segment
    segment = Untagged last opcode w queue msn offset payload

    req : Option ReadRequest
    req = read_request_of segment

    more : ℕ
    more = due_with_response k f segment

    same : SameButResponses k (with_request k more req)
    same = same_request_lem k more req

    left : SameQueue s.send_queue (with_read_request req s.memory s.send_queue)
    left = same_queue s.send_queue s.memory req

    greeted : k.has_hello ≡ true
    greeted = has_greeted opened s k keeps later

    queue_len : k.written + length (writable s.has_hello s.send_queue) ≡ k.written + length s.send_queue.hello + length s.send_queue.fpdus
    queue_len = ap (λ (b : Bool). k.written + length (writable b s.send_queue)) (keeps.has_hello ∙ greeted) ∙ omega (arith, length-append s.send_queue.hello s.send_queue.fpdus)

    sends_same : sends_ends (with_request k more req).has_hello opened (record (with_request k more req) { received = received_after k.received segment; accesses_received = k.accesses_received ++ [] }) ≡ sends_ends k.has_hello opened k
    sends_same =
        ap (λ (b : Bool). sends_ends b opened (record (with_request k more req) { received = received_after k.received segment; accesses_received = k.accesses_received ++ [] })) (same.has_hello ∙ greeted)
        ∙ same.send_ends ∙ ap (λ (b : Bool). sends_ends b opened k) (sym greeted)

    sends_are : HasEnds (with_request k more req).written (length (with_read_request req s.memory s.send_queue).hello) (sends_ends (with_request k more req).has_hello opened (record (with_request k more req) { received = received_after k.received segment; accesses_received = k.accesses_received ++ [] })) (with_read_request req s.memory s.send_queue).send_ends
    sends_are =
        subst (λ (xs : List ℕ). HasEnds (with_request k more req).written (length (with_read_request req s.memory s.send_queue).hello) xs (with_read_request req s.memory s.send_queue).send_ends) (sym sends_same)
        (subst (λ (n : ℕ). HasEnds n (length (with_read_request req s.memory s.send_queue).hello) (sends_ends k.has_hello opened k) (with_read_request req s.memory s.send_queue).send_ends) (sym same.written)
        (subst (λ (h : List ℕ). HasEnds k.written (length h) (sends_ends k.has_hello opened k) (with_read_request req s.memory s.send_queue).send_ends) (sym left.hello)
        (subst (λ (ends : List ℕ). HasEnds k.written (length s.send_queue.hello) (sends_ends k.has_hello opened k) ends) (sym left.send_ends) keeps.sends)))

-- a Read Request that doesn't end the side is allowed
pub request_fine : (s : LinkState) (f : Frame) (last : Bool) (opcode w queue msn offset : ℕ) (payload : List ℕ) → segment_end s f (Untagged last opcode w queue msn offset payload) ≡ None →
    IfSome (read_request_of (Untagged last opcode w queue msn offset payload)) (λ r. denial s.memory (fetch_access r) ≡ None)
unfolding segment_end segment_reason
request_fine s f last opcode w queue msn offset payload is =
    let segment : Segment = Untagged last opcode w queue msn offset payload in
    let r : Readiness Denied = readiness s (missing_access s.memory segment) in
    let message : Option (List ℕ) = message_completed r.received segment in
    let faults : List (Option (SegmentReason Denied)) =
    reason_if REASON_MSN (not (eqb msn (next_msn r.received queue)))
    ∷ reason_if REASON_OFFSET (not (eqb offset (next_offset r.received queue)))
    ∷ no_buffer r (is_send opcode) msn
    ∷ reason_if REASON_FORM (is_malformed opcode last payload)
    ∷ missing_fault r.missing
    ∷ reason_if REASON_REQUESTS (is_too_many r opcode)
    ∷ reason_if REASON_LONG (message_length_is (λ n. ltb r.message_max n) message)
    ∷ reason_if REASON_SHORT (message_length_is (λ n. ltb n 16) message)
    ∷ terminate_fault opcode payload
    ∷ [] in
    let all : AreNone faults = all_none faults (no_flaw f segment (first_fault faults) is) in
    by (eqb opcode OPCODE_READ_REQUEST) (no_lack r.missing all.1.1.1.1.0)
  where
    by : (b : Bool) → option_and_then (denial s.memory) (cond b (Some (record { right = Fetch; stag = (read_request_in payload).stag; to = (read_request_in payload).to; len = (read_request_in payload).size })) None) ≡ None →
        IfSome (cond b (Some (read_request_in payload)) None) (λ r. denial s.memory (fetch_access r) ≡ None)
    by true e = e
    by false e = tt

-- what is due for it is what may be written more
pub queue_request : (s : LinkState) (k : ClientState) (end : ℕ) (req : Option ReadRequest) → RequestFine s k end req → writable true (with_read_request req s.memory s.send_queue) ≡ writable true s.send_queue ++ response_output k end req
queue_request s k end None fine = sym (append-nil (s.send_queue.hello ++ s.send_queue.fpdus))
queue_request s k end (Some r) fine =
    (λ i. s.send_queue.hello ++ (s.send_queue.fpdus ++ fine.queue i))
    ∙ sym (append_assoc s.send_queue.hello s.send_queue.fpdus (response_output k end (Some r)))

-- ---- A message that gives an outcome

pub link_message : (opened : LinkParameters) (s : LinkState) (k : ClientState) (f : Frame) (last : Bool) (opcode w queue msn offset : ℕ) (payload message : List ℕ) (m : RegisteredMemory) → LinkKeeps opened s k → s.place ≢ 0 → 0 < f.end →
    message_completed k.received (Untagged last opcode w queue msn offset payload) ≡ Some message → MessageAt (receive_length_for opened.client) k.received (Untagged last opcode w queue msn offset payload) message →
    LinkKeeps opened (record (taken (after_frame f (with_effect (Untagged last opcode w queue msn offset payload) s))) { memory = m }) (with_segment k f (Ok (Untagged last opcode w queue msn offset payload)))
unfolding with_effect after_message
link_message opened s k f last opcode w queue msn offset payload message m keeps later some whole at =
    subst (λ (o : Option (List ℕ)). LinkKeeps opened (side req) (record (with_request (with_message k f.end o) more req) { received = received_after k.received segment; accesses_received = k.accesses_received ++ [] })) (sym whole)
    (subst (λ (o : Option ReadRequest). LinkKeeps opened (side o) (record (with_request (with_message k f.end (Some message)) more o) { received = received_after k.received segment; accesses_received = k.accesses_received ++ [] })) (sym at.no_request)
    (record {
      side = keeps.side;
      has_hello = keeps.has_hello;
      receive_length = freed.receive_length;
      message_max = keeps.message_max;
      fits = keeps.fits;
      terms = keeps.terms;
      received = freed.received;
      receive = freed.receive;
      none_lent = freed.none_lent;
      none_waits = freed.none_waits;
      no_reads = keeps.no_reads;
      number = keeps.number;
      waiting = λ e. not_greeted k greeted e;
      none_due = λ e. not_greeted k greeted e;
      granted = λ e. not_greeted k greeted e;
      client_terms = keeps.client_terms;
      sends = subst (λ (xs : List ℕ). HasEnds k.written (length s.send_queue.hello) xs s.send_queue.send_ends) (sym sends_same) keeps.sends;
      responses = keeps.responses;
      left = keeps.left;
      numbered = ap (λ (xs : List ℕ). length xs) sends_same ∙ keeps.numbered;
      held = keeps.held;
      greeted = later_place opened s k f.end keeps later some;
    }))
  where
    segment : Segment
    segment = Untagged last opcode w queue msn offset payload

    req : Option ReadRequest
    req = read_request_of segment

    more : ℕ
    more = due_with_response k f segment

    greeted : k.has_hello ≡ true
    greeted = has_greeted opened s k keeps later

    side : Option ReadRequest → LinkState
    side o = record s {
      last = f.at;
      place = f.end;
      receive_queue = posted (delivered (received_segment segment s.receive_queue));
      memory = m;
      send_queue = with_read_request o s.memory s.send_queue;
    }

    freed : IsFreed (receive_length_for opened.client) s.receive_queue k.received segment
    freed = is_freed (receive_length_for opened.client) s.receive_queue k.received segment message keeps.receive_length keeps.received keeps.receive keeps.none_lent keeps.none_waits at

    sends_same : sends_ends k.has_hello opened (record (with_request (with_message k f.end (Some message)) more None) { received = received_after k.received segment; accesses_received = k.accesses_received ++ [] }) ≡ sends_ends k.has_hello opened k
    sends_same =
        ap (λ (b : Bool). sends_ends b opened (record (with_request (with_message k f.end (Some message)) more None) { received = received_after k.received segment; accesses_received = k.accesses_received ++ [] })) greeted
        ∙ ap (λ (b : Bool). sends_ends b opened k) (sym greeted)
