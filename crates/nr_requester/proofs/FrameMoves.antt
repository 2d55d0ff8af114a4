-- What a frame of the server's stream moves of a requester: records, and lemmas on the client's side of a frame.
use Rattle.std.proofs.Common.{◌≡◌, ℕ, ◌+◌, ◌≤◌, ◌⊎◌, inl, Bool, true, false, cond, not, eqb, ltb, List, [], ◌∷◌, ◌++◌, length, map, Option, None, Some, Result, Ok, Err, refl, sym, ap, subst, ◌∙◌, arith, append_assoc, length-append}
use Rattle.std.specs.List.{AllByRecursion}
use Rattle.std.proofs.lemmas.List.{append-nil, length-map}
use Rattle.std.proofs.lemmas.Bool.{ltb-false}
use Rattle.nr_xdr.specs.Fields.{word_at}
use Rattle.nr_wire.specs.declared.hello.Side.{Side}
use Rattle.nr_wire.specs.declared.hello.Side.TheVariants.{Initiator, Responder}
use Rattle.nr_wire.specs.Hello.{hello_of}
use Rattle.nr_wire.specs.Segment.{Segment}
use Rattle.nr_wire.specs.Segment.Segment.{Untagged}
use Rattle.nr_regions.specs.declared.denied.Denied.{Denied}
use Rattle.nr_regions.specs.RegisteredMemory.{RegisteredMemory}
use Rattle.nr_link.specs.declared.end.End.{End}
use Rattle.nr_link.specs.declared.end.End.TheVariants as ends
use Rattle.nr_link.specs.Reasons.{REASON_MSN, REASON_OFFSET, REASON_FORM, REASON_REQUESTS, REASON_SHORT, REASON_LONG, REASON_INVALIDATED}
use Rattle.nr_link.specs.Frames.{Frame, is_hello}
use Rattle.nr_link.specs.ReceiveState.{ReadRequest, is_send, message_completed, stag_invalidated, read_request_of}
use Rattle.nr_link.specs.SegmentFaults.{Readiness, SegmentReason, segment_reason, first_fault, missing_fault, reason_if, next_msn, next_offset, no_buffer, is_malformed, is_too_many, message_length_is, terminate_fault}
use Rattle.nr_link.specs.Ending.{frame_end_by, hello_end, missing_access, final_output, end_of_fault}
use Rattle.nr_endpoint.specs.LinkState.{LinkState}
use Rattle.nr_endpoint.specs.SendQueue.{SendQueue, writable, with_end}
use Rattle.nr_endpoint.specs.Judging.{next_segment, with_fpdu, with_segment_by, with_effect, with_end_of, after_frame, segment_end}
use Rattle.nr_endpoint.proofs.EndLaws.{effect_ended}
use Rattle.nr_reduce.specs.declared.mark.LinkParameters.{LinkParameters}
use Rattle.nr_reduce.specs.declared.call.Outcome.{Outcome}
use Rattle.nr_reduce.specs.OfferedRegions.{region_grants}
use Rattle.nr_reduce.specs.Events.RunEvent.{FrameReceived}
use Rattle.nr_reduce.specs.EndRules.{EndState, next_end_state, next_end_state_by, output_for, output_for_by, live}
use Rattle.nr_reduce.specs.ClientState.{ClientState, client_memory_at}
use Rattle.nr_reduce.specs.ClientMessages.{invalidates_another, message_verdict, reply_verdict}
use Rattle.nr_reduce.specs.ClientMessages.ReplyVerdict.{EndsLink, GivesOutcome}
use Rattle.nr_reduce.specs.Client.{client_rules, client_segment, segment_names, client_end, client_output, client_state_after, client_readiness, client_message_end, segment_message, or_message_end, with_segment, with_message, with_request, with_hello, due_with_response, response_output, segment_request, calls_output, credits_of_word, outcomes_of, or_other_sizes}
use Rattle.nr_reduce.specs.KeptCalls.{KeptCall, kept_message_verdict}
use Rattle.nr_reduce.specs.KeptClient.{KeptClient, ClientKeeps, HoldsFor, bytes_under, released_all, without, kept_completed, stags_for as kept_stags}
use Rattle.nr_reduce.proofs.Touches.{AreNone, all_none, no_flaw}
use Rattle.nr_reduce.proofs.WholeWrotes.{client_due}
use Rattle.nr_reduce.proofs.Releasing.{kept_stays}
use Rattle.nr_reduce.proofs.Taking.{kept_ends}
use Rattle.nr_requester.specs.RequesterState.{StoredCall, RequesterState, kept_call, kept_calls, queue_of, kept_client}
use Rattle.nr_requester.specs.Standing.{LinkKeeps}
use Rattle.nr_requester.specs.AfterCalls.{stags_for}
use Rattle.nr_requester.specs.AfterPiece.{without_call, answer_to, call_of, judged}
use Rattle.nr_requester.proofs.KeptCalls.{stags_alike}

-- A requester that hasn't ended keeps this client, after `count` bytes were received.
pub record KeepsLiveClient (opened : LinkParameters) (r : RequesterState) (k : ClientState) (count : ℕ) : Type 0 where
  pub client : ClientKeeps opened (kept_client r) (live k) count
  pub side : LinkKeeps opened r.side k
  pub sent : r.sent ≡ r.side.send_queue.sends_left
  pub wished : r.wished ≡ opened.wished
  pub due : k.due ≡ k.written + length (queue_of r)

-- it keeps an end of a client
pub record KeptEnd (opened : LinkParameters) (r : RequesterState) (e : EndState ClientState) (count : ℕ) : Type 0 where
  pub client : ClientKeeps opened (kept_client r) e count
  pub wished : r.wished ≡ opened.wished
  pub live_one : e.ended ≡ None → KeepsLiveClient opened r e.state count

-- What a frame makes of the answers: it leaves them, or it completes the message of a call.
pub record Quiet (r after : RequesterState) (k next : ClientState) : Type 0 where
  pub answered : after.answered ≡ r.answered
  pub outstanding : after.outstanding ≡ r.outstanding
  pub outcomes : next.outcomes ≡ k.outcomes

pub record Completes (opened : LinkParameters) (r after : RequesterState) (k next : ClientState) (f : Frame) : Type 0 where
  pub segment : Segment
  pub message : List ℕ
  pub xid : ℕ
  pub outcome : Option Outcome
  pub stays : client_end k (FrameReceived f) ≡ None
  pub after_hello : is_hello f ≡ false
  pub is_segment : client_segment k f ≡ Ok segment
  pub completes : message_completed k.received segment ≡ Some message
  pub verdict : kept_message_verdict (kept_calls r) (bytes_under r.side.memory) (stag_invalidated segment) message ≡ GivesOutcome xid outcome
  pub judged_alike : message_verdict k f.end (stag_invalidated segment) message ≡ GivesOutcome xid outcome
  pub answered : after.answered ≡ r.answered ++ answer_to r.side.memory (call_of (word_at 0 message) r.outstanding) outcome
  pub outstanding : after.outstanding ≡ without_call (word_at 0 message) r.outstanding
  pub outcomes : next.outcomes ≡ k.outcomes ++ outcomes_of (GivesOutcome xid outcome)

abbrev pub Moves : LinkParameters → (r after : RequesterState) → (k next : ClientState) → Frame → Type 0
Moves opened r after k next f = Quiet r after k next ⊎ Completes opened r after k next f

-- after a frame
pub record FrameTaken (opened : LinkParameters) (r : RequesterState) (k : ClientState) (f : Frame) (after : RequesterState) : Type 0 where
  pub keeps : KeptEnd opened after (next_end_state (client_rules opened) (live k) (FrameReceived f)) f.end
  pub queue : queue_of after ≡ queue_of r ++ output_for (client_rules opened) (live k) (FrameReceived f)
  pub place : after.side.ended ≡ None → after.side.place ≡ f.end
  pub next_xid : after.next_xid ≡ r.next_xid
  pub moves : Moves opened r after k (next_end_state (client_rules opened) (live k) (FrameReceived f)).state f

-- a message that gives an outcome names no STag of another call
pub verdict_fine : (k : ClientState) (place : ℕ) (named : Option ℕ) (message : List ℕ) (xid : ℕ) (outcome : Option Outcome) → message_verdict k place named message ≡ GivesOutcome xid outcome → reply_verdict k place message ≡ GivesOutcome xid outcome
unfolding message_verdict
verdict_fine k place named message xid outcome e = by (invalidates_another k named message) e
  where
    by : (b : Bool) → cond b (EndsLink REASON_INVALIDATED) (reply_verdict k place message) ≡ GivesOutcome xid outcome → reply_verdict k place message ≡ GivesOutcome xid outcome
    by true e = absurd cc
    by false e = e

-- ---- A frame that ends the client, and one that doesn't

-- of a client that has ended the memory counts by what it holds
pub kept_dead : (opened : LinkParameters) (kept : KeptClient) (e : EndState ClientState) (end : End) (count : ℕ) (m : RegisteredMemory) → e.ended ≡ Some end → ((stag : ℕ) → bytes_under m stag ≡ bytes_under kept.memory stag) → ClientKeeps opened kept e count →
    ClientKeeps opened (record kept { memory = m }) e count
kept_dead opened kept e end count m is same k = record {
  ended = k.ended;
  xid = k.xid;
  sends = k.sends;
  grant = k.grant;
  up = k.up;
  down = k.down;
  invalidates = k.invalidates;
  opening = k.opening;
  outstanding = k.outstanding;
  calls = k.calls;
  memory = λ none. absurd (let wrong : Some end ≡ None = sym is ∙ none in cc);
  waits = k.waits;
  rising = k.rising;
  opens = k.opens;
  accesses = k.accesses;
  holds = all kept.calls k.holds;
}
  where
    under : (stags : List ℕ) → AllByRecursion (λ stag. bytes_under kept.memory stag ≡ client_memory_at e.state count stag) stags → AllByRecursion (λ stag. bytes_under m stag ≡ client_memory_at e.state count stag) stags
    under [] h = tt
    under (stag ∷ stags) h = (same stag ∙ h.0, under stags h.1)

    all : (cs : List KeptCall) → AllByRecursion (HoldsFor kept.memory e.state count) cs → AllByRecursion (HoldsFor m e.state count) cs
    all [] h = tt
    all (c ∷ cs) h = (under c.stags h.0, all cs h.1)

pub taken_ended : (opened : LinkParameters) (r : RequesterState) (k : ClientState) (count : ℕ) (f : Frame) (after : RequesterState) (end : End) → KeepsLiveClient opened r k count → client_end k (FrameReceived f) ≡ Some end →
    (m : RegisteredMemory) → ((stag : ℕ) → bytes_under m stag ≡ bytes_under r.side.memory stag) →
    kept_client after ≡ record (kept_client r) { ended = Some end; memory = m } → after.wished ≡ r.wished → count ≤ f.end → queue_of after ≡ queue_of r ++ final_output end →
    after.next_xid ≡ r.next_xid → after.answered ≡ r.answered → after.outstanding ≡ r.outstanding → FrameTaken opened r k f after
taken_ended opened r k count f after end keeps is m same kept wished le queue next answered outstanding =
    let e : EndState ClientState = next_end_state (client_rules opened) (live k) (FrameReceived f) in
    let ended : e.ended ≡ Some end = ap (λ (x : Option End). (next_end_state_by (client_rules opened) k (FrameReceived f) x).ended) is in
    let side_ended : after.side.ended ≡ Some end = ap (λ (x : KeptClient). x.ended) kept in
    record {
      keeps = record {
        client = subst (λ (x : KeptClient). ClientKeeps opened x e f.end) (sym kept)
            (kept_dead opened (record (kept_client r) { ended = Some end }) e end f.end m ended same
            (kept_stays opened (record (kept_client r) { ended = Some end }) e count f.end (kept_ends opened (kept_client r) k end count (FrameReceived f) keeps.client is) le));
        wished = wished ∙ keeps.wished;
        live_one = λ none. absurd (let wrong : Some end ≡ None = sym ended ∙ none in cc);
      };
      queue = queue ∙ ap (λ (e : Option End). queue_of r ++ output_for_by (client_rules opened) k (FrameReceived f) e) (sym is);
      place = λ none. absurd (let wrong : Some end ≡ None = sym side_ended ∙ none in cc);
      next_xid = next;
      moves = inl (record { answered = answered; outstanding = outstanding; outcomes = ap (λ (x : Option End). (next_end_state_by (client_rules opened) k (FrameReceived f) x).state.outcomes) is });
    }

-- a frame writes nothing
pub written_still : (opened : LinkParameters) (k : ClientState) (f : Frame) → (client_state_after opened k (FrameReceived f)).written ≡ k.written
unfolding client_state_after
written_still opened k f = by (is_hello f)
  where
    by_message : (m : Option (List ℕ)) (due : ℕ) (q : Option ReadRequest) → (with_request (with_message k f.end m) due q).written ≡ k.written
    by_message None due None = refl
    by_message None due (Some q) = refl
    by_message (Some m) due None = refl
    by_message (Some m) due (Some q) = refl

    by_segment : (r : Result Segment ℕ) → (with_segment k f r).written ≡ k.written
    by_segment (Err reason) = refl
    by_segment (Ok segment) = by_message (message_completed k.received segment) (due_with_response k f segment) (read_request_of segment)

    by : (b : Bool) → (cond b (with_hello opened k f) (with_segment k f (client_segment k f))).written ≡ k.written
    by true = refl
    by false = by_segment (client_segment k f)

pub taken_live : (opened : LinkParameters) (r : RequesterState) (k : ClientState) (count : ℕ) (f : Frame) (after : RequesterState) → KeepsLiveClient opened r k count → client_end k (FrameReceived f) ≡ None →
    ClientKeeps opened (kept_client after) (next_end_state (client_rules opened) (live k) (FrameReceived f)) f.end → LinkKeeps opened after.side (client_state_after opened k (FrameReceived f)) → after.sent ≡ r.sent → after.side.send_queue.sends_left ≡ r.side.send_queue.sends_left →
    after.wished ≡ r.wished →
    queue_of after ≡ queue_of r ++ client_output opened k (FrameReceived f) → after.side.place ≡ f.end → after.next_xid ≡ r.next_xid → Moves opened r after k (client_state_after opened k (FrameReceived f)) f → FrameTaken opened r k f after
taken_live opened r k count f after keeps is client side sent left wished queue place next_xid moves =
    let e : EndState ClientState = next_end_state (client_rules opened) (live k) (FrameReceived f) in
    let e_is : e ≡ live (client_state_after opened k (FrameReceived f)) = ap (λ (x : Option End). next_end_state_by (client_rules opened) k (FrameReceived f) x) is in
    let due = client_due opened k (FrameReceived f) in
    let still = written_still opened k f in
    let was = keeps.due in
    let long : length (queue_of after) ≡ length (queue_of r) + length (client_output opened k (FrameReceived f)) = ap (λ (xs : List ℕ). length xs) queue ∙ length-append (queue_of r) (client_output opened k (FrameReceived f)) in
    let next : KeepsLiveClient opened after (client_state_after opened k (FrameReceived f)) f.end = record {
      client = subst (λ (x : EndState ClientState). ClientKeeps opened (kept_client after) x f.end) e_is client;
      side = side;
      sent = sent ∙ keeps.sent ∙ sym left;
      wished = wished ∙ keeps.wished;
      due = omega (arith, due, still, was, long);
    } in
    record {
      keeps = record {
        client = client;
        wished = wished ∙ keeps.wished;
        live_one = λ none. subst (λ (x : ClientState). KeepsLiveClient opened after x f.end) (sym (ap (λ (x : EndState ClientState). x.state) e_is)) next;
      };
      queue = queue ∙ ap (λ (x : Option End). queue_of r ++ output_for_by (client_rules opened) k (FrameReceived f) x) (sym is);
      place = λ none. place;
      next_xid = next_xid;
      moves = subst (λ (x : ClientState). Moves opened r after k x f) (sym (ap (λ (x : EndState ClientState). x.state) e_is)) moves;
    }

-- ---- What ends the side

pub queue_ended : (h : Bool) (side : Side) (end : End) (q : SendQueue) → h ≡ true → side ≡ Initiator → writable h (with_end side end q) ≡ writable h q ++ final_output end
unfolding with_end
queue_ended h side end q greeted initiator =
    (λ i. writable (greeted i) (with_end (initiator i) end q))
    ∙ (λ i. append-nil q.hello i ++ (q.fpdus ++ final_output end))
    ∙ sym (append_assoc q.hello q.fpdus (final_output end))
    ∙ ap (λ (x : Bool). writable x q ++ final_output end) (sym greeted)

pub some_ended : (s : LinkState) (f : Frame) (segment : Segment) (e : Option End) (end : End) → s.ended ≡ None → (with_segment_by f segment e s).ended ≡ Some end → with_segment_by f segment e s ≡ with_end_of end s
some_ended s f segment None end lives is = absurd (let wrong : None ≡ Some end = sym (effect_ended s segment ∙ lives) ∙ is in cc)
some_ended s f segment (Some x) end lives is = (let same : x ≡ end = cc in ap (λ (e : End). with_end_of e s) same)

pub ended_shape : (s : LinkState) (f : Frame) (r : Result Segment ℕ) (end : End) → s.ended ≡ None → (with_fpdu f r s).ended ≡ Some end → with_fpdu f r s ≡ with_end_of end s
unfolding with_fpdu
ended_shape s f (Ok segment) end lives is = some_ended s f segment (segment_end s f segment) end lives is
ended_shape s f (Err reason) end lives is = (let same : ends.Bad f.at reason ≡ end = cc in ap (λ (e : End). with_end_of e s) same)

-- what doesn't end it
pub record Lives (s : LinkState) (f : Frame) (frame : List ℕ) : Type 0 where
  pub segment : Segment
  pub is_segment : next_segment s frame ≡ Ok segment
  pub none : segment_end s f segment ≡ None
  pub shape : with_fpdu f (next_segment s frame) s ≡ after_frame f (with_effect segment s)

pub none_ended : (s : LinkState) (f : Frame) (segment : Segment) (e : Option End) → (with_segment_by f segment e s).ended ≡ None → e ≡ None
none_ended s f segment None is = refl
none_ended s f segment (Some end) is = absurd cc

pub lives_by_lem : (s : LinkState) (f : Frame) (frame : List ℕ) (r : Result Segment ℕ) → next_segment s frame ≡ r → (with_fpdu f r s).ended ≡ None → Lives s f frame
unfolding with_fpdu
lives_by_lem s f frame (Ok segment) is none =
    let e : segment_end s f segment ≡ None = none_ended s f segment (segment_end s f segment) none in
    record {
      segment = segment;
      is_segment = is;
      none = e;
      shape = ap (λ (r : Result Segment ℕ). with_fpdu f r s) is ∙ ap (λ (x : Option End). with_segment_by f segment x s) e;
    }
lives_by_lem s f frame (Err reason) is none = absurd cc

-- ---- What the client makes of a segment that doesn't end it

pub record Reads (opened : LinkParameters) (k : ClientState) (f : Frame) (segment : Segment) : Type 0 where
  pub later : is_hello f ≡ false
  pub is_segment : client_segment k f ≡ Ok segment
  pub end : client_end k (FrameReceived f) ≡ client_message_end k f (stag_invalidated segment) (message_completed k.received segment)
  pub output : client_output opened k (FrameReceived f) ≡ response_output k f.end (read_request_of segment)
  pub state : client_state_after opened k (FrameReceived f) ≡ with_segment k f (Ok segment)

pub reads : (opened : LinkParameters) (k : ClientState) (f : Frame) (segment : Segment) → is_hello f ≡ false → client_segment k f ≡ Ok segment → frame_end_by (client_readiness k) (region_grants f.end k.regions) f (client_segment k f) ≡ None → Reads opened k f segment
unfolding client_end client_output client_state_after
reads opened k f segment later is none = record {
  later = later;
  is_segment = is;
  end = (λ i. cond (later i) (or_other_sizes k f (hello_end (hello_of Responder f.bytes))) (or_message_end k f (none i)))
      ∙ ap (λ (r : Result Segment ℕ). client_message_end k f (segment_names r) (segment_message k r)) is;
  output = (λ i. cond (later i) (calls_output opened 1 k.outstanding) (response_output k f.end (segment_request (is i))));
  state = (λ i. cond (later i) (with_hello opened k f) (with_segment k f (is i)));
}

-- a segment that completes no message leaves the outcomes
pub quiet_segment : (k : ClientState) (f : Frame) (segment : Segment) → message_completed k.received segment ≡ None → (with_segment k f (Ok segment)).outcomes ≡ k.outcomes
quiet_segment k f segment none =
    ap (λ (m : Option (List ℕ)). (with_request (with_message k f.end m) (due_with_response k f segment) (read_request_of segment)).outcomes) none
    ∙ by (read_request_of segment)
  where
    by : (q : Option ReadRequest) → (with_request k (due_with_response k f segment) q).outcomes ≡ k.outcomes
    by None = refl
    by (Some q) = refl

-- one that completes a message adds its outcome
pub message_segment : (k : ClientState) (f : Frame) (segment : Segment) (message : List ℕ) → message_completed k.received segment ≡ Some message → (with_segment k f (Ok segment)).outcomes ≡ k.outcomes ++ outcomes_of (reply_verdict k f.end message)
message_segment k f segment message whole =
    ap (λ (m : Option (List ℕ)). (with_request (with_message k f.end m) (due_with_response k f segment) (read_request_of segment)).outcomes) whole
    ∙ by (read_request_of segment)
  where
    by : (q : Option ReadRequest) → (with_request (with_message k f.end (Some message)) (due_with_response k f segment) q).outcomes ≡ k.outcomes ++ outcomes_of (reply_verdict k f.end message)
    by None = refl
    by (Some q) = refl

-- a message is no longer than its receive
pub not_long : (k : ClientState) (f : Frame) (last : Bool) (opcode w queue msn offset : ℕ) (payload message : List ℕ) → client_segment k f ≡ Ok (Untagged last opcode w queue msn offset payload) →
    frame_end_by (client_readiness k) (region_grants f.end k.regions) f (client_segment k f) ≡ None → message_completed k.received (Untagged last opcode w queue msn offset payload) ≡ Some message → length message ≤ k.down_max
unfolding segment_reason
not_long k f last opcode w queue msn offset payload message is none whole =
    let segment : Segment = Untagged last opcode w queue msn offset payload in
    let r : Readiness Denied = client_readiness k (missing_access (region_grants f.end k.regions) f segment) in
    let long : Option (SegmentReason Denied) = reason_if REASON_LONG (message_length_is (λ n. ltb r.message_max n) (message_completed k.received segment)) in
    let faults : List (Option (SegmentReason Denied)) =
    reason_if REASON_MSN (not (eqb msn (next_msn r.received queue)))
    ∷ reason_if REASON_OFFSET (not (eqb offset (next_offset r.received queue)))
    ∷ no_buffer r (is_send opcode) msn
    ∷ reason_if REASON_FORM (is_malformed opcode last payload)
    ∷ missing_fault r.missing
    ∷ reason_if REASON_REQUESTS (is_too_many r opcode)
    ∷ long
    ∷ reason_if REASON_SHORT (message_length_is (λ n. ltb n 16) (message_completed k.received segment))
    ∷ terminate_fault opcode payload
    ∷ [] in
    let by_segment : end_of_fault f segment (first_fault faults) ≡ None = ap (λ (x : Result Segment ℕ). frame_end_by (client_readiness k) (region_grants f.end k.regions) f x) (sym is) ∙ none in
    let all : AreNone faults = all_none faults (no_flaw f segment (first_fault faults) by_segment) in
    ltb-false k.down_max (length message) (by (ltb k.down_max (length message)) (ap (λ (m : Option (List ℕ)). reason_if {D = Denied} REASON_LONG (message_length_is (λ n. ltb k.down_max n) m)) (sym whole) ∙ all.1.1.1.1.1.1.0))
  where
    by : (b : Bool) → reason_if {D = Denied} REASON_LONG b ≡ None → b ≡ false
    by true e = absurd cc
    by false e = refl

-- ---- What is kept once a message completed its call

pub without_alike : (sent xid : ℕ) (cs : List StoredCall) → without xid (map (kept_call sent) cs) ≡ map (kept_call sent) (without_call xid cs)
without_alike sent xid [] = refl
without_alike sent xid (c ∷ cs) = by (eqb c.xid xid) (without_alike sent xid cs)
  where
    by : (b : Bool) → without xid (map (kept_call sent) cs) ≡ map (kept_call sent) (without_call xid cs) →
        cond (not b) (kept_call sent c ∷ without xid (map (kept_call sent) cs)) (without xid (map (kept_call sent) cs)) ≡ map (kept_call sent) (cond (not b) (c ∷ without_call xid cs) (without_call xid cs))
    by true rest = rest
    by false rest = ap (λ (xs : List KeptCall). kept_call sent c ∷ xs) rest

pub completed_is : (r : RequesterState) (message : List ℕ) (xid : ℕ) (outcome : Option Outcome) (s : LinkState) → s.ended ≡ r.side.ended → released_all s.memory (stags_for (word_at 0 message) r.outstanding) ≡ released_all r.side.memory (stags_for (word_at 0 message) r.outstanding) → s.agreed ≡ r.side.agreed → s.terms ≡ r.side.terms → s.earlier ≡ r.side.earlier → kept_completed (kept_client r) message ≡ kept_client (judged r s message (GivesOutcome xid outcome))
unfolding kept_completed
completed_is r message xid outcome s ended memory agreed terms earlier =
    let x : ℕ = word_at 0 message in
    let calls = without_alike r.sent x r.outstanding in
    let count : length (without x (kept_calls r)) ≡ length (without_call x r.outstanding) = ap (λ (xs : List KeptCall). length xs) calls ∙ length-map (without_call x r.outstanding) (kept_call r.sent) in
    let stags : released_all r.side.memory (kept_stags x (kept_calls r)) ≡ released_all s.memory (stags_for x r.outstanding) = ap (λ (ss : List ℕ). released_all r.side.memory ss) (stags_alike r.sent x r.outstanding) ∙ sym memory in
    λ i. record {
      ended = sym ended i;
      next_xid = r.next_xid;
      sends = r.sends;
      grant = credits_of_word (word_at 8 message);
      outstanding = count i;
      calls = calls i;
      memory = stags i;
      up_max = (sym agreed i).up;
      down_max = (sym agreed i).down;
      invalidates = (sym agreed i).invalidates;
      number = (sym terms i).number;
      agreed = (sym earlier i);
    }
