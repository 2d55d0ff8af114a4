-- A Wrote that takes all that is due leaves nothing: no Read Response is owed, each Send that is due has left, and only pending calls
-- and a begun Send have receives in use.
use Rattle.std.proofs.Common.{◌≡◌, ℕ, suc, ◌+◌, ◌≤◌, Bool, true, false, cond, leb, ltb, List, [], ◌∷◌, ◌++◌, length, Option, None, Some, Result, Ok, Err, refl, ap, ◌∙◌, arith, length-append}
use Rattle.std.specs.List.{filter}
use Rattle.std.proofs.lemmas.Bool.{le-leb, le-ltb}
use Rattle.nr_wire.specs.Segment.{Segment}
use Rattle.nr_link.specs.Output.{send}
use Rattle.nr_link.specs.Frames.{Frame, is_hello}
use Rattle.nr_link.specs.ReceiveState.{ReadRequest, message_completed, read_request_of}
use Rattle.nr_link.specs.SegmentFaults.{is_begun}
use Rattle.nr_reduce.specs.Hellos.{server_hello}
use Rattle.nr_reduce.specs.declared.mark.LinkParameters.{LinkParameters}
use Rattle.nr_reduce.specs.Plans.{one_if}
use Rattle.nr_reduce.specs.Events.{RunEvent}
use Rattle.nr_reduce.specs.Events.RunEvent.{FrameReceived, CallSubmitted, MemoryRevoked, CallExecuted, QueueWritten, ServerTold}
use Rattle.nr_reduce.specs.Written.{ends_written, ends_waiting}
use Rattle.nr_reduce.specs.ClientState.{OutstandingCall, ClientState, responses_owed}
use Rattle.nr_reduce.specs.Client.{client_state_after, client_output, segment_request, response_output, calls_output, call_output, call_ends, submitted_output, submitted_ends, due_with_response, with_hello, with_message, with_request, with_segment, client_segment}
use Rattle.nr_reduce.specs.ServerState.{ServerState, receives_in_use}
use Rattle.nr_reduce.specs.ServerFrames.{frame_effect}
use Rattle.nr_reduce.specs.Server.{server_state_after, server_output, sends_from, send_ends_from, with_effect, with_own_hello, requests_from, newly_open_reads, effect_output}

abbrev pub AreWithin : ℕ → List ℕ → Type 0
AreWithin n [] = Unit {0}
AreWithin n (end ∷ ends) = (end ≤ n) × AreWithin n ends

pub none_waiting : (n : ℕ) (ends : List ℕ) → AreWithin n ends → ends_waiting n ends ≡ 0
none_waiting n [] h = refl
none_waiting n (e ∷ ends) h = ap (λ (b : Bool). length (cond b (e ∷ filter (ltb n) ends) (filter (ltb n) ends))) (le-ltb n e h.0) ∙ none_waiting n ends h.1

pub all_left_lem : (n : ℕ) (ends : List ℕ) → AreWithin n ends → ends_written n ends ≡ length ends
all_left_lem n [] h = refl
all_left_lem n (e ∷ ends) h =
    ap (λ (b : Bool). length (cond b (e ∷ filter (λ end. leb end n) ends) (filter (λ end. leb end n) ends))) (le-leb e n h.0) ∙ ap (λ (m : ℕ). suc m) (all_left_lem n ends h.1)

within_more : (n m : ℕ) (ends : List ℕ) → n ≤ m → AreWithin n ends → AreWithin m ends
within_more n m [] le h = tt
within_more n m (e ∷ ends) le h = ((let a = h.0 in omega (arith, a, le)), within_more n m ends le h.1)

within_append : (n : ℕ) (xs ys : List ℕ) → AreWithin n xs → AreWithin n ys → AreWithin n (xs ++ ys)
within_append n [] ys h g = g
within_append n (x ∷ xs) ys h g = (h.0, within_append n xs ys h.1 g)

-- ---- Each end is within what is due

pub record ClientEnds (k : ClientState) : Type 0 where
  pub sends : AreWithin k.due k.send_ends
  pub responses : AreWithin k.due k.response_ends

pub record ServerEnds (k : ServerState) : Type 0 where
  pub messages : AreWithin k.due k.message_ends

calls_within : (opened : LinkParameters) (due msn : ℕ) (os : List OutstandingCall) → AreWithin (due + length (calls_output opened msn os)) (call_ends opened due msn os)
calls_within opened due msn [] = tt
calls_within opened due msn (o ∷ os) =
    let one : List ℕ = call_output opened msn o in
    let rest : List ℕ = calls_output opened (msn + 1) os in
    let both = length-append one rest in
    ((omega (arith, both)), within_more ((due + length one) + length rest) (due + length (one ++ rest)) (call_ends opened (due + length one) (msn + 1) os) (omega (arith, both)) (calls_within opened (due + length one) (msn + 1) os))

sends_within : (due msn : ℕ) (ms : List (List ℕ)) → AreWithin (due + length (sends_from msn ms)) (send_ends_from due msn ms)
sends_within due msn [] = tt
sends_within due msn (m ∷ ms) =
    let one : List ℕ = send msn m in
    let rest : List ℕ = sends_from (msn + 1) ms in
    let both = length-append one rest in
    ((omega (arith, both)), within_more ((due + length one) + length rest) (due + length (one ++ rest)) (send_ends_from (due + length one) (msn + 1) ms) (omega (arith, both)) (sends_within (due + length one) (msn + 1) ms))

ends_request : (k : ClientState) (due : ℕ) (r : Option ReadRequest) → k.due ≤ due → ClientEnds k → ClientEnds (with_request k due r)
ends_request k due None le h = h
ends_request k due (Some r) le h = record {
  sends = within_more k.due due k.send_ends le h.sends;
  responses = within_append due k.response_ends (due ∷ []) (within_more k.due due k.response_ends le h.responses) (omega arith, tt);
}

ends_message : (k : ClientState) (place : ℕ) (m : Option (List ℕ)) → ClientEnds k → ClientEnds (with_message k place m)
ends_message k place None h = h
ends_message k place (Some m) h = record { sends = h.sends; responses = h.responses }

due_grows : (k : ClientState) (f : Frame) (segment : Segment) (m : Option (List ℕ)) → (with_message k f.end m).due ≤ due_with_response k f segment
due_grows k f segment None = omega arith
due_grows k f segment (Some m) = omega arith

ends_segment : (k : ClientState) (f : Frame) (r : Result Segment ℕ) → ClientEnds k → ClientEnds (with_segment k f r)
ends_segment k f (Err reason) h = h
ends_segment k f (Ok segment) h =
    let g = ends_request (with_message k f.end (message_completed k.received segment)) (due_with_response k f segment) (read_request_of segment) (due_grows k f segment (message_completed k.received segment)) (ends_message k f.end (message_completed k.received segment) h) in
    record { sends = g.sends; responses = g.responses }

pub client_ends : (opened : LinkParameters) (k : ClientState) (event : RunEvent) → ClientEnds k → ClientEnds (client_state_after opened k event)
unfolding client_state_after
client_ends opened k (FrameReceived f) h = by (is_hello f)
  where
    by : (b : Bool) → ClientEnds (cond b (with_hello opened k f) (with_segment k f (client_segment k f)))
    by true = record {
      sends = within_append (k.due + length (calls_output opened 1 k.outstanding)) k.send_ends (call_ends opened k.due 1 k.outstanding)
          (within_more k.due (k.due + length (calls_output opened 1 k.outstanding)) k.send_ends (omega arith) h.sends) (calls_within opened k.due 1 k.outstanding);
      responses = within_more k.due (k.due + length (calls_output opened 1 k.outstanding)) k.response_ends (omega arith) h.responses;
    }
    by false = ends_segment k f (client_segment k f) h
client_ends opened k (CallSubmitted place a) h = record {
  sends = within_append after k.send_ends (submitted_ends opened k a) (within_more k.due after k.send_ends (omega arith) h.sends) (by k.has_hello);
  responses = within_more k.due after k.response_ends (omega arith) h.responses;
}
  where
    after : ℕ
    after = k.due + length (submitted_output opened k a)

    by : (b : Bool) → AreWithin after (cond b (after ∷ []) [])
    by true = (omega arith, tt)
    by false = tt
client_ends opened k (MemoryRevoked place xid) h = record { sends = h.sends; responses = h.responses }
client_ends opened k (CallExecuted call) h = h
client_ends opened k (QueueWritten taken) h = record { sends = h.sends; responses = h.responses }
client_ends opened k (ServerTold what) h = record { sends = h.sends; responses = h.responses }

pub server_ends : (opened : LinkParameters) (k : ServerState) (event : RunEvent) → ServerEnds k → ServerEnds (server_state_after opened k event)
unfolding server_state_after
server_ends opened k (FrameReceived f) h = by (is_hello f)
  where
    errors : List (List ℕ)
    errors = (frame_effect k f).errors

    more : List ℕ
    more = requests_from (k.requests_sent + 1) (newly_open_reads (frame_effect k f))

    by : (b : Bool) → ServerEnds (cond b (with_own_hello opened k f) (with_effect k f (frame_effect k f)))
    by true = record { messages = within_more k.due (with_own_hello opened k f).due k.message_ends (omega arith) h.messages }
    by false =
        let both = length-append (sends_from (k.messages_queued + 1) errors) more in
        record {
          messages = within_append (k.due + length (sends_from (k.messages_queued + 1) errors ++ more)) k.message_ends (send_ends_from k.due (k.messages_queued + 1) errors)
              (within_more k.due (k.due + length (sends_from (k.messages_queued + 1) errors ++ more)) k.message_ends (omega arith) h.messages)
              (within_more (k.due + length (sends_from (k.messages_queued + 1) errors)) (k.due + length (sends_from (k.messages_queued + 1) errors ++ more)) (send_ends_from k.due (k.messages_queued + 1) errors)
              (omega (arith, both)) (sends_within k.due (k.messages_queued + 1) errors));
        }
server_ends opened k (CallSubmitted place a) h = h
server_ends opened k (MemoryRevoked place xid) h = h
server_ends opened k (CallExecuted e) h =
    let after : ℕ = (server_state_after opened k (CallExecuted e)).due in
    record { messages = within_append after k.message_ends (after ∷ []) (within_more k.due after k.message_ends (omega arith) h.messages) (omega arith, tt) }
server_ends opened k (QueueWritten taken) h = record { messages = h.messages }
server_ends opened k (ServerTold what) h = record { messages = h.messages }

-- ---- A Wrote of everything

pub whole_at_client : (opened : LinkParameters) (k : ClientState) (taken : ℕ) → k.written + taken ≡ k.due → ClientEnds k →
    (responses_owed (client_state_after opened k (QueueWritten taken)) ≡ 0)
    × (ends_written (client_state_after opened k (QueueWritten taken)).written (client_state_after opened k (QueueWritten taken)).send_ends ≡ length k.send_ends)
unfolding client_state_after
whole_at_client opened k taken all h = (
  ap (λ (n : ℕ). ends_waiting n k.response_ends) all ∙ none_waiting k.due k.response_ends h.responses,
  ap (λ (n : ℕ). ends_written n k.send_ends) all ∙ all_left_lem k.due k.send_ends h.sends,
)

pub whole_at_server : (opened : LinkParameters) (k : ServerState) (taken : ℕ) → k.written + taken ≡ k.due → ServerEnds k →
    receives_in_use (server_state_after opened k (QueueWritten taken)) ≡ length k.calls + one_if (is_begun k.received.begun)
unfolding server_state_after receives_in_use
whole_at_server opened k taken all h =
    let none : ends_waiting (k.written + taken) k.message_ends ≡ 0 = ap (λ (n : ℕ). ends_waiting n k.message_ends) all ∙ none_waiting k.due k.message_ends h.messages in
    omega (arith, none)

-- ---- What is due is counted

pub client_due : (opened : LinkParameters) (k : ClientState) (event : RunEvent) → (client_state_after opened k event).due ≡ k.due + length (client_output opened k event)
unfolding client_state_after client_output
client_due opened k (FrameReceived f) = by (is_hello f)
  where
    by_request : (m : Option (List ℕ)) (due : ℕ) (q : Option ReadRequest) → due ≡ k.due + length (response_output k f.end q) → (with_request (with_message k f.end m) due q).due ≡ due
    by_request None due None is = omega (arith, is)
    by_request (Some m) due None is = omega (arith, is)
    by_request m due (Some q) is = refl

    by_segment : (r : Result Segment ℕ) → (with_segment k f r).due ≡ k.due + length (response_output k f.end (segment_request r))
    by_segment (Err reason) = omega arith
    by_segment (Ok segment) = by_request (message_completed k.received segment) (due_with_response k f segment) (read_request_of segment) refl

    by : (b : Bool) → (cond b (with_hello opened k f) (with_segment k f (client_segment k f))).due ≡ k.due + length (cond b (calls_output opened 1 k.outstanding) (response_output k f.end (segment_request (client_segment k f))))
    by true = refl
    by false = by_segment (client_segment k f)
client_due opened k (CallSubmitted place a) = refl
client_due opened k (MemoryRevoked place xid) = omega arith
client_due opened k (CallExecuted call) = omega arith
client_due opened k (QueueWritten taken) = omega arith
client_due opened k (ServerTold what) = omega arith

pub server_due : (opened : LinkParameters) (k : ServerState) (event : RunEvent) → (server_state_after opened k event).due ≡ k.due + length (server_output opened k event)
unfolding server_state_after server_output
server_due opened k (FrameReceived f) = by (is_hello f)
  where
    by : (b : Bool) → (cond b (with_own_hello opened k f) (with_effect k f (frame_effect k f))).due ≡ k.due + length (cond b (server_hello opened f) (effect_output k (frame_effect k f)))
    by true = refl
    by false = refl
server_due opened k (CallSubmitted place a) = omega arith
server_due opened k (MemoryRevoked place xid) = omega arith
server_due opened k (CallExecuted e) = refl
server_due opened k (QueueWritten taken) = omega arith
server_due opened k (ServerTold what) = omega arith
