-- A segment is judged by what a requester keeps as by what its client received.
use Rattle.std.proofs.Common.{◌≡◌, ℕ, ◌+◌, ◌<◌, Bool, true, false, cond, not, ◌||◌, eqb, ltb, List, [], ◌∷◌, Option, None, Some, Result, Ok, Err, refl, sym, ap, ◌∙◌, arith}
use Rattle.nr_wire.specs.declared.stream.Awaited.TheVariants.{Fpdu}
use Rattle.nr_wire.specs.Segment.{Segment}
use Rattle.nr_wire.specs.Segment.Segment.{Tagged, Untagged}
use Rattle.nr_regions.specs.declared.denied.Denied.{Denied}
use Rattle.nr_regions.specs.Access.{Grant}
use Rattle.nr_link.specs.Reasons.{REASON_MSN, REASON_OFFSET, REASON_FORM, REASON_REQUESTS, REASON_SHORT, REASON_LONG}
use Rattle.nr_link.specs.Frames.{Frame}
use Rattle.nr_link.specs.ReceiveState.{ReceiveState, is_send, message_completed}
use Rattle.nr_link.specs.SegmentFaults.{Readiness, SegmentReason, segment_reason, first_fault, reason_if, next_msn, next_offset, is_begun, no_buffer, missing_fault, is_malformed, is_too_many, message_length_is, terminate_fault}
use Rattle.nr_link.specs.SegmentFaults.SegmentReason.{NoBuffer}
use Rattle.nr_link.specs.Ending.{end_of_fault, frame_end_by, frame_segment_with, missing_access}
use Rattle.nr_link.proofs.BegunSends.{judged_alike}
use Rattle.nr_endpoint.specs.Hellos.{receive_length_for, takes_invalidate}
use Rattle.nr_endpoint.specs.LinkState.{LinkState}
use Rattle.nr_endpoint.specs.ReceiveQueue.{sends_begun}
use Rattle.nr_endpoint.specs.Judging.{next_frame, next_segment, with_frame, expected_response, readiness}
use Rattle.nr_endpoint.proofs.GrantLaws.{grants_end_alike}
use Rattle.nr_reduce.specs.declared.mark.LinkParameters.{LinkParameters}
use Rattle.nr_reduce.specs.OfferedRegions.{region_grants}
use Rattle.nr_reduce.specs.ClientState.{ClientState, responses_owed}
use Rattle.nr_reduce.specs.Client.{client_readiness, client_segment}
use Rattle.nr_reduce.specs.KeptClient.{MemoryKeeps}
use Rattle.nr_reduce.proofs.MemorySteps.{denied_alike}
use Rattle.nr_requester.specs.Standing.{LinkKeeps}

-- what is ready, by what was received
ready_with : (message_max : ℕ) → ReceiveState → Bool → Option Denied → ℕ → Readiness Denied
ready_with message_max h free missing responses = record { received = h; has_receive = free; message_max = message_max; missing = missing; expected = None; responses = responses }

receive_alike : (most : ℕ) (h : ReceiveState) (free : Bool) (missing : Option Denied) (responses msn : ℕ) (b : Bool) → (is_begun h.begun || free) ≡ true → no_buffer (ready_with most h free missing responses) b msn ≡ no_buffer (ready_with most h true missing responses) b msn
unfolding ready_with
receive_alike most h free missing responses msn false some = refl
receive_alike most h free missing responses msn true some =
    let no : Option (SegmentReason Denied) = Some (NoBuffer msn) in
    ap (λ (x : Bool). cond x None no) some ∙ sym (ap (λ (x : Bool). cond x None no) (always (is_begun h.begun)))
  where
    always : (x : Bool) → (x || true) ≡ true
    always true = refl
    always false = refl

-- the one receive is free, or a Send is begun in it
receive_fault : (most : ℕ) (h : ReceiveState) (free : Bool) (missing : Option Denied) (responses : ℕ) (segment : Segment) → (is_begun h.begun || free) ≡ true → segment_reason (ready_with most h free missing responses) segment ≡ segment_reason (ready_with most h true missing responses) segment
unfolding segment_reason ready_with
receive_fault most h free missing responses (Tagged last opcode stag to payload) some = refl
receive_fault most h free missing responses (Untagged last opcode w queue msn offset payload) some =
    let same = receive_alike most h free missing responses msn (is_send opcode) some in
    let message : Option (List ℕ) = message_completed h (Untagged last opcode w queue msn offset payload) in
    λ i. first_fault (
    reason_if REASON_MSN (not (eqb msn (next_msn h queue)))
    ∷ reason_if REASON_OFFSET (not (eqb offset (next_offset h queue)))
    ∷ same i
    ∷ reason_if REASON_FORM (is_malformed opcode last payload)
    ∷ missing_fault missing
    ∷ reason_if REASON_REQUESTS (is_too_many (ready_with most h true missing responses) opcode)
    ∷ reason_if REASON_LONG (message_length_is (ltb most) message)
    ∷ reason_if REASON_SHORT (message_length_is (λ n. ltb n 16) message)
    ∷ terminate_fault opcode payload
    ∷ [])

free_receive : (free : ℕ) (begun : Option (List ℕ)) → free + sends_begun begun ≡ 1 → (is_begun begun || ltb 0 free) ≡ true
free_receive free (Some b) e = refl
free_receive free None e = (let one : free ≡ 1 = omega (arith, e) in ap (λ (n : ℕ). ltb 0 n) one)

readiness_alike : (opened : LinkParameters) (s : LinkState) (k : ClientState) (missing : Option Denied) (segment : Segment) → LinkKeeps opened s k →
    segment_reason (readiness s missing) segment ≡ segment_reason (client_readiness k missing) segment
unfolding ready_with
readiness_alike opened s k missing segment keeps =
    (λ i. segment_reason (record { received = keeps.received i; has_receive = ltb 0 s.receive_queue.free; message_max = keeps.message_max i; missing = missing; expected = expected_response (keeps.no_reads i); responses = keeps.responses.count i }) segment)
    ∙ judged_alike (receive_length_for opened.client) (ready_with k.down_max k.received (ltb 0 s.receive_queue.free) missing (responses_owed k)) segment
    ∙ receive_fault k.down_max k.received (ltb 0 s.receive_queue.free) missing (responses_owed k) segment (free_receive s.receive_queue.free k.received.begun keeps.receive)

frame_alike : (opened : LinkParameters) (s : LinkState) (k : ClientState) (grants : List Grant) (f : Frame) (r : Result Segment ℕ) → LinkKeeps opened s k →
    frame_end_by (readiness s) grants f r ≡ frame_end_by (client_readiness k) grants f r
frame_alike opened s k grants f (Ok segment) keeps =
    ap (λ (x : Option (SegmentReason Denied)). end_of_fault f segment x) (readiness_alike opened s k (missing_access grants f segment) segment keeps)
frame_alike opened s k grants f (Err reason) keeps = refl

-- the next frame is read as the client reads it
pub segments_alike : (opened : LinkParameters) (s : LinkState) (k : ClientState) (frame : List ℕ) → LinkKeeps opened s k → s.agreed.invalidates ≡ k.invalidates → next_segment s frame ≡ client_segment k (next_frame s frame)
segments_alike opened s k frame keeps agrees =
    (λ i. frame_segment_with (takes_invalidate (keeps.side i) s.agreed) (next_frame s frame)) ∙ ap (λ (b : Bool). frame_segment_with b (next_frame s frame)) agrees

-- A frame ends the side of the link exactly if, and as, it ends the client for other causes than its message.
pub ends_alike : (opened : LinkParameters) (s : LinkState) (k : ClientState) (count : ℕ) (frame : List ℕ) → s.ended ≡ None → LinkKeeps opened s k → s.agreed.invalidates ≡ k.invalidates → MemoryKeeps s.memory k count → count < (next_frame s frame).end →
    (with_frame s Fpdu frame).ended ≡ frame_end_by (client_readiness k) (region_grants (next_frame s frame).end k.regions) (next_frame s frame) (client_segment k (next_frame s frame))
ends_alike opened s k count frame lives keeps agrees memory lt =
    let f = next_frame s frame in
    let grants = region_grants f.end k.regions in
    grants_end_alike s grants frame lives (λ access. denied_alike k.regions k.accesses_received count f.end s.memory access memory.offered memory.holds lt)
    ∙ frame_alike opened s k grants f (next_segment s frame) keeps
    ∙ ap (λ (r : Result Segment ℕ). frame_end_by (client_readiness k) grants f r) (segments_alike opened s k frame keeps agrees)
