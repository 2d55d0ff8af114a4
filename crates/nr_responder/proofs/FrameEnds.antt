-- Why a frame ends a responder's side of the link is why it ends the server of a run.
use Rattle.std.proofs.Common.{◌≡◌, ℕ, ◌+◌, ◌<◌, ltb, List, [], ◌∷◌, length, take, Option, Result, Ok, Err, refl, sym, ap, ◌∙◌, arith, inl, inr}
use Rattle.std.specs.List.{filter}
use Rattle.std.proofs.lemmas.Bool.{cases_lt, lt-ltb, le-ltb}
use Rattle.nr_wire.specs.declared.stream.Awaited.TheVariants.{Fpdu}
use Rattle.nr_wire.specs.Segment.{Segment}
use Rattle.nr_regions.specs.declared.denied.Denied.{Denied}
use Rattle.nr_regions.specs.RegisteredMemory.{Access}
use Rattle.nr_regions.specs.Access.{Grant}
use Rattle.nr_link.specs.Frames.{Frame}
use Rattle.nr_link.specs.SegmentFaults.{Readiness, SegmentReason, segment_reason, is_begun}
use Rattle.nr_link.specs.Ending.{end_of_fault, frame_end, frame_end_by, frame_segment, missing_access}
use Rattle.nr_link.specs.KeptSends.{received_within}
use Rattle.nr_link.proofs.BegunSends.{judged_alike}
use Rattle.nr_endpoint.specs.SendQueue.{SendQueue}
use Rattle.nr_endpoint.specs.LinkState.{LinkState}
use Rattle.nr_endpoint.specs.Judging as endpoint
use Rattle.nr_endpoint.specs.Judging.{next_frame, with_frame}
use Rattle.nr_endpoint.specs.Laws.{DeniesAlike}
use Rattle.nr_endpoint.proofs.GrantLaws.{grants_end_alike}
use Rattle.nr_reduce.specs.declared.mark.LinkParameters.{LinkParameters}
use Rattle.nr_endpoint.specs.Hellos.{receive_length_for}
use Rattle.nr_reduce.specs.Plans.{one_if}
use Rattle.nr_reduce.specs.OfferedRegions.{region_grants}
use Rattle.nr_reduce.specs.ServerState.{PendingRead, ServerState, receives_in_use}
use Rattle.nr_reduce.specs.ServerReads as server
use Rattle.nr_reduce.specs.Server.{server_readiness}
use Rattle.nr_reduce.proofs.MemorySteps.{denied_alike}
use Rattle.nr_responder.specs.ResponderState.{unsent}
use Rattle.nr_responder.specs.Keeping.{IsServer, LinkKeeps, QueueKeeps, open_responses}
use Rattle.nr_responder.proofs.SendFrames.{server_reads}
use Rattle.nr_responder.proofs.Ends.{ends_waiting_is}

-- ---- What an end has ready for a segment

pub free_if : (free used all : ℕ) → free + used ≡ all → ltb 0 free ≡ ltb used all
free_if free used all is =
    elim (cases_lt 0 free) [
      | inl lt ↦ lt-ltb 0 free lt ∙ sym (lt-ltb used all (omega arith))
      | inr le ↦ le-ltb 0 free le ∙ sym (le-ltb used all (omega arith))
    ]

expected_alike : (response_bytes : ℕ) (reads : List PendingRead) → endpoint.expected_response (open_responses response_bytes (take 8 reads)) ≡ server.expected_read_response response_bytes reads
expected_alike response_bytes [] = refl
expected_alike response_bytes (r ∷ reads) = refl

pub in_use : (k : ServerState) (waiting : ℕ) → waiting ≡ length (filter (ltb k.written) k.message_ends) → receives_in_use k ≡ waiting + length k.calls + one_if (is_begun k.received.begun)
unfolding receives_in_use
in_use k waiting is = omega (arith, is)

-- how many Sends wait is how many messages of the server do
pub waiting_is : (k : ServerState) (q : SendQueue) → QueueKeeps k q → length q.send_ends ≡ length (filter (ltb k.written) k.message_ends)
waiting_is k q h = ap (λ (xs : List ℕ). length xs) h.ends_are ∙ ends_waiting_is k.written (length q.hello) k.message_ends

pub receives_used : (opened : LinkParameters) (k : ServerState) (s : LinkState) → LinkKeeps opened k s → s.receive_queue.free + receives_in_use k ≡ opened.receives
receives_used opened k s h = rw (in_use k (unsent s) (waiting_is k s.send_queue h.queue)) h.free

pub readiness_alike : (opened : LinkParameters) (k : ServerState) (s : LinkState) (missing : Option Denied) → LinkKeeps opened k s → IsServer k s.place →
    endpoint.readiness s missing ≡ record (server_readiness opened k missing) { received = received_within (receive_length_for opened.server) k.received }
readiness_alike opened k s missing h is =
    let free : ltb 0 s.receive_queue.free ≡ ltb (receives_in_use k) opened.receives = free_if s.receive_queue.free (receives_in_use k) opened.receives (receives_used opened k s h) in
    let expected : endpoint.expected_response s.reads ≡ server.expected_read_response k.response_bytes k.reads = ap endpoint.expected_response h.reads ∙ expected_alike k.response_bytes k.reads in
    let responses : length s.send_queue.response_ends ≡ 0 = ap (λ (xs : List ℕ). length xs) h.queue.responses in
    λ i. record {
      received = h.received i;
      has_receive = free i;
      message_max = h.message_max i;
      missing = missing;
      expected = expected i;
      responses = responses i;
    }

pub faults_alike : (opened : LinkParameters) (k : ServerState) (s : LinkState) (missing : Option Denied) (segment : Segment) → LinkKeeps opened k s → IsServer k s.place →
    segment_reason (endpoint.readiness s missing) segment ≡ segment_reason (server_readiness opened k missing) segment
faults_alike opened k s missing segment h is =
    ap (λ (r : Readiness Denied). segment_reason r segment) (readiness_alike opened k s missing h is)
    ∙ judged_alike (receive_length_for opened.server) (server_readiness opened k missing) segment

-- ---- A frame

ends_by_lem : (one two : Option Denied → Readiness Denied) (grants : List Grant) (f : Frame) → ((missing : Option Denied) (segment : Segment) → segment_reason (one missing) segment ≡ segment_reason (two missing) segment) →
    (r : Result Segment ℕ) → frame_end_by one grants f r ≡ frame_end_by two grants f r
ends_by_lem one two grants f same (Ok segment) = ap (λ (fault : Option (SegmentReason Denied)). end_of_fault f segment fault) (same (missing_access grants f segment) segment)
ends_by_lem one two grants f same (Err reason) = refl

pub frame_ends : (opened : LinkParameters) (k : ServerState) (s : LinkState) (bytes : List ℕ) → LinkKeeps opened k s → IsServer k s.place → 0 < length bytes →
    (with_frame s Fpdu bytes).ended ≡ frame_end (server_readiness opened k) (region_grants (s.place + length bytes) k.regions) (next_frame s bytes)
unfolding frame_end frame_segment
frame_ends opened k s bytes h is some =
    let f : Frame = next_frame s bytes in
    let grants : List Grant = region_grants (s.place + length bytes) k.regions in
    let alike : DeniesAlike s.memory grants f.end = λ (access : Access). denied_alike k.regions k.accesses_received s.place f.end s.memory access is.offered h.memory (omega arith) in
    grants_end_alike s grants bytes h.live alike
    ∙ ap (λ (r : Result Segment ℕ). frame_end_by (endpoint.readiness s) grants f r) (server_reads s bytes h.side)
    ∙ ends_by_lem (endpoint.readiness s) (server_readiness opened k) grants f (λ (missing : Option Denied) (segment : Segment). faults_alike opened k s missing segment h is) (frame_segment f)
