-- What a frame of the peer makes of a side of a link: it ends the side, or it has its effect (RFC 5040 sections 5 and 7; RFC 5041
-- sections 5 and 7). Why a segment ends a link is nr_link's definition, with what its access lacks of the regions.
use Rattle.std.specs.Prelude.{ℕ, ◌+◌, ◌-◌, nat_lt, Bool, true, false, ◌==◌, if◌then◌else◌, List, [], ◌∷◌, length, Option, None, Some, option_and_then, Result, Ok, Err, not}
use Rattle.nr_wire.specs.Constants.{OPCODE_READ_RESPONSE}
use Rattle.nr_wire.specs.declared.hello.Side.{Side}
use Rattle.nr_wire.specs.declared.hello.Side.TheVariants.{Initiator, Responder}
use Rattle.nr_wire.specs.declared.stream.Awaited.{Awaited}
use Rattle.nr_wire.specs.declared.stream.Awaited.TheVariants.{Hello as HelloFrom, Fpdu}
use Rattle.nr_wire.specs.Hello.{Hello, hello_of}
use Rattle.nr_wire.specs.Segment.{Segment}
use Rattle.nr_wire.specs.Segment.Segment.{Tagged, Untagged}
use Rattle.nr_regions.specs.declared.denied.Denied.{Denied}
use Rattle.nr_regions.specs.declared.right.Right.TheVariants.{Fetch}
use Rattle.nr_regions.specs.RegisteredMemory.{RegisteredMemory, Access, denial, after_place, bytes_at}
use Rattle.nr_link.specs.declared.end.End.{End}
use Rattle.nr_link.specs.declared.end.End.TheVariants as ends
use Rattle.nr_link.specs.Frames.{Frame}
use Rattle.nr_link.specs.Reasons.{REASON_SIZES}
use Rattle.nr_link.specs.declared.agreement.Agreement.{Agreement}
use Rattle.nr_link.specs.Output.{hello_with, terminate_message}
use Rattle.nr_link.specs.ReceiveState.{ReadRequest, read_request_of}
use Rattle.nr_link.specs.SegmentFaults.{ExpectedResponse, Readiness, segment_reason}
use Rattle.nr_link.specs.Ending.{access_of, end_of_fault, frame_segment_with}
use Rattle.nr_endpoint.specs.SendQueue.{SendQueue, with_hello, with_response, with_end}
use Rattle.nr_endpoint.specs.ReceiveQueue.{with_segment, with_read_done}
use Rattle.nr_endpoint.specs.Hellos.{own_private, side_agreement, has_same_sizes, received_max, client_heard, takes_invalidate}
use Rattle.nr_endpoint.specs.LinkState.{LinkState}

-- ---- What ends the side

-- what the access of a segment lacks of the regions, if anything
abbrev pub missing_access : RegisteredMemory → Segment → Option Denied
missing_access m segment = option_and_then (denial m) (access_of segment)

-- the Read Request that was open longest is the one that a response answers
abbrev pub expected_response : List ExpectedResponse → Option ExpectedResponse
expected_response [] = None
expected_response (r ∷ reads) = Some r

abbrev pub readiness : LinkState → Option Denied → Readiness Denied
readiness s missing = record {
  received = s.receive_queue.received;
  has_receive = nat_lt 0 s.receive_queue.free;
  message_max = s.message_max;
  missing = missing;
  expected = expected_response s.reads;
  responses = length s.send_queue.response_ends;
}

unfoldable pub segment_end : LinkState → Frame → Segment → Option End
segment_end s f segment = end_of_fault f segment (segment_reason (readiness s (missing_access s.memory segment)) segment)

-- The side ends: it writes its last bytes, and nothing that it receives counts from this frame on.
abbrev pub with_end_of : End → LinkState → LinkState
with_end_of end s = record s { ended = Some end; send_queue = with_end s.side end s.send_queue }

-- ---- What a segment does that doesn't end the side

-- the open reads after a Read Response with n bytes, which may be its last segment
abbrev pub reads_after : Bool → ℕ → List ExpectedResponse → List ExpectedResponse
reads_after last n [] = []
reads_after true n (r ∷ reads) = reads
reads_after false n (r ∷ reads) = record { sink = r.sink; at = r.at + n; left = r.left - n } ∷ reads

abbrev pub with_read_response : Bool → ℕ → LinkState → LinkState
with_read_response last n s = record s {
  reads = reads_after last n s.reads;
  receive_queue = if last then with_read_done s.receive_queue else s.receive_queue;
}

abbrev pub fetch_access : ReadRequest → Access
fetch_access r = record { right = Fetch; stag = r.stag; to = r.to; len = r.size }

-- a Read Request is answered with the present bytes (RFC 5040 section 5.2)
abbrev pub with_read_request : Option ReadRequest → RegisteredMemory → SendQueue → SendQueue
with_read_request None m q = q
with_read_request (Some r) m q = with_response r.sink r.sink_to (bytes_at m (fetch_access r)) q

-- A tagged segment puts its payload into its region; a Send, a Read Request or a Terminate is counted in its queue.
unfoldable pub with_effect : Segment → LinkState → LinkState
with_effect (Tagged last opcode stag to payload) s =
    let placed : LinkState = record s { memory = after_place s.memory stag to payload } in
    if opcode == OPCODE_READ_RESPONSE then with_read_response last (length payload) placed else placed
with_effect (Untagged last opcode w queue msn offset payload) s = record s {
  receive_queue = with_segment (Untagged last opcode w queue msn offset payload) s.receive_queue;
  send_queue = with_read_request (read_request_of (Untagged last opcode w queue msn offset payload)) s.memory s.send_queue;
}

-- ---- A frame

-- the next frame, with its offset
abbrev pub next_frame : LinkState → List ℕ → Frame
next_frame s bytes = record { at = s.place; end = s.place + length bytes; bytes = bytes }

abbrev pub after_frame : Frame → LinkState → LinkState
after_frame f s = record s { last = f.at; place = f.end }

abbrev pub with_segment_by : Frame → Segment → Option End → LinkState → LinkState
with_segment_by f segment (Some end) s = with_end_of end s
with_segment_by f segment None s = after_frame f (with_effect segment s)

-- after the next frame, if it holds this segment
abbrev pub with_next_segment : LinkState → (bytes : List ℕ) → Segment → LinkState
with_next_segment s bytes segment = with_segment_by (next_frame s bytes) segment (segment_end s (next_frame s bytes) segment) s

unfoldable pub with_fpdu : Frame → Result Segment ℕ → LinkState → LinkState
with_fpdu f (Ok segment) s = with_segment_by f segment (segment_end s f segment) s
with_fpdu f (Err reason) s = with_end_of (ends.Bad f.at reason) s

-- A responder answers the initiator's hello by its own (RFC 5044 section 7.1).
abbrev pub reply_hello : Side → (private : List ℕ) → List ℕ
reply_hello Initiator private = []
reply_hello Responder private = hello_with Responder private

-- the peer's hello was accepted: what both said is what is agreed, and the initiator's says the number of the link's client
abbrev pub with_agreement : (own peer_private : List ℕ) → LinkState → LinkState
with_agreement own peer_private s = record s {
  has_hello = true;
  send_queue = with_hello (reply_hello s.side own) s.send_queue;
  private = own;
  agreed = side_agreement s.side own peer_private;
  message_max = received_max s.side (side_agreement s.side own peer_private);
  client = client_heard s.terms s.side peer_private;
}

unfoldable pub with_peer_hello : Frame → Result Hello ℕ → LinkState → LinkState
with_peer_hello f (Ok hello) s = after_frame f (with_agreement (own_private s.terms s.side hello.private) hello.private s)
with_peer_hello f (Err reason) s = with_end_of (ends.Bad f.at reason) s

-- what is agreed with a peer whose hello has this private data
abbrev pub agreed_with : LinkState → (peer_private : List ℕ) → Agreement
agreed_with s peer_private = side_agreement s.side (own_private s.terms s.side peer_private) peer_private

-- A responder's hello is refused if other lengths of Sends are agreed with it than an earlier link agreed on.
abbrev pub has_other_sizes : Side → LinkState → (peer_private : List ℕ) → Bool
has_other_sizes Initiator s peer_private = false
has_other_sizes Responder s peer_private = not (has_same_sizes s.earlier (agreed_with s peer_private))

-- The side ends for them in its state before the hello. Its Terminate follows its own hello at once, before any FPDU that waits for the peer's
-- hello (RFC 5044 section 7.1; the reason is own).
abbrev pub with_other_sizes : Frame → LinkState → LinkState
with_other_sizes f s = record s { ended = Some (ends.Bad f.at REASON_SIZES); send_queue = with_hello (terminate_message REASON_SIZES) s.send_queue }

abbrev pub with_hello_from : Side → Frame → Result Hello ℕ → LinkState → LinkState
with_hello_from Initiator f hello s = with_peer_hello f hello s
with_hello_from Responder f (Err reason) s = with_peer_hello f (Err reason) s
with_hello_from Responder f (Ok hello) s = if has_other_sizes Responder s hello.private then with_other_sizes f s else with_peer_hello f (Ok hello) s

-- the segment of the next frame
abbrev pub next_segment : LinkState → List ℕ → Result Segment ℕ
next_segment s bytes = frame_segment_with (takes_invalidate s.side s.agreed) (next_frame s bytes)

-- after the next frame
abbrev pub with_frame : LinkState → Awaited → List ℕ → LinkState
with_frame s (HelloFrom side) bytes = with_hello_from side (next_frame s bytes) (hello_of side bytes) s
with_frame s Fpdu bytes = with_fpdu (next_frame s bytes) (next_segment s bytes) s
