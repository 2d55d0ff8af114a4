-- What each frame of a side carries, without the numbers of messages: a hello, one segment of a Send, a Read Request, or one segment
-- of an RDMA Write or of a Read Response. What a side sends for an event is a list of these.
use Rattle.std.specs.Prelude.{◌≡◌, ℕ, ◌+◌, ◌-◌, ◌*◌, Bool, true, false, ◌==◌, ◌&&◌, if◌then◌else◌, List, [], ◌∷◌, ◌++◌, length, take, drop, map, Option, None, Some, is_some, Ok, min}
use Rattle.std.specs.List.{range_with_len}
use Rattle.nr_xdr.specs.Item.{word, hyper}
use Rattle.nr_wire.specs.Constants.{OPCODE_WRITE, OPCODE_READ_REQUEST, OPCODE_READ_RESPONSE, OPCODE_SEND, OPCODE_SEND_INVALIDATE, QUEUE_SEND, QUEUE_READ_REQUEST}
use Rattle.nr_wire.specs.declared.hello.Side.{Side}
use Rattle.nr_wire.specs.Segment.{Segment, encoding, segment_of}
use Rattle.nr_wire.specs.Segment.Segment.{Tagged, Untagged}
use Rattle.nr_header.specs.declared.header.RdmaSegment.{RdmaSegment as Part}
use Rattle.nr_header.specs.declared.header.ChunkLists.{ChunkLists}
use Rattle.nr_reduce.specs.declared.mark.LinkParameters.{LinkParameters}
use Rattle.nr_link.specs.Limits.{segment_max}
use Rattle.nr_link.specs.Output.{segment_count, segment_payload, msn_word}
use Rattle.nr_link.specs.Frames.{Frame, is_hello}
use Rattle.nr_link.specs.ReceiveState.{ReceiveState, ReadRequest, begun_bytes}
use Rattle.nr_link.specs.Ending.{segment_taken}
use Rattle.nr_reduce.specs.Holds.{Answer, answer_message, chunk_error, first_chunk, no_segments}
use Rattle.nr_reduce.specs.Events.{RunEvent}
use Rattle.nr_reduce.specs.Events.RunEvent.{FrameReceived, CallSubmitted, MemoryRevoked, CallExecuted, QueueWritten, ServerTold}
use Rattle.nr_reduce.specs.ClientState.{ClientState, OutstandingCall, client_memory_at}
use Rattle.nr_reduce.specs.Client.{client_segment, outstanding_of, segment_names, segment_request}
use Rattle.nr_reduce.specs.ServerState.{ServerState, PendingRead, credit_word}
use Rattle.nr_reduce.specs.ServerFrames.{FrameEffect, frame_effect}
use Rattle.nr_reduce.specs.Server.{newly_open_reads, offer_of, answer_of_target, stag_named}
use Rattle.nr_rpc.specs.Reading.{call_of, target_of}
use Rattle.nr_laws.specs.MessageSegments.{send_opcode, send_word}
use Rattle.nr_laws.proofs.FirstHellos.{first_hello}
use Rattle.nr_laws.proofs.Outputs.{message_of_call}
use Rattle.nr_laws.proofs.PlainSegments.{plain_result}

-- a message and its last segment: the offset of its payload in the message, the payload, and the STag that it names
pub record SentMessage : Type 0 where
  pub bytes : List ℕ
  pub offset : ℕ
  pub payload : List ℕ
  pub named : Option ℕ

-- The last segment of a Send is SendFrame, with the message that it completes; any other segment of a Send is PartFrame, which has whether
-- the Send is one with Invalidate.
pub data FrameContent : Type 0 where
  HelloFrame : FrameContent
  PartFrame : (named : Bool) → (offset : ℕ) → (payload : List ℕ) → FrameContent
  SendFrame : (message : SentMessage) → FrameContent
  RequestFrame : (sink at size stag to : ℕ) → FrameContent
  TaggedFrame : (last : Bool) → (opcode stag to : ℕ) → (payload : List ℕ) → FrameContent

-- ---- How many Sends, Read Requests, last segments of Read Responses, and hellos are among some frames

abbrev pub sends_in : FrameContent → ℕ
sends_in HelloFrame = 0
sends_in (PartFrame named offset payload) = 0
sends_in (SendFrame message) = 1
sends_in (RequestFrame sink at size stag to) = 0
sends_in (TaggedFrame last opcode stag to payload) = 0

abbrev pub requests_in : FrameContent → ℕ
requests_in HelloFrame = 0
requests_in (PartFrame named offset payload) = 0
requests_in (SendFrame message) = 0
requests_in (RequestFrame sink at size stag to) = 1
requests_in (TaggedFrame last opcode stag to payload) = 0

abbrev pub one_if_response : Bool → ℕ
one_if_response true = 1
one_if_response false = 0

-- the last segment of a Read Response
abbrev pub responses_in : FrameContent → ℕ
responses_in HelloFrame = 0
responses_in (PartFrame named offset payload) = 0
responses_in (SendFrame message) = 0
responses_in (RequestFrame sink at size stag to) = 0
responses_in (TaggedFrame last opcode stag to payload) = one_if_response (opcode == OPCODE_READ_RESPONSE && last)

abbrev pub hellos_in : FrameContent → ℕ
hellos_in HelloFrame = 1
hellos_in (PartFrame named offset payload) = 0
hellos_in (SendFrame message) = 0
hellos_in (RequestFrame sink at size stag to) = 0
hellos_in (TaggedFrame last opcode stag to payload) = 0

abbrev pub total_of : (FrameContent → ℕ) → List FrameContent → ℕ
total_of one [] = 0
total_of one (p ∷ ps) = one p + total_of one ps

-- ---- As segments, after n Sends and r Read Requests of the side: their message numbers go on (RFC 5041 section 4.3)

-- those of a Send with Invalidate as of a plain Send

abbrev pub part_segment : (sends offset : ℕ) → List ℕ → Segment
part_segment n offset payload = Untagged false OPCODE_SEND 0 QUEUE_SEND (msn_word (n + 1)) offset payload

abbrev pub last_segment : (sends : ℕ) → SentMessage → Segment
last_segment n message = Untagged true OPCODE_SEND 0 QUEUE_SEND (msn_word (n + 1)) message.offset message.payload

-- with the bytes of its Send that are begun, the last segment completes its message
abbrev pub CompletesMessage : ReceiveState → SentMessage → Type 0
CompletesMessage h message = begun_bytes h.begun ++ message.payload ≡ message.bytes

abbrev pub numbered_segment : (sends requests : ℕ) → FrameContent → Option Segment
numbered_segment n r HelloFrame = None
numbered_segment n r (PartFrame named offset payload) = Some (part_segment n offset payload)
numbered_segment n r (SendFrame message) = Some (last_segment n message)
numbered_segment n r (RequestFrame sink at size stag to) =
    Some (Untagged true OPCODE_READ_REQUEST 0 QUEUE_READ_REQUEST (msn_word (r + 1)) 0
    (word sink ++ (hyper at ++ (word size ++ (word stag ++ hyper to)))))
numbered_segment n r (TaggedFrame last opcode stag to payload) = Some (Tagged last opcode stag to payload)

-- as they are written: those of a Send with Invalidate have its opcode, and the last one has the STag (RFC 5040 section 4.7)
abbrev pub part_opcode : (named : Bool) → ℕ
part_opcode true = OPCODE_SEND_INVALIDATE
part_opcode false = OPCODE_SEND

abbrev pub written_part : (sends : ℕ) → (named : Bool) → (offset : ℕ) → List ℕ → Segment
written_part n named offset payload = Untagged false (part_opcode named) 0 QUEUE_SEND (msn_word (n + 1)) offset payload

abbrev pub written_last : (sends : ℕ) → SentMessage → Segment
written_last n message = Untagged true (send_opcode message.named) (send_word message.named true) QUEUE_SEND (msn_word (n + 1)) message.offset message.payload

abbrev pub written_segment : (sends requests : ℕ) → FrameContent → Option Segment
written_segment n r HelloFrame = None
written_segment n r (PartFrame named offset payload) = Some (written_part n named offset payload)
written_segment n r (SendFrame message) = Some (written_last n message)
written_segment n r (RequestFrame sink at size stag to) = numbered_segment n r (RequestFrame sink at size stag to)
written_segment n r (TaggedFrame last opcode stag to payload) = numbered_segment n r (TaggedFrame last opcode stag to payload)

-- the STag that a frame names
abbrev pub name_in : FrameContent → Option ℕ
name_in HelloFrame = None
name_in (PartFrame named offset payload) = None
name_in (SendFrame message) = message.named
name_in (RequestFrame sink at size stag to) = None
name_in (TaggedFrame last opcode stag to payload) = None

-- it is of no Send with Invalidate
abbrev pub IsPlainContent : FrameContent → Type 0
IsPlainContent HelloFrame = Unit {0}
IsPlainContent (PartFrame named offset payload) = named ≡ false
IsPlainContent (SendFrame message) = message.named ≡ None
IsPlainContent (RequestFrame sink at size stag to) = Unit {0}
IsPlainContent (TaggedFrame last opcode stag to payload) = Unit {0}

-- a side takes it, by whether it takes Sends with Invalidate
abbrev pub IsTaken : (invalidates : Bool) → FrameContent → Type 0
IsTaken true p = Unit {0}
IsTaken false p = IsPlainContent p

abbrev pub frame_bytes : LinkParameters → Side → Option Segment → List ℕ
frame_bytes opened side None = first_hello opened side
frame_bytes opened side (Some segment) = encoding segment

-- the bytes of some frames
abbrev pub output_bytes : LinkParameters → Side → (sends requests : ℕ) → List FrameContent → List ℕ
output_bytes opened side n r [] = []
output_bytes opened side n r (p ∷ ps) = frame_bytes opened side (written_segment n r p) ++ output_bytes opened side (n + sends_in p) (r + requests_in p) ps

-- a frame has the bytes of this content: it isn't the hello, and reads as it was written
pub record IsSent (n r : ℕ) (f : Frame) (p : FrameContent) : Type 0 where
  pub behind : is_hello f ≡ false
  pub segment : Segment
  pub is_segment : written_segment n r p ≡ Some segment
  pub reads : segment_of f.bytes ≡ Ok segment

-- a frame carries this content to a side, by whether that takes Sends with Invalidate: it is taken as the numbered segment, and names the STag
pub record Carries (invalidates : Bool) (n r : ℕ) (f : Frame) (p : FrameContent) : Type 0 where
  pub behind : is_hello f ≡ false
  pub segment : Segment
  pub is_segment : numbered_segment n r p ≡ Some segment
  pub reads : plain_result (segment_taken invalidates f.bytes) ≡ Ok segment
  pub names : segment_names (segment_taken invalidates f.bytes) ≡ name_in p

-- ---- What each side sends for an event

abbrev pub tagged_frame : ℕ → ℕ → ℕ → List ℕ → ℕ → FrameContent
tagged_frame opcode stag to bytes i = TaggedFrame (i + 1 == segment_count bytes) opcode stag (to + segment_max * i) (segment_payload bytes i)

unfoldable pub tagged_frames : (opcode stag to : ℕ) → List ℕ → List FrameContent
tagged_frames opcode stag to bytes = map (tagged_frame opcode stag to bytes) (range_with_len 0 (segment_count bytes))

-- A message as its segments: how many are before the last one, these, and the last one.
abbrev pub last_index : List ℕ → ℕ
last_index message = segment_count message - 1

abbrev pub part_frame : (named : Option ℕ) → List ℕ → ℕ → FrameContent
part_frame named message i = PartFrame (is_some named) (segment_max * i) (segment_payload message i)

abbrev pub last_part : (named : Option ℕ) → List ℕ → SentMessage
last_part named message = record { bytes = message; offset = segment_max * last_index message; payload = segment_payload message (last_index message); named = named }

unfoldable pub send_frames : (named : Option ℕ) → List ℕ → List FrameContent
send_frames named message = map (part_frame named message) (range_with_len 0 (last_index message)) ++ SendFrame (last_part named message) ∷ []

-- the segments of a message of each element, which names no STag
abbrev pub sends_frames : {X : Type 0} → (X → List ℕ) → List X → List FrameContent
sends_frames message [] = []
sends_frames message (x ∷ xs) = send_frames None (message x) ++ sends_frames message xs

abbrev pub calls_frames : LinkParameters → List OutstandingCall → List FrameContent
calls_frames opened os = sends_frames (message_of_call opened) os

abbrev pub response_frames : ClientState → ℕ → Option ReadRequest → List FrameContent
response_frames k place None = []
response_frames k place (Some r) = tagged_frames OPCODE_READ_RESPONSE r.sink r.sink_to (take r.size (drop r.to (client_memory_at k place r.stag)))

unfoldable pub client_frames : LinkParameters → ClientState → RunEvent → List FrameContent
client_frames opened k (FrameReceived f) = if is_hello f then calls_frames opened k.outstanding else response_frames k f.end (segment_request (client_segment k f))
client_frames opened k (CallSubmitted place a) = if k.has_hello then send_frames None (message_of_call opened (outstanding_of k a)) else []
client_frames opened k (MemoryRevoked place xid) = []
client_frames opened k (CallExecuted call) = []
client_frames opened k (QueueWritten taken) = []
client_frames opened k (ServerTold what) = []

abbrev pub request_frame : PendingRead → FrameContent
request_frame r = RequestFrame r.sink r.at r.size r.stag r.to

abbrev pub errors_frames : List (List ℕ) → List FrameContent
errors_frames messages = sends_frames (λ (message : List ℕ). message) messages

abbrev pub effect_frames : FrameEffect → List FrameContent
effect_frames s = errors_frames s.errors ++ map request_frame (newly_open_reads s)

abbrev pub write_frames : List Part → List ℕ → List FrameContent
write_frames [] bytes = []
write_frames (s ∷ chunk) bytes =
    (if min s.length (length bytes) == 0 then [] else tagged_frames OPCODE_WRITE s.handle s.offset (take s.length bytes)) ++ write_frames chunk (drop s.length bytes)

abbrev pub answer_frames : ServerState → ℕ → ChunkLists → Option Answer → List FrameContent
answer_frames k xid offer None = send_frames None (chunk_error xid (credit_word k))
answer_frames k xid offer (Some a) =
    write_frames (first_chunk offer.write) a.moved ++ ((if a.long then write_frames (no_segments offer.reply) a.stream else [])
    ++ send_frames (stag_named k.invalidates offer) (answer_message xid (credit_word k) offer a))

unfoldable pub server_frames : LinkParameters → ServerState → RunEvent → List FrameContent
server_frames opened k (FrameReceived f) = if is_hello f then HelloFrame ∷ [] else effect_frames (frame_effect k f)
server_frames opened k (CallSubmitted place a) = []
server_frames opened k (MemoryRevoked place xid) = []
server_frames opened k (CallExecuted e) =
    answer_frames k e.xid (offer_of k e.xid) (answer_of_target (offer_of k e.xid) k.down_max e.reply (target_of (call_of e.payload)))
server_frames opened k (QueueWritten taken) = []
server_frames opened k (ServerTold what) = []
