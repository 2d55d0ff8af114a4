-- What holds between the states of both ends of a matched link, of which neither has ended, and the frames in transit between them.
use Rattle.std.specs.Prelude.{◌≡◌, ◌≢◌, ℕ, ◌+◌, ◌≤◌, ◌<◌, map, Bool, true, false, ◌==◌, ◌&&◌, if◌then◌else◌, List, [], ◌∷◌, ◌++◌, length, Option, None, Some, ◌⊎◌}
use Rattle.nr_reduce.specs.declared.mark.LinkParameters.{LinkParameters}
use Rattle.nr_link.specs.ReceiveState.{begun_bytes}
use Rattle.nr_reduce.specs.Written.{ends_waiting}
use Rattle.nr_reduce.specs.ClientState.{ClientState, responses_owed}
use Rattle.nr_reduce.specs.ServerState.{ServerState, PendingCall, PendingRead, ReadyCall}
use Rattle.nr_reduce.specs.ServerReads.{open_reads, is_read}
use Rattle.std.specs.List.{list_any}
use Rattle.nr_regions.specs.declared.right.Right.TheVariants.{Sink}
use Rattle.nr_reduce.specs.OfferedRegions.{Region}
use Rattle.nr_laws.proofs.FrameContents.{FrameContent, total_of, sends_in, requests_in, responses_in, hellos_in, request_frame}
use Rattle.nr_laws.proofs.FrameContents.FrameContent.{HelloFrame, PartFrame, SendFrame, RequestFrame, TaggedFrame}
use Rattle.nr_wire.specs.Constants.{OPCODE_READ_RESPONSE}

-- The frames that the client has queued, and those that it wrote and the server hasn't received (up); and the same of the server
-- (down). Each list is in order.
pub record Transit : Type 0 where
  pub queued_up : List FrameContent
  pub up : List FrameContent
  pub queued_down : List FrameContent
  pub down : List FrameContent

-- no element has this key; no two have the same
abbrev pub IsUnused : {X : Type 0} → (X → ℕ) → ℕ → List X → Type 0
IsUnused key n [] = Unit {0}
IsUnused key n (x ∷ xs) = (key x ≢ n) × IsUnused key n xs

abbrev pub AreDistinct : {X : Type 0} → (X → ℕ) → List X → Type 0
AreDistinct key [] = Unit {0}
AreDistinct key (x ∷ xs) = IsUnused key (key x) xs × AreDistinct key xs

-- how many calls the client has sent: none before the server's hello
abbrev pub calls_sent : ClientState → ℕ
calls_sent k = if k.has_hello then k.sends else 0

abbrev pub hello_bit : Bool → ℕ
hello_bit true = 1
hello_bit false = 0

-- The segments of Sends among some frames go on from the bytes of a Send that is begun, and leave none begun: each has the offset of
-- its payload, and the last one of a message completes it.
abbrev pub AreSends : Option (List ℕ) → List FrameContent → Type 0
AreSends begun [] = begun ≡ None
AreSends begun (HelloFrame ∷ ps) = AreSends begun ps
AreSends begun (PartFrame named offset payload ∷ ps) = (offset ≡ length (begun_bytes begun)) × AreSends (Some (begun_bytes begun ++ payload)) ps
AreSends begun (SendFrame message ∷ ps) = (message.offset ≡ length (begun_bytes begun)) × (begun_bytes begun ++ message.payload ≡ message.bytes) × AreSends None ps
AreSends begun (RequestFrame sink at size stag to ∷ ps) = AreSends begun ps
AreSends begun (TaggedFrame last opcode stag to payload ∷ ps) = AreSends begun ps

pub record TotalsAgree (k : ClientState) (s : ServerState) (w : Transit) : Type 0 where
  -- the hello of the client is in transit, then that of the server, and then the client has it
  pub hello : (total_of hellos_in w.up + total_of hellos_in w.queued_up) + (total_of hellos_in w.down + total_of hellos_in w.queued_down) + hello_bit k.has_hello ≡ 1
  -- each call that the client sent was received or is in transit, and so is each message of the server
  pub calls_up : s.received.sends + (total_of sends_in w.up + total_of sends_in w.queued_up) ≡ calls_sent k
  pub messages_down : k.received.sends + (total_of sends_in w.down + total_of sends_in w.queued_down) ≡ s.messages_queued
  -- what is queued is what hasn't left: the Sends of either side, and the client's Read Responses
  pub sends : ends_waiting k.written k.send_ends ≡ total_of sends_in w.queued_up
  pub messages : ends_waiting s.written s.message_ends ≡ total_of sends_in w.queued_down
  pub responses : responses_owed k ≡ total_of responses_in w.queued_up
  pub all_sends : length k.send_ends ≡ calls_sent k
  -- no side wrote more than was due
  pub within_up : k.written ≤ k.due
  pub within_down : s.written ≤ s.due
  -- each message that was received answered one call; each Send that was received is answered or its call is pending
  pub out : k.received.sends + length k.outstanding ≡ k.sends
  pub waiting : s.messages_queued + length s.calls ≡ s.received.sends
  -- the Send that is begun goes on in transit, and each that is in transit is its message in segments
  pub whole_up : AreSends s.received.begun (w.up ++ w.queued_up)
  pub whole_down : AreSends k.received.begun (w.down ++ w.queued_down)
  -- an open read has its Read Request or its Read Response in transit
  pub reads : length (open_reads s) ≡ (total_of requests_in w.down + total_of requests_in w.queued_down) + (total_of responses_in w.up + total_of responses_in w.queued_up)

-- The client keeps the grant, and the server has as many receives (RFC 8166 section 3.3).
pub record WithinWindow (opened : LinkParameters) (k : ClientState) : Type 0 where
  pub window : length k.outstanding ≤ opened.granted
  pub grant : k.grant ≤ opened.granted
  pub receives : opened.granted ≤ opened.receives

-- ---- Read Requests and their Read Responses

-- a segment of the Read Response to a read of which `came` bytes were received: the last one completes it, any other leaves some
abbrev pub ContinuesRead : Bool → (came n : ℕ) → PendingRead → List PendingRead → (ℕ → List PendingRead → Type 0) → Type 0
ContinuesRead true came n r rs Later = (came + n ≡ r.size) × Later 0 rs
ContinuesRead false came n r rs Later = (came + n < r.size) × Later (came + n) (r ∷ rs)

-- the tagged segments among some frames are the Read Responses to exactly these reads, in order, of the first of which this many
-- bytes were received before
abbrev pub AreResponses : ℕ → List PendingRead → List FrameContent → Type 0
AreResponses came rs [] = (came ≡ 0) × (rs ≡ [])
AreResponses came rs (HelloFrame ∷ ps) = AreResponses came rs ps
AreResponses came rs (PartFrame named offset payload ∷ ps) = AreResponses came rs ps
AreResponses came rs (SendFrame message ∷ ps) = AreResponses came rs ps
AreResponses came rs (RequestFrame sink at size stag to ∷ ps) = AreResponses came rs ps
AreResponses came [] (TaggedFrame last opcode stag to payload ∷ ps) = ⊥
AreResponses came (r ∷ rs) (TaggedFrame last opcode stag to payload ∷ ps) =
    (opcode ≡ OPCODE_READ_RESPONSE) × (stag ≡ r.sink) × (to ≡ r.at + came) × ContinuesRead last came (length payload) r rs (λ c qs. AreResponses c qs ps)

-- the Read Requests among some frames
abbrev pub requests_of : List FrameContent → List FrameContent
requests_of [] = []
requests_of (HelloFrame ∷ ps) = requests_of ps
requests_of (PartFrame named offset payload ∷ ps) = requests_of ps
requests_of (SendFrame message ∷ ps) = requests_of ps
requests_of (RequestFrame sink at size stag to ∷ ps) = RequestFrame sink at size stag to ∷ requests_of ps
requests_of (TaggedFrame last opcode stag to payload ∷ ps) = requests_of ps

-- The open reads are those whose Read Responses are in transit, and after them those whose Read Requests are.
pub record ReadsAgree (s : ServerState) (w : Transit) : Type 0 where
  pub answered : List PendingRead
  pub asked : List PendingRead
  pub parts : open_reads s ≡ answered ++ asked
  pub answers : AreResponses s.response_bytes answered (w.up ++ w.queued_up)
  pub requests : requests_of (w.down ++ w.queued_down) ≡ map request_frame asked

-- ---- Pending calls

-- a pending call for which nothing is left to be read is ready to be executed
abbrev pub AreReady : List PendingRead → List ReadyCall → List PendingCall → Type 0
AreReady reads ready [] = Unit {0}
AreReady reads ready (c ∷ calls) =
    (is_read reads c.number ≡ true → list_any (λ (r : ReadyCall). r.number == c.number) ready ≡ true) × AreReady reads ready calls

-- a ready call is pending, and nothing is left to be read for it
abbrev pub AreWhole : List PendingRead → List PendingCall → List ReadyCall → Type 0
AreWhole reads calls [] = Unit {0}
AreWhole reads calls (r ∷ ready) =
    (list_any (λ (c : PendingCall). c.number == r.number && c.xid == r.xid) calls ≡ true) × (is_read reads r.number ≡ true) × AreWhole reads calls ready

-- no key is above this number
abbrev pub AreAtMost : {X : Type 0} → (X → ℕ) → ℕ → List X → Type 0
AreAtMost key n [] = Unit {0}
AreAtMost key n (x ∷ xs) = (key x ≤ n) × AreAtMost key n xs

pub record PendingAgree (s : ServerState) : Type 0 where
  pub numbers : AreDistinct (λ (c : PendingCall). c.number) s.calls
  pub xids : AreDistinct (λ (c : PendingCall). c.xid) s.calls
  pub calls_below : AreAtMost (λ (c : PendingCall). c.number) s.received.sends s.calls
  pub reads_below : AreAtMost (λ (r : PendingRead). r.number) s.received.sends s.reads
  pub ready_apart : AreDistinct (λ (r : ReadyCall). r.number) s.ready
  pub ready_calls : AreReady s.reads s.ready s.calls
  pub whole_calls : AreWhole s.reads s.calls s.ready

-- ---- Sinks

-- the sink region of a read: it is live, and has room for the complete Read Response
pub record IsSink (place : ℕ) (r : PendingRead) (g : Region) : Type 0 where
  pub stag : g.stag ≡ r.sink
  pub call : g.call ≡ r.number
  pub position : g.position ≡ r.position
  pub right : g.right ≡ Sink
  pub lives : g.until ≡ None
  pub before : g.from ≤ place
  pub room : r.at + r.size ≤ length g.bytes

-- the first region of its STag is its sink
abbrev pub HasSink : ℕ → PendingRead → List Region → Type 0
HasSink place r [] = ⊥
HasSink place r (g ∷ regions) = IsSink place r g ⊎ ((g.stag ≢ r.sink) × HasSink place r regions)

-- each read has one
abbrev pub HaveSinks : ℕ → List Region → List PendingRead → Type 0
HaveSinks place regions [] = Unit {0}
HaveSinks place regions (r ∷ reads) = HasSink place r regions × HaveSinks place regions reads
