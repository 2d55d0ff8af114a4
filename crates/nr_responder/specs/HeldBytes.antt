-- Bounds of what a responder keeps. They are own.
use Rattle.std.specs.Prelude.{◌≡◌, ℕ, ◌+◌, ◌*◌, ◌/◌, ◌≤◌, ◌==◌, true, if◌then◌else◌, List, [], ◌∷◌, length, drop, None}
use Rattle.std.specs.List.{AllByRecursion, list_any}
use Rattle.nr_regions.specs.RegisteredMemory.{RegisteredMemory}
use Rattle.nr_regions.specs.Table.{IsTotal, region_len}
use Rattle.nr_header.specs.Constants.{PAYLOAD_MAX, READ_SEGMENTS_MAX, REPLY_SEGMENTS_MAX, WRITE_SEGMENTS_MAX}
use Rattle.nr_wire.specs.Constants.{FPDU_MAX}
use Rattle.nr_link.specs.Agreement.{IsSendLimit}
use Rattle.nr_link.specs.Limits.{open_reads_max, segment_max}
use Rattle.nr_endpoint.specs.ReceiveQueue.{ReceiveQueue}
use Rattle.nr_endpoint.specs.SendQueue.{SendQueue}
use Rattle.nr_endpoint.specs.OutputSizes.{frame_max, send_frames_max, request_max, hello_max, QueueWithin}
use Rattle.nr_reduce.specs.ServerState.{PendingCall, PendingRead}
use Rattle.nr_responder.specs.Fetching.{SinkRegion}
use Rattle.nr_responder.specs.ResponderState.{ResponderSide, ResponderState, end_of, unsent}

-- What is held for each credit, and four times for the link itself, in bytes.
abbrev pub held_unit : ℕ
held_unit = 5242880

-- the sum of the sizes of items, and of those with a number
abbrev pub sizes : {X : Type 0} → (size : X → ℕ) → List X → ℕ
sizes size [] = 0
sizes size (x ∷ xs) = size x + sizes size xs

abbrev pub share : {X : Type 0} → (number size : X → ℕ) → ℕ → List X → ℕ
share number size n [] = 0
share number size n (x ∷ xs) = (if number x == n then size x else 0) + share number size n xs

-- the bytes of sinks, and of those of the call whose Send has a number
abbrev pub sinks_total : List SinkRegion → ℕ
sinks_total sinks = sizes (λ s. s.len) sinks

abbrev pub sinks_share : ℕ → List SinkRegion → ℕ
sinks_share n sinks = share (λ s. s.number) (λ s. s.len) n sinks

-- the regions have this number of bytes together
abbrev pub RegionsHave : RegisteredMemory → ℕ → Type 0
RegionsHave m total = IsTotal region_len m.next total m.held

-- a read is of a pending call
abbrev pub IsOfPending : List PendingCall → PendingRead → Type 0
IsOfPending calls r = list_any (λ c. c.number == r.number) calls ≡ true

-- how many of the sinks are of the call whose Send has a number
abbrev pub sinks_count : ℕ → List SinkRegion → ℕ
sinks_count n sinks = share (λ s. s.number) (λ s. 1) n sinks

-- The sinks of a call are no longer together than its payload may be, and no more than the segments of a read list; and the reads that wait are of
-- pending calls.
pub record SharesFit (v : ResponderSide) : Type 0 where
  pub shares : (n : ℕ) → sinks_share n v.fetching.sinks ≤ PAYLOAD_MAX
  pub counts : (n : ℕ) → sinks_count n v.fetching.sinks ≤ READ_SEGMENTS_MAX
  pub waiting : AllByRecursion (IsOfPending v.calls) (drop open_reads_max v.fetching.reads)

-- as many receives, of one length
pub record SameReceives (p q : ReceiveQueue) : Type 0 where
  pub count : q.receives ≡ p.receives
  pub len : q.receive_length ≡ p.receive_length

-- a receive for each credit, of one unit to UNITS_MAX of them
pub record ReceivesFit (credits : ℕ) (q : ReceiveQueue) : Type 0 where
  pub count : q.receives ≡ credits
  pub len : IsSendLimit q.receive_length

-- The regions are the sinks: those of each pending call, and those of calls that are over, of which some Read Request is open.
-- There is a receive for each credit.
pub record SinksFit (v : ResponderSide) : Type 0 where
  pub memory : RegionsHave v.link.state.memory (sinks_total v.fetching.sinks)
  pub most : sinks_total v.fetching.sinks ≤ PAYLOAD_MAX * (length v.calls + open_reads_max)
  pub count : length v.fetching.sinks ≤ READ_SEGMENTS_MAX * (length v.calls + open_reads_max)
  pub each : end_of v ≡ None → SharesFit v
  pub receives : ReceivesFit v.credits.receives v.link.state.receive_queue

-- ---- Output

-- the maximum of a reply in bytes
abbrev pub sent_reply_max : ℕ
sent_reply_max = PAYLOAD_MAX

-- The maximum of the Read Requests of a call, of the RDMA Writes of an answer, and of both with its Send. A reply of the maximum length takes
-- sent_reply_max / segment_max frames, and each segment of a write chunk and of a reply chunk may add one.
abbrev pub requests_max : ℕ
requests_max = READ_SEGMENTS_MAX * request_max

abbrev pub writes_max : ℕ
writes_max = (sent_reply_max / segment_max + (WRITE_SEGMENTS_MAX + REPLY_SEGMENTS_MAX)) * frame_max

abbrev pub answer_max : ℕ
answer_max = writes_max + send_frames_max + requests_max

-- From any offset on, the queue has an answer for each Send that ends after it, and the Read Requests of the pending calls but those that
-- wait.
abbrev pub QueueFits : SendQueue → (waiting calls : ℕ) → Type 0
QueueFits q waiting calls = QueueWithin answer_max 0 (requests_max * calls) (request_max * waiting) q

-- how many of some reads are of the call whose Send has a number
abbrev pub reads_share : ℕ → List PendingRead → ℕ
reads_share n reads = share (λ r. r.number) (λ r. 1) n reads

-- once the side has ended, with one message more
abbrev pub QueueMost : SendQueue → ℕ → Type 0
QueueMost q calls = QueueWithin answer_max 0 (requests_max * calls + frame_max) 0 q

-- While a side lives. It has no hello to write before the client's, and holds no Send back.
pub record OutputLives (v : ResponderSide) : Type 0 where
  pub queue : QueueFits v.link.state.send_queue (length (drop open_reads_max v.fetching.reads)) (length v.calls)
  pub reads : (n : ℕ) → reads_share n v.fetching.reads ≤ READ_SEGMENTS_MAX
  pub hello : length v.link.state.send_queue.hello ≤ hello_max
  pub none : v.link.state.place ≡ 0 → length v.link.state.send_queue.hello ≡ 0
  pub held : v.link.state.send_queue.held ≡ []

-- once it has ended, it may have one message more, and one FPDU more after its hello
pub record OutputFits (v : ResponderSide) : Type 0 where
  pub most : QueueMost v.link.state.send_queue (length v.calls)
  pub hello : length v.link.state.send_queue.hello ≤ hello_max + frame_max
  pub held : v.link.state.send_queue.held ≡ []
  pub each : end_of v ≡ None → OutputLives v

-- ---- Lists

-- the Read Requests of the pending calls, and those that may be open
abbrev pub ReadsFit : ResponderSide → Type 0
ReadsFit v = length v.fetching.reads ≤ READ_SEGMENTS_MAX * length v.calls + open_reads_max

-- How long the lists are that a responder keeps: its calls with the Sends that haven't left; the calls that are ready, and the payloads of these; the
-- sinks; and the Read Requests that are open or wait.
pub record ListsFit (v : ResponderSide) : Type 0 where
  pub calls : length v.calls + unsent v.link.state ≤ v.credits.receives
  pub ready : length v.ready ≤ length v.calls
  pub payloads : length v.fetching.payloads ≤ length v.calls
  pub sinks : length v.fetching.sinks ≤ READ_SEGMENTS_MAX * (length v.calls + open_reads_max)
  pub reads : ReadsFit v

-- What a responder keeps is within bounds.
pub record KeptFits (v : ResponderSide) : Type 0 where
  pub sinks : SinksFit v
  pub output : OutputFits v
  pub reads : ReadsFit v

abbrev pub IsBounded : ResponderState → Type 0
IsBounded v = KeptFits v.side × (length v.staging ≡ FPDU_MAX)
