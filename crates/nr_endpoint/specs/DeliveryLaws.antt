-- Laws of what an endpoint delivers to its owner.
use Rattle.std.specs.Prelude.{◌≡◌, ℕ, ◌+◌, ◌<◌, ◌==◌, ◌&&◌, if◌then◌else◌, List, [], ◌∷◌, ◌++◌, length, take, map, Option, None, Some, Result, Ok, Err, ◌≤◌, All}
use Rattle.nr_wire.specs.Constants.{OPCODE_READ_RESPONSE}
use Rattle.nr_wire.specs.declared.stream.Awaited.{Awaited}
use Rattle.nr_wire.specs.declared.stream.Awaited.TheVariants.{Hello as HelloFrom, Fpdu}
use Rattle.nr_wire.specs.Segment.{Segment}
use Rattle.nr_wire.specs.Segment.Segment.{Tagged, Untagged}
use Rattle.nr_regions.specs.Events.{after_events, tagged_segments}
use Rattle.nr_link.specs.declared.end.End.{End}
use Rattle.nr_link.specs.Frames.{Frame}
use Rattle.nr_link.specs.ReceiveState.{ReceiveState, message_completed, stag_invalidated}
use Rattle.nr_endpoint.specs.ReceiveQueue.{DeliveredEvent, message_deliveries}
use Rattle.nr_endpoint.specs.ReceiveQueue.DeliveredEvent.{ReadDone}
use Rattle.nr_endpoint.specs.LinkState.{LinkState, LinkSide, has_ended}
use Rattle.nr_endpoint.specs.Judging.{segment_end, next_frame, next_segment, with_frame}
use Rattle.nr_endpoint.specs.Calls.{Call, after_call, after_calls}
use Rattle.nr_endpoint.specs.Calls.Call.{Feed, FeedOne, NextEvent, Post, Stop, OutOfMemory, Send, SendInvalidate, Hold, SendHeld, WriteRemote, ReadRemote, Drain, Register, Release, Invalidate}
use Rattle.nr_endpoint.specs.Laws.{frames_made_whole, memory_events}

-- what a segment that doesn't end the side delivers: that a read is done, by its last Read Response, or the message that it completes
abbrev pub deliveries_of : ReceiveState → Segment → List DeliveredEvent
deliveries_of received (Tagged last opcode stag to payload) = if (opcode == OPCODE_READ_RESPONSE) && last then ReadDone ∷ [] else []
deliveries_of received (Untagged last opcode w queue msn offset payload) = message_deliveries (received.sends + 1) (stag_invalidated (Untagged last opcode w queue msn offset payload)) (message_completed received (Untagged last opcode w queue msn offset payload))

-- an event, with the end of the frame that made it
pub record QueuedEvent : Type 0 where
  pub end : ℕ
  pub delivery : DeliveredEvent

abbrev pub made_at : ℕ → DeliveredEvent → QueuedEvent
made_at end delivery = record { end = end; delivery = delivery }

abbrev pub segment_deliveries : LinkState → Frame → Segment → Option End → List QueuedEvent
segment_deliveries s f segment None = map (made_at f.end) (deliveries_of s.receive_queue.received segment)
segment_deliveries s f segment (Some end) = []

abbrev pub fpdu_deliveries : LinkState → Frame → Result Segment ℕ → List QueuedEvent
fpdu_deliveries s f (Ok segment) = segment_deliveries s f segment (segment_end s f segment)
fpdu_deliveries s f (Err reason) = []

abbrev pub frame_deliveries : LinkState → Awaited → List ℕ → List QueuedEvent
frame_deliveries s (HelloFrom side) bytes = []
frame_deliveries s Fpdu bytes = fpdu_deliveries s (next_frame s bytes) (next_segment s bytes)

-- those of frames that come one after the other, up to the one that ends the side
abbrev pub deliveries_of_frames : List (List ℕ) → Awaited → LinkState → List QueuedEvent
deliveries_of_frames [] a s = []
deliveries_of_frames (frame ∷ frames) a s = if has_ended s then [] else frame_deliveries s a frame ++ deliveries_of_frames frames Fpdu (with_frame s a frame)

abbrev pub call_deliveries : LinkSide → Call → List QueuedEvent
call_deliveries link (Feed piece) = deliveries_of_frames (frames_made_whole link piece) link.awaited link.state
call_deliveries link (FeedOne piece) = deliveries_of_frames (take 1 (frames_made_whole link piece)) link.awaited link.state
call_deliveries link NextEvent = []
call_deliveries link Post = []
call_deliveries link (Stop reason) = []
call_deliveries link OutOfMemory = []
call_deliveries link (Send message) = []
call_deliveries link (SendInvalidate stag message) = []
call_deliveries link (Hold message) = []
call_deliveries link (SendHeld message) = []
call_deliveries link (WriteRemote stag to bytes) = []
call_deliveries link (ReadRemote sink at stag to len) = []
call_deliveries link (Drain count) = []
call_deliveries link (Register buf right) = []
call_deliveries link (Release stag) = []
call_deliveries link (Invalidate stag) = []

abbrev pub deliveries_made : LinkSide → List Call → List QueuedEvent
deliveries_made link [] = []
deliveries_made link (call ∷ calls) = call_deliveries link call ++ deliveries_made (after_call link call) calls

-- what a call delivers to the owner: `NextEvent` the first event that waits
abbrev pub call_delivers : LinkSide → Call → List DeliveredEvent
call_delivers link (Feed piece) = []
call_delivers link (FeedOne piece) = []
call_delivers link NextEvent = take 1 link.state.receive_queue.deliveries
call_delivers link Post = []
call_delivers link (Stop reason) = []
call_delivers link OutOfMemory = []
call_delivers link (Send message) = []
call_delivers link (SendInvalidate stag message) = []
call_delivers link (Hold message) = []
call_delivers link (SendHeld message) = []
call_delivers link (WriteRemote stag to bytes) = []
call_delivers link (ReadRemote sink at stag to len) = []
call_delivers link (Drain count) = []
call_delivers link (Register buf right) = []
call_delivers link (Release stag) = []
call_delivers link (Invalidate stag) = []

abbrev pub events_delivered : LinkSide → List Call → List DeliveredEvent
events_delivered link [] = []
events_delivered link (call ∷ calls) = call_delivers link call ++ events_delivered (after_call link call) calls

-- What was delivered to the owner and then what still waits is what waited before these calls and then what their frames made, in
-- order. So each event is delivered once, and nothing else is.
abbrev pub EventsAreDelivered : Type 0
EventsAreDelivered = (link : LinkSide) (calls : List Call) →
    events_delivered link calls ++ (after_calls link calls).state.receive_queue.deliveries
    ≡ link.state.receive_queue.deliveries ++ map (λ made. made.delivery) (deliveries_made link calls)

-- They come in the order of the stream: each is made at a frame after that of the one before it.
abbrev pub DeliveriesRise : ℕ → List QueuedEvent → ℕ → Type 0
DeliveriesRise from [] until = from ≤ until
DeliveriesRise from (made ∷ others) until = (from < made.end) × DeliveriesRise made.end others until

abbrev pub EventsAreInOrder : Type 0
EventsAreInOrder = (link : LinkSide) (calls : List Call) → DeliveriesRise link.state.place (deliveries_made link calls) (after_calls link calls).state.place

-- Once an event is made, and so when it is delivered, all tagged segments of the frames up to its own have been placed: the memory is
-- that of the events so far, and of the events of all calls only those are left whose tagged segments end after that frame.
abbrev pub EventsFollowAccesses : Type 0
EventsFollowAccesses = (link : LinkSide) (before after : List Call) →
    let now = after_calls link before in
    (now.state.memory ≡ after_events link.state.memory (memory_events link before))
    × ((memory_events link (before ++ after) ≡ memory_events link before ++ memory_events now after)
    × All (λ made. All (λ segment. made.end < segment.end) (tagged_segments (memory_events now after))) (deliveries_made link before))

-- A feed of one frame makes its event at the offset that the side has then, so no tagged segment of a later frame has been placed.
abbrev pub OneFrameDeliversAtItsEnd : Type 0
OneFrameDeliversAtItsEnd = (link : LinkSide) (piece : List ℕ) →
    All (λ made. made.end ≡ (after_call link (FeedOne piece)).state.place) (deliveries_made link (FeedOne piece ∷ []))

-- It makes at most one event.
abbrev pub OneFrameDeliversOnce : Type 0
OneFrameDeliversOnce = (link : LinkSide) (piece : List ℕ) →
    length (after_call link (FeedOne piece)).state.receive_queue.deliveries ≤ length link.state.receive_queue.deliveries + 1
