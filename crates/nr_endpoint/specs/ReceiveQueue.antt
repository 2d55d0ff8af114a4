-- What came to a side in untagged messages, and its receives (RFC 5041 section 4.3).
use Rattle.std.specs.Prelude.{ℕ, ◌+◌, ◌-◌, Bool, not, false, ◌&&◌, ◌==◌, if◌then◌else◌, List, [], ◌∷◌, ◌++◌, drop, Option, None, Some}
use Rattle.nr_wire.specs.Constants.{OPCODE_SEND, OPCODE_SEND_INVALIDATE}
use Rattle.nr_wire.specs.Segment.{Segment}
use Rattle.nr_wire.specs.Segment.Segment.{Tagged, Untagged}
use Rattle.nr_link.specs.ReceiveState.{ReceiveState, nothing_received, is_send, received_after, message_completed, stag_invalidated}
use Rattle.nr_link.specs.KeptSends.{received_within}
use Rattle.nr_link.specs.SegmentFaults.{is_begun}

-- What is delivered to the owner: the Send with a number, from 1 on, is complete, with the STag that it names if it is a Send with
-- Invalidate; the response to the Read Request that was open longest is complete.
pub data DeliveredEvent : Type 0 where
  MessageReceived : (number : ℕ) → (invalidated : Option ℕ) → (bytes : List ℕ) → DeliveredEvent
  ReadDone : DeliveredEvent

-- How many receives the side was opened with, and the length of each in bytes. The untagged messages so far. How many receives are free. How
-- many messages were taken whose receive wasn't posted again. What wasn't delivered to the owner yet, in order. Of a Send that is longer than
-- its receive the bytes beyond it are counted and not kept.
pub record ReceiveQueue : Type 0 where
  pub receives : ℕ
  pub receive_length : ℕ
  pub received : ReceiveState
  pub free : ℕ
  pub lent : ℕ
  pub deliveries : List DeliveredEvent

abbrev pub initial_receives : (receives receive_length : ℕ) → ReceiveQueue
initial_receives receives receive_length = record {
  receives = receives;
  receive_length = receive_length;
  received = nothing_received;
  free = receives;
  lent = 0;
  deliveries = [];
}

-- the first segment of a Send takes a receive
abbrev pub takes_receive : ReceiveState → Segment → Bool
takes_receive h (Tagged last opcode stag to payload) = false
takes_receive h (Untagged last opcode w queue msn offset payload) = is_send opcode && not (is_begun h.begun)

abbrev pub message_deliveries : ℕ → Option ℕ → Option (List ℕ) → List DeliveredEvent
message_deliveries number named None = []
message_deliveries number named (Some message) = MessageReceived number named message ∷ []

-- the STag that a segment of a Send with this opcode and word names, if it is the last
abbrev pub named_by : (opcode w : ℕ) → Option ℕ
named_by opcode w = if opcode == OPCODE_SEND_INVALIDATE then Some w else None

-- a segment of a Send as the receives count it: what it names, if it is the last, and its payload
abbrev pub send_segment : Option ℕ → Bool → List ℕ → Segment
send_segment None last payload = Untagged last OPCODE_SEND 0 0 0 0 payload
send_segment (Some stag) last payload = Untagged last OPCODE_SEND_INVALIDATE stag 0 0 0 payload

-- after one more segment
unfoldable pub with_segment : Segment → ReceiveQueue → ReceiveQueue
with_segment segment q = record {
  receives = q.receives;
  receive_length = q.receive_length;
  received = received_within q.receive_length (received_after q.received segment);
  free = if takes_receive q.received segment then q.free - 1 else q.free;
  lent = q.lent;
  deliveries = q.deliveries ++ message_deliveries (q.received.sends + 1) (stag_invalidated segment) (message_completed q.received segment);
}

abbrev pub with_read_done : ReceiveQueue → ReceiveQueue
with_read_done q = record q { deliveries = q.deliveries ++ ReadDone ∷ [] }

-- the first event was delivered to the owner: the receive of a message is lent until it is posted again
abbrev pub lent_for : List DeliveredEvent → ℕ
lent_for [] = 0
lent_for (MessageReceived number invalidated bytes ∷ deliveries) = 1
lent_for (ReadDone ∷ deliveries) = 0

abbrev pub delivered : ReceiveQueue → ReceiveQueue
delivered q = record q { lent = q.lent + lent_for q.deliveries; deliveries = drop 1 q.deliveries }

abbrev pub posted : ReceiveQueue → ReceiveQueue
posted q = record q { free = q.free + 1; lent = q.lent - 1 }

-- how many Sends are begun, and how many of the events are of messages
abbrev pub sends_begun : Option (List ℕ) → ℕ
sends_begun None = 0
sends_begun (Some bytes) = 1

abbrev pub messages_in : List DeliveredEvent → ℕ
messages_in [] = 0
messages_in (MessageReceived number invalidated bytes ∷ deliveries) = 1 + messages_in deliveries
messages_in (ReadDone ∷ deliveries) = messages_in deliveries

-- How many receive buffers are kept: those of the free receives, that of a begun Send, and those of the messages that weren't delivered to
-- the owner yet. A receive that is lent isn't kept.
abbrev pub receives_kept : ReceiveQueue → ℕ
receives_kept q = q.free + (sends_begun q.received.begun + messages_in q.deliveries)
