-- What a receive queue keeps of its buffers.
use Rattle.std.specs.Prelude.{◌≡◌, ℕ, ◌+◌, ◌≤◌, List, length, Option, All, IfSome}
use Rattle.nr_endpoint.specs.declared.event.Event.{Event}
use Rattle.nr_endpoint.specs.declared.event.Event.TheVariants as events
use Rattle.nr_endpoint.specs.declared.receive_queue.BegunSend.{BegunSend}
use Rattle.nr_endpoint.specs.declared.receive_queue.ReceivedMessage.{ReceivedMessage}
use Rattle.nr_endpoint.specs.ReceiveQueue.{sends_begun}
use Rattle.nr_endpoint.specs.Views.{begun as begun_bytes_of}

-- a receive buffer of n bytes
abbrev pub IsReceive : ℕ → List ℕ → Type 0
IsReceive n buf = length buf ≡ n

-- A message is the first bytes of a receive buffer. It has at least the 16 bytes of a transport header's fixed words (RFC 8166
-- section 4.1): a shorter one ends the side.
abbrev pub HasBuffer : ℕ → Event → Type 0
HasBuffer n (events.Message number invalidated buf len) = IsReceive n buf × ((16 ≤ len) × (len ≤ n))
HasBuffer n events.ReadDone = Unit {0}

-- the same of a message that wasn't delivered to the owner yet
abbrev pub InBuffer : ℕ → ReceivedMessage → Type 0
InBuffer n m = IsReceive n m.buf × ((16 ≤ m.len) × (m.len ≤ n))

-- Each buffer has the length of a receive, n. Each receive is free, has a begun Send or a message that wasn't delivered to the owner
-- yet, or is lent. The vector of the free ones and the queue of the messages have room for all receives.
pub record AreReceives (n : ℕ) (free : List (List ℕ)) (begun : Option BegunSend) (messages : List ReceivedMessage) (lent receives free_room message_room : ℕ) : Type 0 where
  pub free_len : All (IsReceive n) free
  pub begun_len : IfSome begun (λ b. IsReceive n b.buf)
  pub messages_len : All (InBuffer n) messages
  pub total : length free + (sends_begun (begun_bytes_of n begun) + length messages) + lent ≡ receives
  pub fits : receives ≤ free_room
  pub messages_fit : receives ≤ message_room
