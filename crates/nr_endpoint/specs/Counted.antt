-- The counts of untagged messages are at most the number of bytes that they came in, and so is the number of events to deliver. Once
-- the peer's hello was accepted, some bytes came. Each receive has the length that the side's terms ask for, and a message of the peer fits it.
use Rattle.std.specs.Prelude.{◌≡◌, ℕ, ◌+◌, ◌<◌, ◌≤◌, Bool, true, length}
use Rattle.nr_link.specs.declared.agreement.SideTerms.{SideTerms}
use Rattle.nr_link.specs.ReceiveState.{begun_bytes}
use Rattle.nr_endpoint.specs.Hellos.{receive_length_for}
use Rattle.nr_endpoint.specs.ReceiveQueue.{ReceiveQueue}

pub record IsCounted (terms : SideTerms) (has_hello : Bool) (q : ReceiveQueue) (place message_max : ℕ) : Type 0 where
  pub bytes : q.received.sends + (q.received.requests + length (begun_bytes q.received.begun)) ≤ place
  pub waiting : length q.deliveries ≤ place
  pub greeted : has_hello ≡ true → 0 < place
  pub receive : q.receive_length ≡ receive_length_for terms
  pub fits : message_max ≤ q.receive_length
