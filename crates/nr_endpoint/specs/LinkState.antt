-- The state of one side of a link, with its registered memory.
use Rattle.std.specs.Prelude.{ℕ, Bool, false, if◌then◌else◌, List, [], Option, None, Some, is_some}
use Rattle.nr_wire.specs.declared.hello.Side.{Side}
use Rattle.nr_wire.specs.Hello.{peer}
use Rattle.nr_wire.specs.declared.stream.Awaited.TheVariants.{Hello as HelloFrom}
use Rattle.nr_wire.specs.Feeding.{Feeding}
use Rattle.nr_link.specs.declared.end.End.{End}
use Rattle.nr_link.specs.declared.agreement.SideTerms.{SideTerms}
use Rattle.nr_link.specs.declared.agreement.Agreement.{Agreement}
use Rattle.nr_link.specs.Agreement.{default_agreement}
use Rattle.nr_link.specs.Limits.{send_unit}
use Rattle.nr_link.specs.SegmentFaults.{ExpectedResponse}
use Rattle.nr_regions.specs.RegisteredMemory.{RegisteredMemory, initial_memory}
use Rattle.nr_endpoint.specs.Hellos.{first_private, first_client, receive_length_for}
use Rattle.nr_endpoint.specs.SendQueue.{SendQueue, initial_queue}
use Rattle.nr_endpoint.specs.ReceiveQueue.{ReceiveQueue, initial_receives}

-- Which side it is. Whether the peer's hello was accepted. The offset of the last complete frame of the peer's stream, and the offset after
-- it, in bytes. Why the side ended, once it has. What came, and what has to be written. The Read Requests that are open, the oldest first,
-- each with the offset in its own region at which its response continues, and how many bytes are left. The regions. What its hello says: the
-- terms with which it was opened, and the private data that it has said. What is agreed with the peer, and the maximum length of
-- a message of the peer in bytes. The number of the link's client, or 0 if it has none or wasn't heard of yet. What the last hello to this side on
-- an earlier link agreed on, if there was one.
pub record LinkState : Type 0 where
  pub side : Side
  pub has_hello : Bool
  pub last : ℕ
  pub place : ℕ
  pub ended : Option End
  pub receive_queue : ReceiveQueue
  pub reads : List ExpectedResponse
  pub memory : RegisteredMemory
  pub send_queue : SendQueue
  pub terms : SideTerms
  pub private : List ℕ
  pub agreed : Agreement
  pub message_max : ℕ
  pub client : ℕ
  pub earlier : Option Agreement

abbrev pub has_ended : LinkState → Bool
has_ended s = is_some s.ended

-- What a side was opened with: the number of receives, the STag that its first region gets, its terms, and what was agreed on an earlier link. Until
-- the peer's hello was accepted one unit is agreed in each direction.
abbrev pub initial_state : Side → ℕ → ℕ → SideTerms → (earlier : Option Agreement) → LinkState
initial_state side receives first_stag terms earlier = record {
  side = side;
  has_hello = false;
  last = 0;
  place = 0;
  ended = None;
  receive_queue = initial_receives receives (receive_length_for terms);
  reads = [];
  memory = initial_memory first_stag;
  send_queue = initial_queue side (first_private terms side);
  terms = terms;
  private = first_private terms side;
  agreed = default_agreement;
  message_max = send_unit;
  client = first_client terms side;
  earlier = earlier;
}

-- a side between two pieces of the peer's stream: the kind of the frame that comes next, and the bytes of it so far
abbrev pub LinkSide : Type 0
LinkSide = Feeding LinkState

unfoldable pub initial_link : Side → ℕ → ℕ → SideTerms → (earlier : Option Agreement) → LinkSide
initial_link side receives first_stag terms earlier = record { awaited = HelloFrom (peer side); rest = []; state = initial_state side receives first_stag terms earlier }

-- what the last hello to a side agreed on, on this link or on an earlier one
abbrev pub last_agreed : LinkState → Option Agreement
last_agreed s = if s.has_hello then Some s.agreed else s.earlier
