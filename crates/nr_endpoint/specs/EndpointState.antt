-- What contracts see of an endpoint: its side of the link; the complete staging buffer, which begins with the bytes of the frame that isn't
-- complete; the room of its regions, a number of further registrations that need no allocation; and for each STag that is held the bytes of
-- its buffer outside its region.
use Rattle.std.specs.Prelude.{◌≡◌, ℕ, ◌+◌, ◌*◌, min, max, List, [], ◌∷◌, ◌++◌, length, drop}
use Rattle.nr_wire.specs.declared.stream.Awaited.{Awaited}
use Rattle.nr_wire.specs.Stream.{frame_len}
use Rattle.std.specs.Ordering.{nat_cmp}
use Rattle.std.specs.FinMap.{FinMap}
use Rattle.nr_regions.specs.RegisteredMemory.{Outside, bytes_held, outside_held}
use Rattle.nr_endpoint.specs.ReceiveQueue.{receives_kept}
use Rattle.nr_endpoint.specs.SendQueue.{held_len}
use Rattle.nr_endpoint.specs.LinkState.{LinkState, LinkSide}

pub record EndpointState : Type 0 where
  pub link : LinkSide
  pub staging : List ℕ
  pub room : ℕ
  pub outside : FinMap nat_cmp Outside

-- what the endpoint sees of its side: the state, that room, and those bytes
pub record LinkView : Type 0 where
  pub state : LinkState
  pub room : ℕ
  pub outside : FinMap nat_cmp Outside

-- The number of bytes of the frame that was begun before a piece, as far as it was fed with it; 0 if no frame was begun.
abbrev pub cut_frame_len : Awaited → List ℕ → List ℕ → ℕ
cut_frame_len awaited [] piece = 0
cut_frame_len awaited (byte ∷ rest) piece =
    min (frame_len awaited ((byte ∷ rest) ++ piece)) (length ((byte ∷ rest) ++ piece))

-- A feed changes the staging buffer only in two prefixes: that of the bytes which are staged after it, and that of the frame which
-- the bytes staged before it begin, as far as it was fed.
pub record KeepsStaging (before after : EndpointState) (piece : List ℕ) : Type 0 where
  pub others : drop (max (length after.link.rest) (cut_frame_len before.link.awaited before.link.rest piece)) after.staging
      ≡ drop (max (length after.link.rest) (cut_frame_len before.link.awaited before.link.rest piece)) before.staging
  pub len : length after.staging ≡ length before.staging

-- How many bytes the receives that are not lent, the regions, the output and the messages that are held back have; and all byte buffers that are
-- kept, with the staging buffer and the bytes of buffers outside their regions.
abbrev pub bytes_of : LinkState → ℕ
bytes_of s =
    s.receive_queue.receive_length * receives_kept s.receive_queue + bytes_held s.memory + (length s.send_queue.hello + length s.send_queue.fpdus + held_len s.send_queue.held)

abbrev pub bytes_kept : EndpointState → ℕ
bytes_kept e = length e.staging + (bytes_of e.link.state + outside_held e.outside)
