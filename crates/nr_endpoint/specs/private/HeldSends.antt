-- The Sends that are held back: the bytes of their messages are counted, and there is room for their FPDUs in the output, and for their ends.
use Rattle.std.specs.Prelude.{◌≡◌, ℕ, ◌+◌, ◌^◌, ◌<◌, ◌≤◌, List, [], ◌∷◌, length}
use Rattle.std.specs.List.{AllByRecursion}
use Rattle.nr_link.specs.Limits.{segment_max}
use Rattle.nr_endpoint.specs.SendQueue.{held_len}
use Rattle.nr_endpoint.specs.OperationSegments.{cut_room}

-- the room of their FPDUs, each of which has at most 27 bytes beside its payload
abbrev pub held_room : List (List ℕ) → ℕ
held_room [] = 0
held_room (message ∷ held) = cut_room 27 message + held_room held

pub record HasRoomFor (held : List (List ℕ)) (len kept : ℕ) (ends : List ℕ) (room : ℕ) : Type 0 where
  pub len_is : len ≡ held_len held
  pub short : AllByRecursion (λ message. length message < 2 ^ 32) held
  pub bytes : held_room held ≤ kept
  pub ends_fit : length ends + length held ≤ room
