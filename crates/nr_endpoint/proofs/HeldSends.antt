-- One message more among those that are held back.
use Rattle.std.proofs.Common.{◌≡◌, ℕ, ◌+◌, ◌^◌, ◌<◌, List, [], ◌∷◌, ◌++◌, length, arith}
use Rattle.std.specs.List.{AllByRecursion}
use Rattle.nr_endpoint.specs.SendQueue.{held_len}
use Rattle.nr_endpoint.specs.OperationSegments.{cut_room}
use Rattle.nr_endpoint.specs.private.HeldSends.{held_room}

pub held_len_push : (held : List (List ℕ)) (message : List ℕ) → held_len (held ++ message ∷ []) ≡ held_len held + length message
held_len_push [] message = omega arith
held_len_push (first ∷ held) message = omega (arith, held_len_push held message)

pub held_room_push : (held : List (List ℕ)) (message : List ℕ) → held_room (held ++ message ∷ []) ≡ held_room held + cut_room 27 message
held_room_push [] message = omega arith
held_room_push (first ∷ held) message = omega (arith, held_room_push held message)

abbrev pub AreShort : List (List ℕ) → Type 0
AreShort held = AllByRecursion (λ message. length message < 2 ^ 32) held

pub short_push : (held : List (List ℕ)) (message : List ℕ) → AreShort held → length message < 2 ^ 32 → AreShort (held ++ message ∷ [])
short_push [] message each short = (short, tt)
short_push (first ∷ held) message each short = (each.0, short_push held message each.1 short)
