-- A window over an input: the bytes that were read of it and are not written yet.
use Rattle.std.specs.Prelude.{◌≡◌, ℕ, ◌-◌, ◌≤◌, ◌⊎◌, ⊤, Bool, true, false, if◌then◌else◌, nat_lt, min, List, [], ◌++◌, length, Option}
use Rattle.std.specs.Io.KnownBytes.{IsAtEnd}
use Rattle.nr_nfs_base.specs.Limits.{transfer_max}
use Rattle.nr_outside.specs.Content.{HandsOut}
use Rattle.nr_outside.specs.Whole.{input_max}
use Rattle.nr_client.specs.declared.client_end.ClientEnd.{ClientEnd}
use Rattle.nr_client.specs.declared.client_end.ClientEnd.TheVariants as client

-- the bytes, and whether the input has ended
pub record WindowState : Type 0 where
  pub kept : List ℕ
  pub ended : Bool

-- what may follow the bytes of an input, by whether it has ended
abbrev pub MayFollow : Bool → List ℕ → Type 0
MayFollow true rest = rest ≡ []
MayFollow false rest = ⊤

-- an input that has ended has no known byte left
abbrev pub EndsAt : Bool → Option (List ℕ) → Type 0
EndsAt true left = IsAtEnd left
EndsAt false left = ⊤

-- More bytes were read into a window, up to this number in all.
pub record TakesMore (wanted : ℕ) (left given left' given' : Option (List ℕ)) (w w' : WindowState) : Type 0 where
  pub more : List ℕ
  pub hands_out : HandsOut left given left' given' more
  pub kept : w'.kept ≡ w.kept ++ more
  pub within : length w'.kept ≤ wanted
  pub follows : (rest : List ℕ) → MayFollow w'.ended rest → MayFollow w.ended (more ++ rest)
  pub ends : EndsAt w.ended left → EndsAt w'.ended left'

-- why it ends before: a read failed, or memory ran out
abbrev pub IsOfInput : ClientEnd → Type 0
IsOfInput end = (end ≡ client.InputFault) ⊎ (end ≡ client.Memory)

-- this number of bytes is there, or all that the input has
abbrev pub IsFull : ℕ → WindowState → Type 0
IsFull wanted w = (length w.kept ≡ wanted) ⊎ (w.ended ≡ true)

-- how many bytes are wanted at this offset: what the next WRITE sends; at the maximum, one that tells that more came
abbrev pub wanted_at : ℕ → ℕ
wanted_at at = if nat_lt at input_max then min transfer_max (input_max - at) else 1

-- the window has what is wanted at this offset, which is within the maximum
pub record IsReadyAt (at : ℕ) (left : Option (List ℕ)) (w : WindowState) : Type 0 where
  pub offset : at ≤ input_max
  pub full : IsFull (wanted_at at) w
  pub within : length w.kept ≤ wanted_at at
  pub ends : EndsAt w.ended left
