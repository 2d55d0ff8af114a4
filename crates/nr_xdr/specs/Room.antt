-- The bytes of a writer, and the room after them.
use Rattle.std.specs.Prelude.{◌≡◌, ℕ, ◌+◌, ◌≤◌, List, ◌++◌, length, refl}
use Rattle.std.specs.Coded.{Coded, code_by, coded×, coded_ℕ, coded_list}

-- the bytes so far, and how many more can be written without memory
pub record Room : Type 0 where
  pub bytes : List ℕ
  pub left : ℕ

abbrev pub room_code : Coded Room
room_code =
    code_by (List ℕ × ℕ) (coded× (coded_list coded_ℕ) coded_ℕ) (λ r. (r.bytes, r.left)) (λ p. record { bytes = p.0; left = p.1 }) (λ _. refl)

-- there is room for these bytes
abbrev pub HasRoom : Room → List ℕ → Type 0
HasRoom room bytes = length bytes ≤ room.left

-- these bytes were appended, and no more of the room was used than they take
pub record Appended (old new : Room) (bytes : List ℕ) : Type 0 where
  pub is : new.bytes ≡ old.bytes ++ bytes
  pub room : old.left ≤ new.left + length bytes
