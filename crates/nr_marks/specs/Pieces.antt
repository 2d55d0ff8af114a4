-- Pieces of stores of bytes.
use Rattle.std.specs.Prelude.{◌≡◌, ℕ, ◌+◌, ◌≤◌, List, [], ◌++◌, length, take, drop, get_or, sum_by}
use Rattle.nr_marks.specs.declared.stores.Piece.{Piece}

-- how many bytes all stores have
abbrev pub stored_len : List (List ℕ) → ℕ
stored_len stores = sum_by length stores

-- at most so many stores: that of bytes that are found nowhere else, one without use, and two for each of 16 links
abbrev pub stores_max : ℕ
stores_max = 35

-- at most so many pieces are noted: of each of 16 links, and of all others together, a payload and a reply of 16 calls
abbrev pub slots_max : ℕ
slots_max = 544

-- the bytes of a piece
abbrev pub bytes_in : List (List ℕ) → Piece → List ℕ
bytes_in stores p = take p.len (drop p.at (get_or stores p.store []))

-- a piece ends within its store
abbrev pub IsWithin : List (List ℕ) → Piece → Type 0
IsWithin stores p = p.at + p.len ≤ length (get_or stores p.store [])

-- a piece has these bytes
pub record Holds (stores : List (List ℕ)) (p : Piece) (bytes : List ℕ) : Type 0 where
  pub within : IsWithin stores p
  pub is : bytes_in stores p ≡ bytes

-- each store has the bytes that it had, and maybe more after them
pub record Grows (old new : List (List ℕ)) : Type 0 where
  pub more : ℕ → List ℕ
  pub is : (k : ℕ) → get_or new k [] ≡ get_or old k [] ++ more k
