-- The blocks of an order: where a place of the joined blocks lies, and when blocks are few.
use Rattle.std.specs.Prelude.{⊤, ℕ, zero, suc, ◌≡◌, ◌+◌, ◌*◌, ◌-◌, ◌<◌, ◌≤◌, List, [], ◌∷◌, ◌++◌, length, map, remove, slice_index_or, slice_set, refl}
use Rattle.std.specs.List.{concat}
use Rattle.std.specs.Coded.{Coded, code_by, coded×, coded_list, coded_ℕ}

-- a block: its indexes, and for how many its memory has room
pub record IndexBlock : Type 0 where
  pub indexes : List ℕ
  pub room : ℕ

abbrev pub block_code : Coded IndexBlock
block_code =
    code_by (List ℕ × ℕ) (coded× (coded_list coded_ℕ) coded_ℕ) (λ b. (b.indexes, b.room))
    (λ p. record { indexes = p.0; room = p.1 }) (λ _. refl)

abbrev pub no_block : IndexBlock
no_block = record { indexes = []; room = 0 }

abbrev pub lists : List IndexBlock → List (List ℕ)
lists bs = map (λ b. b.indexes) bs

-- the place lies in the block of this number, at this offset
abbrev pub IsIn : List (List ℕ) → ℕ → ℕ → ℕ → Type 0
IsIn [] block offset place = ⊥
IsIn (b ∷ bs) zero offset place = (offset ≡ place) × (offset < length b)
IsIn (b ∷ bs) (suc block) offset place = (length b ≤ place) × IsIn bs block offset (place - length b)

-- the most indexes that a block has
abbrev pub block_max : ℕ
block_max = 2048

-- two blocks that follow each other become one unless they have more indexes than this
abbrev pub joined_max : ℕ
joined_max = 1024

abbrev pub IsFilled : IndexBlock → Type 0
IsFilled b = (0 < length b.indexes) × (length b.indexes ≤ block_max)

-- a block and the first of those after it are too large for one
abbrev pub IsApart : IndexBlock → List IndexBlock → Type 0
IsApart b [] = ⊤
IsApart b (c ∷ bs) = joined_max < length b.indexes + length c.indexes

-- no block is empty, and any two that follow each other are too large for one
abbrev pub AreApart : List IndexBlock → Type 0
AreApart [] = ⊤
AreApart (b ∷ bs) = IsFilled b × IsApart b bs × AreApart bs

-- each block but the last has room for two that become one
abbrev pub AreRoomy : List IndexBlock → Type 0
AreRoomy [] = ⊤
AreRoomy (b ∷ []) = ⊤
AreRoomy (b ∷ c ∷ bs) = (joined_max ≤ b.room) × AreRoomy (c ∷ bs)

-- the blocks of an order
abbrev pub AreJoined : List IndexBlock → Type 0
AreJoined bs = AreApart bs × AreRoomy bs

-- so they are few
abbrev pub BlocksAreFew : Type 0
BlocksAreFew = (bs : List IndexBlock) → AreJoined bs → 1025 * length bs ≤ 2 * length (concat (lists bs)) + 1025

-- the same, but that the block at an index may have become smaller, or empty
abbrev pub IsTaken : ℕ → List IndexBlock → Type 0
IsTaken i [] = ⊤
IsTaken zero (b ∷ bs) = (length b.indexes ≤ block_max) × AreApart bs
IsTaken (suc i) (b ∷ bs) = IsFilled b × (0 < i → IsApart b bs) × IsTaken i bs

-- the same, but that it isn't empty
abbrev pub IsAround : ℕ → List IndexBlock → Type 0
IsAround i [] = ⊤
IsAround zero (b ∷ bs) = IsFilled b × AreApart bs
IsAround (suc i) (b ∷ bs) = IsFilled b × (0 < i → IsApart b bs) × IsAround i bs

-- the same, but that the block at an index and the one before it may be small enough for one
abbrev pub IsAfter : ℕ → List IndexBlock → Type 0
IsAfter zero bs = AreApart bs
IsAfter (suc i) [] = ⊤
IsAfter (suc i) (b ∷ bs) = IsFilled b × (0 < i → IsApart b bs) × IsAfter i bs

-- the block at an index has taken the indexes of the next one
abbrev pub IsJoined : List IndexBlock → ℕ → List IndexBlock → Type 0
IsJoined bs i after =
    (b : IndexBlock) × (b.indexes ≡ (slice_index_or bs i no_block).indexes ++ (slice_index_or bs (i + 1) no_block).indexes) × ((slice_index_or bs i no_block).room ≤ b.room)
    × (after ≡ slice_set (remove bs (i + 1)) i b)

-- there is a last block, and it may have one index more
abbrev pub HasRoomLast : List IndexBlock → Type 0
HasRoomLast [] = ⊥
HasRoomLast (b ∷ []) = length b.indexes < block_max
HasRoomLast (b ∷ c ∷ bs) = HasRoomLast (c ∷ bs)

-- the last block, if there is one, has all that it may have
abbrev pub IsFullLast : List IndexBlock → Type 0
IsFullLast [] = ⊤
IsFullLast (b ∷ []) = (block_max ≤ length b.indexes) × (block_max ≤ b.room)
IsFullLast (b ∷ c ∷ bs) = IsFullLast (c ∷ bs)
