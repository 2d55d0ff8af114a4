-- Indexes of slots, and changes of their order.
use Rattle.std.specs.Prelude.{ℕ, ◌≡◌, ◌<◌, ◌++◌, true, false, List, [], ◌∷◌, Option, None, Some, length, remove, slice_index, slice_index_or}
use Rattle.nr_tree.specs.Entries.{Entry, is_name}
use Rattle.nr_tree.specs.private.Slots.{no_entry, ordered}

-- the one slot under the name has the index; or none is under it
abbrev pub IsIndexOf : List Entry → List ℕ → Option ℕ → Type 0
IsIndexOf slots name None = (i : ℕ) → i < length slots → is_name name (slice_index_or slots i no_entry) ≡ false
IsIndexOf slots name (Some index) =
    (index < length slots) × (is_name name (slice_index_or slots index no_entry) ≡ true)
    × ((i : ℕ) → i < length slots → is_name name (slice_index_or slots i no_entry) ≡ true → i ≡ index)

-- the entries without the one of the slot at the index
abbrev pub IsTakenOut : List Entry → List ℕ → ℕ → List Entry → Type 0
IsTakenOut slots order index after = (place : ℕ) → place < length order → slice_index order place ≡ index → after ≡ remove (ordered slots order) place

-- the order with the index last
abbrev pub IsMovedLast : List ℕ → ℕ → List ℕ → Type 0
IsMovedLast order index after = (place : ℕ) → place < length order → slice_index order place ≡ index → after ≡ remove order place ++ index ∷ []
