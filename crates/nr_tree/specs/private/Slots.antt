-- The entries that a map from names to slots stands for, and the order of their indexes.
use Rattle.std.specs.Prelude.{ℕ, ◌≡◌, ◌<◌, List, [], map, length, slice_index, slice_index_or}
use Rattle.std.specs.declared.vec.Vec.{Vec}
use Rattle.std.specs.declared.alloc.Global.{Global}
use Rattle.nr_tree.specs.declared.entry_table.Slot.{Slot}
use Rattle.nr_tree.specs.Entries.{Entry, CookiesAscend}

abbrev pub entry_of : Vec ℕ Global × Slot → Entry
entry_of p = record { cookie = p.1.cookie; name = p.0.items; number = p.1.number }

abbrev pub slot_entries : List (Vec ℕ Global × Slot) → List Entry
slot_entries ps = map entry_of ps

-- the entry at an index that no slot has
abbrev pub no_entry : Entry
no_entry = record { cookie = 0; name = []; number = 0 }

-- the entries of slots in an order of their indexes
abbrev pub ordered : List Entry → List ℕ → List Entry
ordered slots order = map (λ i. slice_index_or slots i no_entry) order

-- the order has the index of each slot, and cookies rise in it from 1 on, below the next one
pub record IsOrdered (slots : List Entry) (order : List ℕ) (next : ℕ) : Type 0 where
  pub count : length order ≡ length slots
  pub within : (place : ℕ) → place < length order → slice_index order place < length slots
  pub found : (index : ℕ) → index < length slots → (place : ℕ) × (place < length order) × (slice_index order place ≡ index)
  pub ascend : CookiesAscend 1 (ordered slots order) next
