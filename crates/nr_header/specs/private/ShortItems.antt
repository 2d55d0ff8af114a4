-- The elements of a list without memory.
use Rattle.std.specs.Prelude.{ℕ, List, [], ◌∷◌}
use Rattle.nr_header.specs.declared.short_list.Room.{Room}
use Rattle.nr_header.specs.declared.short_list.Room.TheVariants.{Empty, One, Many}

abbrev pub short_items : {T : Type 0} {N : ℕ} → Room T N → List T
short_items Empty = []
short_items (One item) = item ∷ []
short_items (Many items) = items.items
