-- The elements of a list, held inline or in a vector; the lists in a room.
use Rattle.std.specs.Prelude.{ℕ, List}
use Rattle.nr_header.specs.declared.header.ChunkLists.{ChunkLists}
use Rattle.nr_header.specs.declared.lists.ListsRead.{ListsRead}
use Rattle.nr_header.specs.declared.inline_vec.Storage.{Storage}
use Rattle.nr_header.specs.declared.inline_vec.Storage.TheVariants.{Short, Long}

abbrev pub items_of : {T : Type 0} {N : ℕ} → Storage T N → List T
items_of (Short items) = items
items_of (Long items) = items.items

-- the lists that were read into a room
abbrev pub lists_of : ListsRead → ChunkLists
lists_of r = record { read = r.read; write = r.write; reply = r.reply }
