-- Lists of chunks that are borrowed.
use Rattle.std.specs.Prelude.{option_map}
use Rattle.nr_header.specs.declared.header.ChunkLists.{ChunkLists}
use Rattle.nr_header.specs.declared.header.ListSlices.{ListSlices}

-- the lists whose elements are borrowed
abbrev pub lists_of_slices : ListSlices → ChunkLists
lists_of_slices s = record { read = s.read.now; write = s.write.now; reply = option_map (λ segments. segments.now) s.reply }
