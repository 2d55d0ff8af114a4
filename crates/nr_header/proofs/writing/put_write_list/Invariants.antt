use Rattle.std.proofs.Common.{◌≡◌, ◌++◌, [], drop}
use Rattle.nr_xdr.specs.Items.{encodings}
use Rattle.nr_header.specs.Header.{write_items}
use Rattle.nr_header.proofs.writing.put_write_list.Given as goal

abbrev pub invariant-loop-chunk : goal.invariant-loop-chunk
invariant-loop-chunk l = l.writer ++ encodings (write_items (drop l.chunk-index l.write) []) ≡ l.fn.writer ++ encodings (write_items l.write [])
