use Rattle.std.proofs.Common.{◌≡◌, ◌++◌, [], drop}
use Rattle.nr_xdr.specs.Items.{encodings}
use Rattle.nr_header.specs.Header.{read_items}
use Rattle.nr_header.proofs.writing.put_read_list.Given as goal

abbrev pub invariant-loop-entry : goal.invariant-loop-entry
invariant-loop-entry l = l.writer ++ encodings (read_items (drop l.entry-index l.read) []) ≡ l.fn.writer ++ encodings (read_items l.read [])
