use Rattle.std.proofs.Common.{◌≡◌, ◌++◌, map, take}
use Rattle.nr_xdr.specs.Item.Item.{Unsigned}
use Rattle.nr_xdr.specs.Items.{encodings}
use Rattle.nr_rpc.proofs.put.put_numbers.Given as goal

abbrev pub invariant-loop-number : goal.invariant-loop-number
invariant-loop-number l = l.writer ≡ l.fn.writer ++ encodings (map Unsigned (take l.number-index l.numbers))
