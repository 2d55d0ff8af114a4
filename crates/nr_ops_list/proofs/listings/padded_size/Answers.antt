use Rattle.std.proofs.Common.{arith}
use Rattle.nr_xdr.specs.Item.{pad_len}
use Rattle.nr_ops_list.proofs.listings.padded_size.Goals as goal

pub returns-clause-size : goal.returns-clause-size
unfolding pad_len
returns-clause-size c = omega arith
