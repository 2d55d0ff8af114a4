use Rattle.std.proofs.Common.{refl}
use Rattle.nr_xdr.specs.Item.{pad_len}
use Rattle.nr_wire.specs.Segment.{fpdu_size}
use Rattle.nr_wire.proofs.laws.longest_fpdu.Goals as goal

pub returns-clause-longest : goal.returns-clause-longest
unfolding fpdu_size pad_len
returns-clause-longest c = refl
