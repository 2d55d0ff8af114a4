use Rattle.std.proofs.Common.{arith}
use Rattle.nr_plain_tests.proofs.directory_orders.opened.Goals as goal
use Rattle.nr_plain_tests.proofs.Below.{below_end}

pub open-requires-clause-below : goal.open-requires-clause-below
open-requires-clause-below g c = below_end 3 _ (omega arith) (rw (c.expect-tree.ensures) at c.root_only.ensures.below)
