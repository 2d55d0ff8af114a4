use Rattle.nr_bench.proofs.ends.plain.Goals as goal
use Rattle.nr_bench.proofs.Below.{below_end}

pub open-requires-clause-below : goal.open-requires-clause-below
open-requires-clause-below c = below_end _ c.in_ok-tree.ensures.below
