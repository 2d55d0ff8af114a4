use Rattle.std.proofs.Common.{arith}
use Rattle.nr_service_tests.proofs.turns.drill_tree.Goals as goal
use Rattle.nr_service_tests.proofs.Below.{below_end}

pub returns : goal.returns
returns g c = below_end 106 _ (omega arith) (rw (c.expect.ensures) at c.drill.ensures.below)
