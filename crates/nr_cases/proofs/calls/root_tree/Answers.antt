use Rattle.std.proofs.Common.{arith}
use Rattle.nr_cases.proofs.calls.root_tree.Goals as goal
use Rattle.nr_cases.proofs.Below.{below_end}

pub returns-in-Ok : goal.returns-in-Ok
returns-in-Ok c = below_end 3 _ (omega arith) c.in-Ok.ensures.below
