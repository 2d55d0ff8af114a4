use Rattle.std.proofs.Common.{◌+◌}
use Rattle.nr_tree.specs.Drill.{IsDrillWith}
use Rattle.nr_tree.specs.Steps.{IsBelow}
use Rattle.nr_tree.proofs.drill.add_files.Given as goal

abbrev pub invariant-loop-count : goal.invariant-loop-count
invariant-loop-count l = IsDrillWith l.count l.tree × IsBelow (l.count + 6) l.tree
