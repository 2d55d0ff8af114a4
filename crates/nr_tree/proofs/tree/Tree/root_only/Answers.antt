use Rattle.std.proofs.Common.{subst, sym}
use Rattle.nr_tree.specs.Sane.{IsSane}
use Rattle.nr_tree.specs.Steps.{IsBelow}
use Rattle.nr_tree.proofs.DrillLemmas.{below_root_only}
use Rattle.nr_tree.proofs.Roots.{sane_root_only}
use Rattle.nr_tree.proofs.tree.Tree.root_only.Goals as goal

pub invariant_of-result : goal.invariant_of-result
invariant_of-result c = subst IsSane (sym c.in_ok-table.ensures) (sane_root_only c.args.now)

pub returns-clause-below : goal.returns-clause-below
returns-clause-below c = subst (IsBelow 3) (sym c.in_ok-table.ensures) (below_root_only c.args.now)
