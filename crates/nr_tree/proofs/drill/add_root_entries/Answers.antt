use Rattle.std.proofs.Common.{subst, sym}
use Rattle.nr_tree.specs.Drill.{IsDrillWith}
use Rattle.nr_tree.specs.Steps.{IsBelow}
use Rattle.nr_tree.proofs.DrillLemmas.{on_ok_map, drill_begins, below_many}
use Rattle.nr_tree.proofs.drill.add_root_entries.Goals as goal

pub returns-clause-drill : goal.returns-clause-drill
returns-clause-drill c = on_ok_map c.add_many.result (λ e. subst (IsDrillWith 0) (sym e) drill_begins) c.add_many.ensures

pub returns-clause-below : goal.returns-clause-below
returns-clause-below c = on_ok_map c.add_many.result (λ e. subst (IsBelow 6) (sym e) below_many) c.add_many.ensures
