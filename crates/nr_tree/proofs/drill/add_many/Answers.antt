use Rattle.std.proofs.Common.{◌≡◌, ℕ, List, subst, sym, arith}
use Rattle.nr_tree.specs.Changes.{tree_with_node}
use Rattle.nr_tree.specs.Drill.{time_zero, many, with_link}
use Rattle.nr_tree.specs.Steps.{CanAddNode}
use Rattle.nr_tree.proofs.DrillLemmas.{bounded_as, allowed_as, added_as, can_add_many, below_link}
use Rattle.nr_tree.proofs.drill.add_many.Goals as goal

pub add_node-requires-clause-bounded : goal.add_node-requires-clause-bounded
add_node-requires-clause-bounded c = bounded_as c.args.tree.now with_link 5 (omega arith) c.requires.before below_link

pub add_node-requires-clause-allowed : goal.add_node-requires-clause-allowed
add_node-requires-clause-allowed c =
    subst (λ (n : List ℕ). CanAddNode c.args.tree.now 1 n c.directory.result) (sym c.in_ok-name.ensures.items) (allowed_as c.args.tree.now with_link c.directory.result _ 1 many c.requires.before c.directory.ensures can_add_many)

pub returns : goal.returns
returns c =
    added_as c.args.tree.now with_link c.add_node.new.self c.directory.result _ 1 many c.requires.before c.directory.ensures
    (subst (λ (n : List ℕ). c.add_node.new.self ≡ tree_with_node c.args.tree.now time_zero 1 n c.directory.result) c.in_ok-name.ensures.items c.in_ok-add_node.ensures.ok)
