use Rattle.std.proofs.Common.{◌≡◌, ℕ, List, subst, sym, arith}
use Rattle.nr_tree.specs.Changes.{tree_with_node}
use Rattle.nr_tree.specs.Drill.{time_zero, link, with_hello}
use Rattle.nr_tree.specs.Steps.{CanAddNode}
use Rattle.nr_tree.proofs.DrillLemmas.{bounded_as, allowed_as, added_as, can_add_link, below_hello}
use Rattle.nr_tree.proofs.drill.add_link.Goals as goal

pub add_node-requires-clause-bounded : goal.add_node-requires-clause-bounded
add_node-requires-clause-bounded c = bounded_as c.args.tree.now with_hello 4 (omega arith) c.requires.before below_hello

pub add_node-requires-clause-allowed : goal.add_node-requires-clause-allowed
add_node-requires-clause-allowed c =
    subst (λ (n : List ℕ). CanAddNode c.args.tree.now 1 n c.in_ok-link.link) (sym c.in_ok-name.ensures.items) (allowed_as c.args.tree.now with_hello c.in_ok-link.link _ 1 link c.requires.before c.in_ok-link.ensures can_add_link)

pub returns : goal.returns
returns c =
    added_as c.args.tree.now with_hello c.add_node.new.self c.in_ok-link.link _ 1 link c.requires.before c.in_ok-link.ensures
    (subst (λ (n : List ℕ). c.add_node.new.self ≡ tree_with_node c.args.tree.now time_zero 1 n c.in_ok-link.link) c.in_ok-name.ensures.items c.in_ok-add_node.ensures.ok)
