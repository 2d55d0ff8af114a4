use Rattle.std.proofs.Common.{◌≡◌, ℕ, List, subst, sym, arith}
use Rattle.nr_tree.specs.Changes.{tree_with_node}
use Rattle.nr_tree.specs.Drill.{time_zero, hello, with_root}
use Rattle.nr_tree.specs.Steps.{CanAddNode}
use Rattle.nr_tree.proofs.DrillLemmas.{bounded_as, allowed_as, added_as, can_add_hello, below_root_only}
use Rattle.nr_tree.proofs.drill.add_hello.Goals as goal

pub add_node-requires-clause-bounded : goal.add_node-requires-clause-bounded
add_node-requires-clause-bounded c = bounded_as c.args.tree.now with_root 3 (omega arith) c.requires.before (below_root_only _)

pub add_node-requires-clause-allowed : goal.add_node-requires-clause-allowed
add_node-requires-clause-allowed c =
    subst (λ (n : List ℕ). CanAddNode c.args.tree.now 1 n c.in_ok-hello.hello) (sym c.in_ok-name.ensures.items) (allowed_as c.args.tree.now with_root c.in_ok-hello.hello _ 1 hello c.requires.before c.in_ok-hello.ensures can_add_hello)

pub returns : goal.returns
returns c =
    added_as c.args.tree.now with_root c.add_node.new.self c.in_ok-hello.hello _ 1 hello c.requires.before c.in_ok-hello.ensures
    (subst (λ (n : List ℕ). c.add_node.new.self ≡ tree_with_node c.args.tree.now time_zero 1 n c.in_ok-hello.hello) c.in_ok-name.ensures.items c.in_ok-add_node.ensures.ok)
