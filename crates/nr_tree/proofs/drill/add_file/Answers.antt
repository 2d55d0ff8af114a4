use Rattle.std.proofs.Common.{◌≡◌, ◌+◌, ℕ, List, refl, subst, sym, arith}
use Rattle.nr_tree.specs.Changes.{tree_with_node}
use Rattle.nr_tree.specs.Drill.{time_zero, file_name}
use Rattle.nr_tree.specs.Steps.{CanAddNode}
use Rattle.nr_tree.proofs.DrillLemmas.{allowed_as, can_add_file, more_as, below_as}
use Rattle.nr_tree.proofs.drill.add_file.Goals as goal

pub add_node-requires-clause-allowed : goal.add_node-requires-clause-allowed
add_node-requires-clause-allowed c =
    subst (λ (n : List ℕ). CanAddNode c.args.tree.now 4 n c.in_ok-file.file) (sym c.in_ok-name.ensures.items)
    (allowed_as c.args.tree.now c.args.tree.now c.in_ok-file.file _ 4 (file_name c.args.count) refl c.in_ok-file.ensures (can_add_file c.args.count c.args.tree.now c.requires.drill))

pub returns-clause-drill : goal.returns-clause-drill
returns-clause-drill c =
    more_as c.args.count (c.args.count + 1) c.args.tree.now c.add_node.new.self c.in_ok-file.file c.in_ok-file.ensures (omega arith) c.requires.drill
    (subst (λ (n : List ℕ). c.add_node.new.self ≡ tree_with_node c.args.tree.now time_zero 4 n c.in_ok-file.file) c.in_ok-name.ensures.items c.in_ok-add_node.ensures.ok)

pub returns-clause-below : goal.returns-clause-below
returns-clause-below c =
    below_as c.args.count (c.args.count + 7) (c.args.count + 6) c.args.tree.now c.add_node.new.self c.in_ok-file.file c.in_ok-file.ensures (omega arith) (omega arith) c.requires.drill c.requires.below
    (subst (λ (n : List ℕ). c.add_node.new.self ≡ tree_with_node c.args.tree.now time_zero 4 n c.in_ok-file.file) c.in_ok-name.ensures.items c.in_ok-add_node.ensures.ok)
