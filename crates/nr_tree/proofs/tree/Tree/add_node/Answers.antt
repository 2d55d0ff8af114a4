use Rattle.std.proofs.Common.{subst, sym}
use Rattle.nr_tree.specs.Tree.{Tree}
use Rattle.nr_tree.specs.Steps.{IsBounded, CanAddNode}
use Rattle.nr_tree.specs.Changes.{tree_with_node}
use Rattle.nr_tree.proofs.StepLemmas.{has_room, next_free, not_next, sane_add_node, sane_either}
use Rattle.nr_tree.proofs.tree.Tree.add_node.Goals as goal

pub add_node-requires-clause-fresh : goal.add_node-requires-clause-fresh
add_node-requires-clause-fresh c = next_free c.self.inside.table c.self.invariant

pub add_node-requires-clause-number : goal.add_node-requires-clause-number
add_node-requires-clause-number c = (subst IsBounded (sym c.self.view_is) c.requires.bounded).next

pub add_node-requires-clause-other : goal.add_node-requires-clause-other
add_node-requires-clause-other c = not_next c.self.inside.table c.args.dir c.self.invariant (subst (λ (t : Tree). CanAddNode t c.args.dir c.args.name.items c.args.node) (sym c.self.view_is) c.requires.allowed).directory

pub add_node-requires-clause-free : goal.add_node-requires-clause-free
add_node-requires-clause-free c = has_room c.self.inside.table c.args.dir c.args.name.items c.self.invariant (subst IsBounded (sym c.self.view_is) c.requires.bounded) (subst (λ (t : Tree). CanAddNode t c.args.dir c.args.name.items c.args.node) (sym c.self.view_is) c.requires.allowed).directory (subst (λ (t : Tree). CanAddNode t c.args.dir c.args.name.items c.args.node) (sym c.self.view_is) c.requires.allowed).free

pub invariant_of-self : goal.invariant_of-self
invariant_of-self c =
    sane_either c.add_node.result c.self.inside.table _ (tree_with_node c.self.inside.table c.args.now c.args.dir c.args.name.items c.args.node) c.add_node.ensures.ok c.add_node.ensures.err c.self.invariant
    (sane_add_node c.self.inside.table c.args.now c.args.dir c.args.name.items c.args.node c.self.invariant (subst (λ (t : Tree). CanAddNode t c.args.dir c.args.name.items c.args.node) (sym c.self.view_is) c.requires.allowed))
