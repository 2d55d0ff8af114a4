use Rattle.std.proofs.Common.{subst, sym}
use Rattle.nr_tree.specs.Tree.{Tree}
use Rattle.nr_tree.specs.Steps.{IsBounded, CanAddLink}
use Rattle.nr_tree.specs.Changes.{tree_with_link}
use Rattle.nr_tree.proofs.StepLemmas.{has_room, other_node, links_left, sane_add_link, sane_either}
use Rattle.nr_tree.proofs.tree.Tree.add_link.Goals as goal

pub add_link-requires-clause-other : goal.add_link-requires-clause-other
add_link-requires-clause-other c = other_node c.self.inside.table c.args.dir c.args.name.items c.args.number (subst (λ (t : Tree). CanAddLink t c.args.dir c.args.name.items c.args.number) (sym c.self.view_is) c.requires.allowed)

pub add_link-requires-clause-free : goal.add_link-requires-clause-free
add_link-requires-clause-free c = has_room c.self.inside.table c.args.dir c.args.name.items c.self.invariant (subst IsBounded (sym c.self.view_is) c.requires.bounded) (subst (λ (t : Tree). CanAddLink t c.args.dir c.args.name.items c.args.number) (sym c.self.view_is) c.requires.allowed).directory (subst (λ (t : Tree). CanAddLink t c.args.dir c.args.name.items c.args.number) (sym c.self.view_is) c.requires.allowed).free

pub add_link-requires-clause-links : goal.add_link-requires-clause-links
add_link-requires-clause-links c = links_left c.self.inside.table c.args.dir c.args.name.items c.args.number c.self.invariant (subst (λ (t : Tree). CanAddLink t c.args.dir c.args.name.items c.args.number) (sym c.self.view_is) c.requires.allowed)

pub invariant_of-self : goal.invariant_of-self
invariant_of-self c =
    sane_either c.add_link.result c.self.inside.table _ (tree_with_link c.self.inside.table c.args.now c.args.dir c.args.name.items c.args.number) c.add_link.ensures.ok c.add_link.ensures.err c.self.invariant
    (sane_add_link c.self.inside.table c.args.now c.args.dir c.args.name.items c.args.number c.self.invariant (subst (λ (t : Tree). CanAddLink t c.args.dir c.args.name.items c.args.number) (sym c.self.view_is) c.requires.allowed))
