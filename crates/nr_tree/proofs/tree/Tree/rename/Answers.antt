use Rattle.std.proofs.Common.{subst, sym}
use Rattle.nr_tree.specs.Tree.{Tree}
use Rattle.nr_tree.specs.Steps.{IsBounded, CanRename}
use Rattle.nr_tree.specs.Changes.{tree_with_new_name}
use Rattle.nr_tree.proofs.StepLemmas.{sane_either}
use Rattle.nr_tree.proofs.RenameLemmas.{sane_rename}
use Rattle.nr_tree.proofs.tree.Tree.rename.Goals as goal

pub rename-requires-clause-bounded : goal.rename-requires-clause-bounded
rename-requires-clause-bounded c = (subst IsBounded (sym c.self.view_is) c.requires.bounded)

pub rename-requires-clause-allowed : goal.rename-requires-clause-allowed
rename-requires-clause-allowed c = (subst (λ (t : Tree). CanRename t c.args.from c.args.name.now c.args.to c.args.name_to.items c.args.number) (sym c.self.view_is) c.requires.allowed)

pub invariant_of-self : goal.invariant_of-self
invariant_of-self c =
    sane_either c.rename.result c.self.inside.table _ (tree_with_new_name c.self.inside.table c.args.now c.args.from c.args.name.now c.args.to c.args.name_to.items c.args.number) c.rename.ensures.ok c.rename.ensures.err c.self.invariant
    (sane_rename c.self.inside.table c.args.from c.args.name.now c.args.to c.args.name_to.items c.args.number c.self.invariant (subst (λ (t : Tree). CanRename t c.args.from c.args.name.now c.args.to c.args.name_to.items c.args.number) (sym c.self.view_is) c.requires.allowed) c.args.now)
