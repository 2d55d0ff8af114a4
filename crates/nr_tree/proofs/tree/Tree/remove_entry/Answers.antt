use Rattle.std.proofs.Common.{subst, sym}
use Rattle.nr_tree.specs.Sane.{IsSane}
use Rattle.nr_tree.specs.Tree.{Tree}
use Rattle.nr_tree.specs.Steps.{CanRemoveEntry}
use Rattle.nr_tree.proofs.StepLemmas.{removable, sane_remove_entry}
use Rattle.nr_tree.proofs.tree.Tree.remove_entry.Goals as goal

pub remove_entry-requires-clause-is : goal.remove_entry-requires-clause-is
remove_entry-requires-clause-is c = (removable c.self.inside.table c.args.dir c.args.name.now c.args.number c.self.invariant (subst (λ (t : Tree). CanRemoveEntry t c.args.dir c.args.name.now c.args.number) (sym c.self.view_is) c.requires.allowed)).is

pub remove_entry-requires-clause-counted : goal.remove_entry-requires-clause-counted
remove_entry-requires-clause-counted c = (removable c.self.inside.table c.args.dir c.args.name.now c.args.number c.self.invariant (subst (λ (t : Tree). CanRemoveEntry t c.args.dir c.args.name.now c.args.number) (sym c.self.view_is) c.requires.allowed)).apart

pub remove_entry-requires-clause-linked : goal.remove_entry-requires-clause-linked
remove_entry-requires-clause-linked c = (removable c.self.inside.table c.args.dir c.args.name.now c.args.number c.self.invariant (subst (λ (t : Tree). CanRemoveEntry t c.args.dir c.args.name.now c.args.number) (sym c.self.view_is) c.requires.allowed)).linked

pub invariant_of-self : goal.invariant_of-self
invariant_of-self c = subst IsSane (sym c.remove_entry.ensures) (sane_remove_entry c.self.inside.table c.args.dir c.args.name.now c.args.number c.self.invariant (subst (λ (t : Tree). CanRemoveEntry t c.args.dir c.args.name.now c.args.number) (sym c.self.view_is) c.requires.allowed) c.args.now)
