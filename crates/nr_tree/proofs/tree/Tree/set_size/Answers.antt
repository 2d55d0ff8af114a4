use Rattle.std.proofs.Common.{◌≡◌, true, subst, sym}
use Rattle.nr_tree.specs.Tree.{Tree}
use Rattle.nr_tree.specs.Sane.{IsSane}
use Rattle.nr_tree.specs.Steps.{is_regular_at}
use Rattle.nr_tree.proofs.StepLemmas.{regular_at, sane_set_size}
use Rattle.nr_tree.proofs.tree.Tree.set_size.Goals as goal

pub set_size-requires-clause-regular : goal.set_size-requires-clause-regular
set_size-requires-clause-regular c = regular_at c.self.inside.table c.args.number (subst (λ (t : Tree). is_regular_at t c.args.number ≡ true) (sym c.self.view_is) c.requires.regular)

pub invariant_of-self : goal.invariant_of-self
invariant_of-self c =
    subst IsSane (sym c.set_size.ensures)
    (sane_set_size c.self.inside.table c.args.now c.args.number c.args.size c.self.invariant (subst (λ (t : Tree). is_regular_at t c.args.number ≡ true) (sym c.self.view_is) c.requires.regular) c.requires.limit)
