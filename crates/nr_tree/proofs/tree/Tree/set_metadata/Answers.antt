use Rattle.std.proofs.Common.{◌≡◌, subst, sym}
use Rattle.nr_tree.specs.Sane.{IsSane}
use Rattle.nr_tree.specs.Tree.{Tree}
use Rattle.nr_tree.specs.Steps.{links_at}
use Rattle.nr_tree.proofs.StepLemmas.{sane_set_metadata}
use Rattle.nr_tree.proofs.tree.Tree.set_metadata.Goals as goal

pub invariant_of-self : goal.invariant_of-self
invariant_of-self c =
    subst IsSane (sym c.set_metadata.ensures)
    (sane_set_metadata c.self.inside.table c.args.number c.args.metadata c.self.invariant (subst (λ (t : Tree). c.args.metadata.links ≡ links_at t c.args.number) (sym c.self.view_is) c.requires.links))
