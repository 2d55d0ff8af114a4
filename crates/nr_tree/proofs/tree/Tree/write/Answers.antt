use Rattle.std.proofs.Common.{subst, sym}
use Rattle.nr_tree.specs.Tree.{Tree}
use Rattle.std.proofs.Common.{◌≡◌, true}
use Rattle.nr_tree.specs.Steps.{is_regular_at}
use Rattle.nr_tree.specs.Changes.{tree_with_bytes}
use Rattle.nr_tree.proofs.StepLemmas.{regular_at, sane_write, sane_either}
use Rattle.nr_tree.proofs.tree.Tree.write.Goals as goal

pub write-requires-clause-regular : goal.write-requires-clause-regular
write-requires-clause-regular c = regular_at c.self.inside.table c.args.number (subst (λ (t : Tree). is_regular_at t c.args.number ≡ true) (sym c.self.view_is) c.requires.regular)

pub invariant_of-self : goal.invariant_of-self
invariant_of-self c =
    sane_either c.write.result c.self.inside.table _ (tree_with_bytes c.self.inside.table c.args.now c.args.number c.args.offset c.args.bytes.now) c.write.ensures.ok c.write.ensures.err c.self.invariant
    (sane_write c.self.inside.table c.args.now c.args.number c.args.offset c.args.bytes.now c.self.invariant (subst (λ (t : Tree). is_regular_at t c.args.number ≡ true) (sym c.self.view_is) c.requires.regular) c.requires.limit)
