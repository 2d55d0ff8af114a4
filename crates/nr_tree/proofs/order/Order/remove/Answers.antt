use Rattle.std.proofs.Common.{ℕ, List, remove, subst, ap, ◌∙◌}
use Rattle.nr_tree.specs.private.Blocks.{IndexBlock, IsIn, lists}
use Rattle.nr_tree.proofs.Joined.{found_in, remove_found, removed_taken}
use Rattle.nr_tree.proofs.order.Order.remove.Goals as goal

pub remove_at-requires-clause-block : goal.remove_at-requires-clause-block
remove_at-requires-clause-block c = (found_in _ _ _ _ (subst (λ (bs : List IndexBlock). IsIn (lists bs) c.find-block.result.0 c.find-block.result.1 c.args.place) c.deref.ensures.value c.find-block.ensures)).0

pub remove_at-requires-clause-offset : goal.remove_at-requires-clause-offset
remove_at-requires-clause-offset c = (found_in _ _ _ _ (subst (λ (bs : List IndexBlock). IsIn (lists bs) c.find-block.result.0 c.find-block.result.1 c.args.place) c.deref.ensures.value c.find-block.ensures)).1

pub returns : goal.returns
returns c =
    c.tidy.ensures.same
    ∙ remove_found _ _ _ _ _ (subst (λ (bs : List IndexBlock). IsIn (lists bs) c.find-block.result.0 c.find-block.result.1 c.args.place) c.deref.ensures.value c.find-block.ensures) c.remove_at.ensures
    ∙ ap (λ (l : List ℕ). remove l c.args.place) c.self.view_is

pub tidy-requires-clause-block : goal.tidy-requires-clause-block
tidy-requires-clause-block c =
    (removed_taken c.self.inside.blocks.items c.remove_at.new.blocks.items c.find-block.result.0 c.find-block.result.1
    (found_in _ _ _ _ (subst (λ (bs : List IndexBlock). IsIn (lists bs) c.find-block.result.0 c.find-block.result.1 c.args.place) c.deref.ensures.value c.find-block.ensures)).0 c.remove_at.ensures c.self.invariant).0

pub tidy-requires-clause-taken : goal.tidy-requires-clause-taken
tidy-requires-clause-taken c =
    (removed_taken c.self.inside.blocks.items c.remove_at.new.blocks.items c.find-block.result.0 c.find-block.result.1
    (found_in _ _ _ _ (subst (λ (bs : List IndexBlock). IsIn (lists bs) c.find-block.result.0 c.find-block.result.1 c.args.place) c.deref.ensures.value c.find-block.ensures)).0 c.remove_at.ensures c.self.invariant).1.0

pub tidy-requires-clause-roomy : goal.tidy-requires-clause-roomy
tidy-requires-clause-roomy c =
    (removed_taken c.self.inside.blocks.items c.remove_at.new.blocks.items c.find-block.result.0 c.find-block.result.1
    (found_in _ _ _ _ (subst (λ (bs : List IndexBlock). IsIn (lists bs) c.find-block.result.0 c.find-block.result.1 c.args.place) c.deref.ensures.value c.find-block.ensures)).0 c.remove_at.ensures c.self.invariant).1.1
