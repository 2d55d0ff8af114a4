use Rattle.std.proofs.Common.{ℕ, List, set, subst, ap, ◌∙◌}
use Rattle.nr_tree.specs.private.Blocks.{IndexBlock, IsIn, lists}
use Rattle.nr_tree.proofs.Joined.{found_in, set_found, set_joined}
use Rattle.nr_tree.proofs.order.Order.set.Goals as goal

pub set_at-requires-clause-block : goal.set_at-requires-clause-block
set_at-requires-clause-block c = (found_in _ _ _ _ (subst (λ (bs : List IndexBlock). IsIn (lists bs) c.find-block.result.0 c.find-block.result.1 c.args.place) c.deref.ensures.value c.find-block.ensures)).0

pub set_at-requires-clause-offset : goal.set_at-requires-clause-offset
set_at-requires-clause-offset c = (found_in _ _ _ _ (subst (λ (bs : List IndexBlock). IsIn (lists bs) c.find-block.result.0 c.find-block.result.1 c.args.place) c.deref.ensures.value c.find-block.ensures)).1

pub returns : goal.returns
returns c =
    set_found _ _ _ _ _ c.args.index (subst (λ (bs : List IndexBlock). IsIn (lists bs) c.find-block.result.0 c.find-block.result.1 c.args.place) c.deref.ensures.value c.find-block.ensures) c.set_at.ensures
    ∙ ap (λ (l : List ℕ). set l c.args.place c.args.index) c.self.view_is

pub invariant_of-self : goal.invariant_of-self
invariant_of-self c =
    set_joined c.self.inside.blocks.items c.set_at.new.blocks.items c.find-block.result.0 c.find-block.result.1 c.args.index
    (found_in _ _ _ _ (subst (λ (bs : List IndexBlock). IsIn (lists bs) c.find-block.result.0 c.find-block.result.1 c.args.place) c.deref.ensures.value c.find-block.ensures)).0 c.set_at.ensures c.self.invariant
