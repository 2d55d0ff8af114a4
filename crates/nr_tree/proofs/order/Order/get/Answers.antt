use Rattle.std.proofs.Common.{◌<◌, ◌∙◌, ℕ, List, get_or, subst, ap}
use Rattle.nr_tree.specs.private.Blocks.{IndexBlock, IsIn, lists}
use Rattle.nr_tree.proofs.Joined.{found_in, get_found}
use Rattle.nr_tree.proofs.order.Order.get.Goals as goal

pub index-requires : goal.index-requires
index-requires c = subst (λ (n : ℕ). c.find-block.result.0 < n) c.deref.ensures.len (found_in _ _ _ _ c.find-block.ensures).0

pub get-requires : goal.get-requires
get-requires c =
    let h : IsIn (lists c.self.inside.blocks.items) c.find-block.result.0 c.find-block.result.1 c.args.place =
    subst (λ (bs : List IndexBlock). IsIn (lists bs) c.find-block.result.0 c.find-block.result.1 c.args.place) c.deref.ensures.value c.find-block.ensures in
    (get_found _ _ _ _ c.index.result.now h c.index.ensures).0

pub returns : goal.returns
returns c =
    let h : IsIn (lists c.self.inside.blocks.items) c.find-block.result.0 c.find-block.result.1 c.args.place =
    subst (λ (bs : List IndexBlock). IsIn (lists bs) c.find-block.result.0 c.find-block.result.1 c.args.place) c.deref.ensures.value c.find-block.ensures in
    c.get.ensures ∙ (get_found _ _ _ _ c.index.result.now h c.index.ensures).1 ∙ ap (λ (l : List ℕ). get_or l c.args.place 0) c.self.view_is
