use Rattle.std.proofs.Common.{◌≡◌, ◌<◌, List, length, get_or, subst, ap, sym, ◌∙◌, arith}
use Rattle.std.specs.List.{concat}
use Rattle.nr_tree.specs.private.Blocks.{IndexBlock, no_block, lists, AreRoomy, IsAround}
use Rattle.nr_tree.proofs.Joined.{block_at, emptied, not_emptied, roomy_remove, same_emptied}
use Rattle.nr_tree.proofs.order.drop_if_empty.Goals as goal

pub returns-then-len-eq0-clause-same : goal.returns-then-len-eq0-clause-same
returns-then-len-eq0-clause-same c =
    ap (λ (l : List IndexBlock). concat (lists l)) c.remove.ensures.items
    ∙ same_emptied c.args.blocks.now.items c.args.block c.index.result.now c.requires.block c.index.ensures (sym c.len.ensures.len ∙ c.if-len-eq0.true)

pub returns-then-len-eq0-clause-around : goal.returns-then-len-eq0-clause-around
returns-then-len-eq0-clause-around c =
    subst (λ (l : List IndexBlock). IsAround c.args.block l) (sym c.remove.ensures.items) (emptied c.args.blocks.now.items c.args.block c.requires.taken)

pub returns-then-len-eq0-clause-roomy : goal.returns-then-len-eq0-clause-roomy
returns-then-len-eq0-clause-roomy c = subst AreRoomy (sym c.remove.ensures.items) (roomy_remove c.args.blocks.now.items c.args.block c.requires.roomy)

pub returns-else-len-eq0-clause-around : goal.returns-else-len-eq0-clause-around
returns-else-len-eq0-clause-around c =
    let same : get_or c.args.blocks.now.items c.args.block no_block ≡ c.index.result.now = block_at c.args.blocks.now.items c.args.block c.index.result.now c.requires.block c.index.ensures in
    let some : 0 < length c.index.result.now.indexes = omega (arith, c.if-len-eq0.false, c.len.ensures.len) in
    not_emptied c.args.blocks.now.items c.args.block c.requires.block (subst (λ (b : IndexBlock). 0 < length b.indexes) (sym same) some) c.requires.taken
