use Rattle.std.proofs.Common.{◌++◌, ◌∙◌, ℕ, List, length, ap, sym, arith}
use Rattle.std.proofs.lemmas.List.{length-drop}
use Rattle.std.specs.List.{concat}
use Rattle.nr_tree.specs.private.Blocks.{IndexBlock, lists}
use Rattle.nr_tree.proofs.Blocks.{in_block, drop_in}
use Rattle.nr_tree.proofs.Joined.{lists_drop, lists_long}
use Rattle.nr_tree.proofs.order.cursor_from.Goals as goal

pub split_at-requires : goal.split_at-requires
split_at-requires c = omega (arith, in_block _ _ _ _ c.find-block.ensures, lists_long c.args.blocks.now)

pub from-requires : goal.from-requires
from-requires c =
    (drop_in (lists c.args.blocks.now) c.find-block.result.0 c.find-block.result.1 c.args.place c.in-Some.first.now.indexes (lists c.in-Some.rest.now) c.find-block.ensures
    (lists_drop c.args.blocks.now c.find-block.result.0 ∙ ap lists (sym c.split_at.ensures.back ∙ c.in-Some.ensures.cases.0))).0

pub unreachable-requires : goal.unreachable-requires
unreachable-requires c =
    omega (arith, in_block _ _ _ _ c.find-block.ensures, lists_long c.args.blocks.now, c.in-None.ensures.cases, ap (λ (l : List IndexBlock). length l) c.split_at.ensures.back, length-drop c.find-block.result.0 c.args.blocks.now)

pub returns : goal.returns
returns c =
    ap (λ (l : List ℕ). l ++ concat (lists c.in-Some.rest.now)) c.from.ensures
    ∙ (drop_in (lists c.args.blocks.now) c.find-block.result.0 c.find-block.result.1 c.args.place c.in-Some.first.now.indexes (lists c.in-Some.rest.now) c.find-block.ensures
    (lists_drop c.args.blocks.now c.find-block.result.0 ∙ ap lists (sym c.split_at.ensures.back ∙ c.in-Some.ensures.cases.0))).1
