use Rattle.std.proofs.Common.{◌≡◌, ◌++◌, length}
use Rattle.std.specs.List.{concat}
use Rattle.nr_tree.specs.private.Blocks.{lists}
use Rattle.nr_tree.proofs.order.skip_empty.Given as goal

abbrev pub invariant-skip : goal.invariant-skip
invariant-skip l = l.block ++ concat (lists l.blocks) ≡ l.fn.block ++ concat (lists l.fn.blocks)

abbrev pub decreases-skip : goal.decreases-skip
decreases-skip l = length l.blocks
