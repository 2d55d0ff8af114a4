use Rattle.std.proofs.Common.{◌-◌, length}
use Rattle.nr_tree.specs.private.Blocks.{lists}
use Rattle.nr_tree.proofs.Blocks.{IsSearched}
use Rattle.nr_tree.proofs.order.find.Given as goal

abbrev pub invariant-search : goal.invariant-search
invariant-search l = IsSearched (lists l.blocks) l.place l.block l.offset

abbrev pub decreases-search : goal.decreases-search
decreases-search l = length l.blocks - l.block
