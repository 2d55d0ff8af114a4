use Rattle.nr_tree.proofs.Joined.{few_blocks}
use Rattle.nr_tree.proofs.order.blocks_are_few.Goals as goal

pub returns : goal.returns
returns c = λ bs h. few_blocks bs h.0
