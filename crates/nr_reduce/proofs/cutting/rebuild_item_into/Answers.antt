use Rattle.std.proofs.Common.{sym, ◌∙◌, arith}
use Rattle.nr_reduce.proofs.Places.{item_inside}
use Rattle.nr_reduce.proofs.cutting.rebuild_item_into.Goals as goal

pub restore_into-requires-clause-place : goal.restore_into-requires-clause-place
restore_into-requires-clause-place c = item_inside c.args.of.now c.args.stream.now _ (λ i. omega (arith, c.type_inv.stream i)) (sym c.in-Some.is ∙ c.requires.item)
