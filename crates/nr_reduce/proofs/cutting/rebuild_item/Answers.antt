use Rattle.std.proofs.Common.{sym, ◌∙◌, arith}
use Rattle.nr_reduce.proofs.Places.{item_inside}
use Rattle.nr_reduce.proofs.cutting.rebuild_item.Goals as goal

pub restored-requires-clause-place : goal.restored-requires-clause-place
restored-requires-clause-place c = item_inside c.args.of.now c.args.stream.now _ (λ i. omega (arith, c.type_inv.stream i)) (sym c.in-Some.is ∙ c.requires)
