use Rattle.std.proofs.Common.{sym, arith}
use Rattle.nr_reduce.proofs.Places.{arguments_behind}
use Rattle.nr_reduce.proofs.parts.call_parts.Goals as goal

pub split_at-requires : goal.split_at-requires
split_at-requires c = (arguments_behind c.args.payload.now c.in-Some.target (λ i. omega (arith, c.type_inv.payload i)) (sym c.in-Some.ensures)).inside
