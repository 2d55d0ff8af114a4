use Rattle.std.proofs.Common.{sym, subst}
use Rattle.nr_shared.specs.Sharing.{SharedRests}
use Rattle.nr_bench.proofs.shared.read_all.Goals as goal

pub for_each_mut-requires-clause-accepts : goal.for_each_mut-requires-clause-accepts
for_each_mut-requires-clause-accepts g c κs within i p lt is = subst (λ r. SharedRests c.args.shared.now r.pass) (sym is) (c.requires.rests i p.now lt)
