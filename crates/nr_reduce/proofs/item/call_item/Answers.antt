use Rattle.std.proofs.Common.{sym, None}
use Rattle.nr_reduce.proofs.Places.{call_item_by}
use Rattle.nr_reduce.proofs.item.call_item.Goals as goal

pub returns-in-None-clause-exact : goal.returns-in-None-clause-exact
returns-in-None-clause-exact c = call_item_by c.args.payload.now None (sym c.in-None.ensures)
