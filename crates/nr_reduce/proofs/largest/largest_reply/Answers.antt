use Rattle.std.proofs.Common.{sym, None}
use Rattle.nr_reduce.proofs.Places.{largest_by}
use Rattle.nr_reduce.proofs.largest.largest_reply.Goals as goal

pub returns-in-None : goal.returns-in-None
returns-in-None c = largest_by c.args.payload.now None (sym c.in-None.ensures)
