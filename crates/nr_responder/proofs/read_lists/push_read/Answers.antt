use Rattle.std.proofs.Common.{arith}
use Rattle.nr_responder.proofs.ListedReads.{total_fits}
use Rattle.nr_responder.proofs.read_lists.push_read.Goals as goal

pub overflow_cast-total_at : goal.overflow_cast-total_at
overflow_cast-total_at c = (let most = total_fits _ c.total_at.result c.args.at _ c.args.read.now c.total_at.ensures c.split_at.ensures.front c.requires.total in omega (arith, most))
