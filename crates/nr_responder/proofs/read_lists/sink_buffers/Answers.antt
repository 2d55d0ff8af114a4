use Rattle.std.proofs.Common.{arith}
use Rattle.nr_responder.proofs.ListedReads.{total_small}
use Rattle.nr_responder.proofs.read_lists.sink_buffers.Goals as goal

pub overflow_cast-len : goal.overflow_cast-len
overflow_cast-len c = (let most = total_small _ c.total_at-len.result c.args.read.now c.total_at-len.ensures c.requires in omega (arith, most))
