use Rattle.std.proofs.Common.{arith}
use Rattle.nr_reduce.proofs.ChunkSums.{passes}
use Rattle.nr_reduce.proofs.holding.fits_message.Goals as goal

pub returns-then-need-from : goal.returns-then-need-from
returns-then-need-from c = passes c.args.chunks.now c.loop-chunk.chunk-index c.args.len c.loop-chunk.need c.args.down c.loop-chunk.invariant (omega arith)
