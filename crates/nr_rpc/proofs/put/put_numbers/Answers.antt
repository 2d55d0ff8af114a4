use Rattle.std.proofs.Common.{get_or, refl}
use Rattle.nr_rpc.proofs.Written.{numbers_more}
use Rattle.nr_rpc.proofs.put.put_numbers.Goals as goal

pub loop-number-preserved : goal.loop-number-preserved
loop-number-preserved c =
    numbers_more c.args.numbers.now c.loop-number.number-index (get_or c.args.numbers.now c.loop-number.number-index 0) c.args.writer.now c.loop-number.writer c.u32.new.self
    c.loop-number-test.true refl c.loop-number.invariant c.in_ok-u32.ensures.ok
