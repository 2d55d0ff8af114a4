use Rattle.std.proofs.Common.{arith}
use Rattle.nr_record_loop.proofs.serving.at_end.Goals as goal

pub returns-then-at-read-clause-end : goal.returns-then-at-read-clause-end
returns-then-at-read-clause-end c = (c.at.result, (c.at.ensures, omega (arith, c.if-at-read.true)))
