use Rattle.std.proofs.Common.{ap, arith, length}
use Rattle.nr_gate.proofs.OwnXid.{mismatch_length}
use Rattle.nr_gate.proofs.forwarding.mismatch.Goals as goal

pub returns-in-Ok-clause-limit : goal.returns-in-Ok-clause-limit
returns-in-Ok-clause-limit c = omega (arith, ap length c.in-Ok.ensures.ok, mismatch_length c.args.xid)
