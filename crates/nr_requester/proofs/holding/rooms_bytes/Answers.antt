use Rattle.std.proofs.Common.{arith}
use Rattle.nr_requester.proofs.HeldBounds.{one_room}
use Rattle.nr_requester.proofs.holding.rooms_bytes.Goals as goal

pub loop-call-preserved : goal.loop-call-preserved
loop-call-preserved c = record {
  bound = omega (arith, c.loop-call.invariant.bound);
  all = one_room c.args.calls.now c.loop-call.call-index c.loop-call.sum c.len.result _ c.call-item.result c.loop-call-test.true c.call-item.is c.len.ensures.is c.loop-call.invariant.all;
}
