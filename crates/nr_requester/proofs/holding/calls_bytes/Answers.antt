use Rattle.std.proofs.Common.{arith}
use Rattle.nr_requester.proofs.HeldBounds.{few_of, one_counted}
use Rattle.nr_requester.proofs.holding.calls_bytes.Goals as goal

pub kept_bytes-sum-requires : goal.kept_bytes-sum-requires
kept_bytes-sum-requires c = few_of c.loop-call.call-index c.args.calls.now c.call-item.result c.loop-call-test.true c.call-item.is c.requires.few

pub overflow_add-sum : goal.overflow_add-sum
overflow_add-sum c = omega (arith, c.loop-call.invariant.bound, c.kept_bytes-sum.ensures.small, c.requires.count, c.loop-call-test.true)

pub loop-call-preserved : goal.loop-call-preserved
loop-call-preserved c = record {
  bound = omega (arith, c.loop-call.invariant.bound, c.kept_bytes-sum.ensures.small);
  all = one_counted c.args.calls.now c.loop-call.call-index c.loop-call.sum c.kept_bytes-sum.result _ c.call-item.result c.loop-call-test.true c.call-item.is c.kept_bytes-sum.ensures.is c.loop-call.invariant.all;
}
