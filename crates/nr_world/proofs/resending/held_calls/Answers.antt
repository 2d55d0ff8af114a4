use Rattle.std.proofs.Common.{arith}
use Rattle.nr_world.proofs.NotedCalls.{held_all, held_more}
use Rattle.nr_world.proofs.resending.held_calls.Goals as goal

pub calls-preserved : goal.calls-preserved
calls-preserved c =
    held_more c.calls.held.items c.push_held.new.held.items c.args.awaited.now c.calls.call-index c.call-item.result c.calls-test.true c.call-item.is c.calls.invariant c.in_ok-push_held.ensures

pub returns : goal.returns
returns c = held_all c.calls.held.items c.args.awaited.now c.calls.call-index (omega (arith, c.calls-test.false)) c.calls.invariant
