use Rattle.std.proofs.Common.{◌≡◌, take}
use Rattle.std.specs.VecDeque.{deque_capacity}
use Rattle.nr_endpoint.specs.SendQueue.{ends_passed}
use Rattle.nr_endpoint.proofs.SendQueues.{looked_at}
use Rattle.nr_endpoint.proofs.send_queue.retire_ends.Given as goal

abbrev pub invariant-loop-i : goal.invariant-loop-i
invariant-loop-i l = record {
  ends : l.ends.items ≡ looked_at l.n l._i l.initial.ends.items;
  passed : l.passed ≡ ends_passed l.n (take l._i l.initial.ends.items);
  capacity : deque_capacity l.ends ≡ deque_capacity l.initial.ends;
}
