use Rattle.std.proofs.Common.{◌≡◌, ◌+◌, length, All, vec_capacity}
use Rattle.nr_endpoint.specs.Receives.{IsReceive}
use Rattle.nr_endpoint.proofs.receive_queue.fill.Given as goal

abbrev pub invariant-loop : goal.invariant-loop
invariant-loop l = record {
  count : length l.free.items ≡ length l.initial.free.items + l.counter;
  each : All (IsReceive l.receive_length) l.initial.free.items → All (IsReceive l.receive_length) l.free.items;
  capacity : vec_capacity l.free ≡ vec_capacity l.initial.free;
}
