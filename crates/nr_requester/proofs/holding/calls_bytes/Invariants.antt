use Rattle.std.proofs.Common.{◌≡◌, ◌+◌, ◌*◌, ◌^◌, ◌≤◌, drop, map}
use Rattle.nr_requester.specs.Views.{stored_view}
use Rattle.nr_requester.specs.HeldBytes.{calls_bytes}
use Rattle.nr_requester.proofs.holding.calls_bytes.Given as goal

abbrev pub invariant-loop-call : goal.invariant-loop-call
invariant-loop-call l = record {
  bound : l.sum ≤ l.call-index * 2 ^ 73;
  all : l.sum + calls_bytes (map stored_view (drop l.call-index l.calls)) ≡ calls_bytes (map stored_view l.calls);
}
