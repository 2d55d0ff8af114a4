use Rattle.std.proofs.Common.{◌≡◌, ◌+◌, ◌*◌, ◌^◌, ◌≤◌, drop}
use Rattle.nr_requester.specs.HeldBytes.{rooms_total}
use Rattle.nr_requester.proofs.holding.rooms_bytes.Given as goal

abbrev pub invariant-loop-call : goal.invariant-loop-call
invariant-loop-call l = record {
  bound : l.sum ≤ l.call-index * 2 ^ 65;
  all : l.sum + rooms_total (drop l.call-index l.calls) ≡ rooms_total l.calls;
}
