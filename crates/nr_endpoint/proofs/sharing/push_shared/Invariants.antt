use Rattle.std.proofs.Common.{◌≡◌, ◌≤◌, ◌+◌, ◌*◌, ◌++◌}
use Rattle.nr_endpoint.proofs.Cuts.{pieces}
use Rattle.nr_endpoint.proofs.sharing.push_shared.Given as goal

abbrev pub invariant-loop-i : goal.invariant-loop-i
invariant-loop-i l = record {
  items : l.out.items ≡ l.initial.out.items ++ pieces l.operation l.bytes l.i;
  spare : 27 * l.count ≤ l.out.spare + 27 * l.i;
}
