use Rattle.std.proofs.Common.{◌≡◌, ◌+◌, ◌*◌, ◌≤◌, drop, map}
use Rattle.nr_requester.specs.Reopening.{stags_for_calls}
use Rattle.nr_requester.specs.Views.{stored_view}
use Rattle.nr_requester.proofs.leaving.stags_for_calls.Given as goal

abbrev pub invariant-calls : goal.invariant-calls
invariant-calls l = record {
  bound : l.sum ≤ 3 * l.i;
  all : l.sum + stags_for_calls (map stored_view (drop l.i l.fn.calls)) ≡ stags_for_calls (map stored_view l.fn.calls);
}
