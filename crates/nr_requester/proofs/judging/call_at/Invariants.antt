use Rattle.std.proofs.Common.{length, drop, ◌-◌, ◌≡◌, ◌≤◌}
use Rattle.nr_reduce.specs.KeptCalls.{kept_by}
use Rattle.nr_requester.specs.Judged.{kept_views}
use Rattle.nr_requester.proofs.judging.call_at.Given as goal

abbrev pub invariant-loop-at : goal.invariant-loop-at
invariant-loop-at l = record {
  within : l.at ≤ length l.calls;
  left : kept_by (kept_views l.sent (drop l.at l.calls)) l.xid ≡ kept_by (kept_views l.sent l.calls) l.xid;
}

abbrev pub decreases-loop-at : goal.decreases-loop-at
decreases-loop-at l = length l.calls - l.at
