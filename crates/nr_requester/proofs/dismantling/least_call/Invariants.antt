use Rattle.std.proofs.Common.{◌≡◌, ℕ, ◌<◌, true, get_or, is_some}
use Rattle.std.specs.Prelude.{IfSome}
use Rattle.nr_requester.specs.declared.outstanding.OutstandingCall.{OutstandingCall}
use Rattle.nr_requester.specs.Remaining.{HasKept, IsLeast}
use Rattle.nr_requester.proofs.dismantling.least_call.Given as goal

abbrev pub invariant-calls : goal.invariant-calls
invariant-calls l = record {
  own : IfSome l.least (HasKept l.fn.calls l.i);
  all : (k : ℕ) (d : OutstandingCall) → k < l.i → is_some (get_or l.fn.calls k d).call ≡ true → IsLeast l.least (get_or l.fn.calls k d).xid;
}
