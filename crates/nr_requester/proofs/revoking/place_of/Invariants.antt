use Rattle.std.proofs.Common.{◌≢◌, ℕ, ◌<◌, get_or}
use Rattle.nr_requester.specs.declared.outstanding.OutstandingCall.{OutstandingCall}
use Rattle.nr_requester.proofs.revoking.place_of.Given as goal

abbrev pub invariant-calls : goal.invariant-calls
invariant-calls l = record {
  before : (k : ℕ) (d : OutstandingCall) → k < l.i → (get_or l.fn.calls k d).xid ≢ l.fn.xid;
}
