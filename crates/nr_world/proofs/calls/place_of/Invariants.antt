use Rattle.std.proofs.Common.{◌≢◌, ℕ, ◌<◌, get_or}
use Rattle.nr_world.specs.declared.awaited.AwaitedCall.{AwaitedCall}
use Rattle.nr_world.proofs.calls.place_of.Given as goal

abbrev pub invariant-calls : goal.invariant-calls
invariant-calls l = record {
  before : (k : ℕ) (d : AwaitedCall) → k < l.i → (get_or l.fn.calls k d).index ≢ l.fn.index;
}
