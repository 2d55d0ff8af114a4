use Rattle.std.proofs.Common.{◌≢◌, ℕ, ◌<◌, get_or}
use Rattle.nr_responder.specs.declared.call.Pending.{Pending}
use Rattle.nr_responder.proofs.read_done.number_place.Given as goal

abbrev pub invariant-calls : goal.invariant-calls
invariant-calls l = record {
  before : (k : ℕ) (d : Pending) → k < l.i → (get_or l.fn.calls k d).number ≢ l.fn.number;
}
