use Rattle.std.proofs.Common.{◌≡◌, ◌≤◌, ◌*◌, length, take}
use Rattle.std.specs.Prelude.{sum_by}
use Rattle.nr_marks.proofs.stores.ByteStores.held.Given as goal

abbrev pub invariant-loop-at : goal.invariant-loop-at
invariant-loop-at l = (l.sum ≡ sum_by length (take l.at l.self)) × (l.sum ≤ l.at * 18446744073709551616)
