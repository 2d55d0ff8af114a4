use Rattle.std.proofs.Common.{◌+◌, ◌-◌, ◌≤◌, length}
use Rattle.nr_marks.specs.Pieces.{slots_max}
use Rattle.nr_marks.proofs.stores.set_slot.Given as goal

abbrev pub invariant-slots : goal.invariant-slots
invariant-slots l = length l.pieces.items ≤ slots_max

abbrev pub decreases-slots : goal.decreases-slots
decreases-slots l = (l.at + 1) - length l.pieces.items
