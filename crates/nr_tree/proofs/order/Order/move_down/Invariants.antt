use Rattle.std.proofs.Common.{◌≡◌, ◌-◌, ◌≤◌, length, remove}
use Rattle.nr_tree.proofs.order.Order.move_down.Given as goal

abbrev pub invariant-moving : goal.invariant-moving
invariant-moving l = (l.at ≤ l.last) × (length l.self ≡ length l.fn.self) × (remove l.self l.at ≡ remove l.fn.self l.place)

abbrev pub decreases-moving : goal.decreases-moving
decreases-moving l = l.last - l.at
