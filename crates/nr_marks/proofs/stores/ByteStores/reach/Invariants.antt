use Rattle.std.proofs.Common.{◌≡◌, ◌+◌, ◌-◌, length}
use Rattle.nr_marks.specs.Pieces.{Grows, stored_len}
use Rattle.nr_marks.proofs.stores.ByteStores.reach.Given as goal

abbrev pub invariant-stores : goal.invariant-stores
invariant-stores l = Grows l.initial.self l.self × (stored_len l.self ≡ stored_len l.initial.self)

abbrev pub decreases-stores : goal.decreases-stores
decreases-stores l = (l.store + 1) - length l.self
