use Rattle.std.proofs.Common.{◌≡◌, ◌-◌, ◌≤◌, [], length, take, drop}
use Rattle.nr_tree.specs.private.Slots.{slot_entries, ordered}
use Rattle.nr_tree.specs.Listing.{entries_after}
use Rattle.nr_tree.proofs.ListingLemmas.{IsHalved}
use Rattle.nr_tree.proofs.entry_table.place_above.Given as goal

abbrev pub invariant-loop-low : goal.invariant-loop-low
invariant-loop-low g l =
    (l.low ≤ l.high) × (l.high ≤ length l.order) × (entries_after l.cookie (take l.low (ordered (slot_entries l.slots.entries) l.order)) ≡ [])
    × (entries_after l.cookie (drop l.high (ordered (slot_entries l.slots.entries) l.order)) ≡ drop l.high (ordered (slot_entries l.slots.entries) l.order))
    × IsHalved (length l.order) l.fn.steps l.steps (l.high - l.low)

abbrev pub decreases-loop-low : goal.decreases-loop-low
decreases-loop-low g l = l.high - l.low
