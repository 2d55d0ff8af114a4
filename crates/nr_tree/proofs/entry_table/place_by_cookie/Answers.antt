use Rattle.std.proofs.Common.{ap}
use Rattle.nr_tree.specs.Entries.{Entry}
use Rattle.nr_tree.specs.private.Slots.{slot_entries}
use Rattle.nr_tree.proofs.Ordered.{place_found}
use Rattle.nr_tree.proofs.entry_table.place_by_cookie.Goals as goal

pub overflow_sub-result : goal.overflow_sub-result
overflow_sub-result c =
    (place_found (slot_entries c.args.slots.now.entries) c.args.order.now c.args.next_cookie c.args.index _ c.place_uncounted.result c.requires.ordered c.requires.within (ap (λ (e : Entry). e.cookie) c.slot_at.ensures) c.place_uncounted.ensures.place).some

pub returns-clause-within : goal.returns-clause-within
returns-clause-within c =
    (place_found (slot_entries c.args.slots.now.entries) c.args.order.now c.args.next_cookie c.args.index _ c.place_uncounted.result c.requires.ordered c.requires.within (ap (λ (e : Entry). e.cookie) c.slot_at.ensures) c.place_uncounted.ensures.place).within

pub returns-clause-place : goal.returns-clause-place
returns-clause-place c =
    (place_found (slot_entries c.args.slots.now.entries) c.args.order.now c.args.next_cookie c.args.index _ c.place_uncounted.result c.requires.ordered c.requires.within (ap (λ (e : Entry). e.cookie) c.slot_at.ensures) c.place_uncounted.ensures.place).here
