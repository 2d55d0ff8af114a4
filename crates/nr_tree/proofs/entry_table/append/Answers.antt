use Rattle.std.proofs.Common.{ap, ◌∙◌}
use Rattle.std.specs.Prelude.{nat_eq}
use Rattle.std.specs.Cmp.Lexicographic.{pointwise}
use Rattle.indexmap.proofs.CallerLemmas.{insert_entry-new}
use Rattle.nr_tree.specs.private.Slots.{slot_entries}
use Rattle.nr_tree.proofs.Slots.{free_slot, slot_entries_append}
use Rattle.nr_tree.proofs.Ordered.{slots_unnamed}
use Rattle.nr_tree.proofs.entry_table.append.Goals as goal

pub returns-in-Ok-clause-slots : goal.returns-in-Ok-clause-slots
returns-in-Ok-clause-slots c =
    ap slot_entries (c.in-Ok.ensures.entries
    ∙ insert_entry-new (λ a b. pointwise nat_eq a.items b.items) c.args.slots.now c.args.name c.args.slot
    (free_slot c.args.slots.now.entries c.args.name.items (slots_unnamed (slot_entries c.args.slots.now.entries) c.args.order.now c.args.slot.cookie c.args.name.items c.requires.ordered c.requires.absent)))
    ∙ slot_entries_append c.args.slots.now.entries c.args.name c.args.slot
