use Rattle.std.proofs.Common.{◌∙◌, ap}
use Rattle.nr_tree.specs.private.Slots.{slot_entries, ordered}
use Rattle.nr_tree.proofs.Ordered.{ordered_drop}
use Rattle.nr_tree.proofs.entry_table.cursor_from.Goals as goal

pub returns : goal.returns
returns c =
    ap (ordered (slot_entries c.args.slots.now.entries)) c.indexes_from.ensures ∙ ordered_drop (slot_entries c.args.slots.now.entries) c.args.order.now c.args.place
