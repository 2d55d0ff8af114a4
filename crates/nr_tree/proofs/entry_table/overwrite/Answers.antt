use Rattle.nr_tree.proofs.Indexes.{slot_entries_set}
use Rattle.nr_tree.proofs.entry_table.overwrite.Goals as goal

pub returns : goal.returns
returns c = slot_entries_set c.args.slots.now.entries c.args.index c.args.slot c.requires
