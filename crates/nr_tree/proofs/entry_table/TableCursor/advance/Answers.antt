use Rattle.nr_tree.specs.private.Slots.{slot_entries}
use Rattle.nr_tree.proofs.Ordered.{within_after}
use Rattle.nr_tree.proofs.entry_table.TableCursor.advance.Goals as goal

pub invariant_of-self : goal.invariant_of-self
invariant_of-self c = within_after (slot_entries c.self.inside.slots.now.entries) _ c.advance.new.self c.advance.result c.self.invariant c.advance.ensures
