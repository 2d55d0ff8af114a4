use Rattle.nr_tree.proofs.Indexes.{index_found}
use Rattle.nr_tree.proofs.entry_table.index_of.Goals as goal

pub returns : goal.returns
returns c = index_found c.args.slots.now.entries c.args.name.now c.get_index_of.result c.get_index_of.ensures.unique c.get_index_of.ensures.index
