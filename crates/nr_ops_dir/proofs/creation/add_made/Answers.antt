use Rattle.nr_ops_dir.proofs.Made.{parent_is, allowed_in_parent}
use Rattle.nr_ops_dir.proofs.creation.add_made.Goals as goal

pub add_with_handle-requires-clause-directory : goal.add_with_handle-requires-clause-directory
add_with_handle-requires-clause-directory c = parent_is c.args.tree.now c.args.dir.now c.args.name c.args.made c.in-Ok.node c.in-Ok.is c.requires.allowed

pub add_with_handle-requires-clause-allowed : goal.add_with_handle-requires-clause-allowed
add_with_handle-requires-clause-allowed c = allowed_in_parent c.args.tree.now c.args.dir.now c.args.name c.args.made c.in-Ok.node c.in-Ok.is c.requires.allowed
