use Rattle.nr_ops_dir.proofs.CanRename.{can_rename}
use Rattle.nr_ops_dir.proofs.renaming.rename.Goals as goal

pub renamed-requires-clause-allowed : goal.renamed-requires-clause-allowed
renamed-requires-clause-allowed c = λ other. can_rename c.args.tree.now c.args.caller.now c.args.space.now c.args.args c.in-Ok.step c.facts.ensures c.in-Ok.ensures.0 c.in-Ok.ensures.1 other
