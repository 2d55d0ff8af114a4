use Rattle.std.proofs.Common.{◌∙◌}
use Rattle.nr_ops_dir.proofs.Removed.{remove_tree_is, remove_reply_is}
use Rattle.nr_ops_dir.proofs.removal.remove.Goals as goal

pub returns-clause-result : goal.returns-clause-result
returns-clause-result c =
    c.remove_target.ensures.result ∙ remove_reply_is c.args.tree.now c.args.caller.now c.args.space.now c.args.args.now c.args.now c.as_slice-dir.result.now c.as_slice-name.result.now c.as_slice-dir.ensures.value c.as_slice-name.ensures.value

pub returns-clause-tree : goal.returns-clause-tree
returns-clause-tree c =
    c.remove_target.ensures.tree ∙ remove_tree_is c.args.tree.now c.args.caller.now c.args.space.now c.args.args.now c.args.now c.as_slice-dir.result.now c.as_slice-name.result.now c.as_slice-dir.ensures.value c.as_slice-name.ensures.value
