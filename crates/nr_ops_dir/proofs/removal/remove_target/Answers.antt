use Rattle.std.proofs.Common.{◌∙◌}
use Rattle.nr_tree.specs.Rules.{first}
use Rattle.nr_ops_dir.specs.private.Removed.{removal_rules}
use Rattle.nr_ops_dir.proofs.Removed.{bare, removal_allowed, removed_tree, removed_results}
use Rattle.nr_ops_dir.proofs.removal.remove_target.Goals as goal

pub remove_found-requires : goal.remove_found-requires
remove_found-requires c =
    removal_allowed c.args.tree.now (first (removal_rules c.args.tree.now c.args.caller.now c.args.space.now c.args.target c.args.dir.now c.args.name.now)) c.args.dir.now c.args.name.now c.entry_to_remove-found.result
    (λ n none is. bare c.args.tree.now c.args.caller.now c.args.space.now c.args.target c.args.dir.now c.args.name.now n none is) c.entry_to_remove-found.ensures

pub returns-clause-result : goal.returns-clause-result
returns-clause-result c =
    c.remove_found.ensures.result
    ∙ removed_results c.args.tree.now c.args.now (first (removal_rules c.args.tree.now c.args.caller.now c.args.space.now c.args.target c.args.dir.now c.args.name.now)) c.args.dir.now c.args.name.now c.entry_to_remove-found.result c.entry_to_remove-found.ensures

pub returns-clause-tree : goal.returns-clause-tree
returns-clause-tree c =
    c.remove_found.ensures.tree
    ∙ removed_tree c.args.tree.now c.args.now (first (removal_rules c.args.tree.now c.args.caller.now c.args.space.now c.args.target c.args.dir.now c.args.name.now)) c.args.dir.now c.args.name.now c.entry_to_remove-found.result c.entry_to_remove-found.ensures
