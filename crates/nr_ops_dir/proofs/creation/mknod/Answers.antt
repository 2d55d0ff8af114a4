use Rattle.std.proofs.Common.{subst, sym}
use Rattle.nr_tree.specs.declared.node.Node.{Node}
use Rattle.nr_tree.specs.Steps.{CanAddNode}
use Rattle.nr_tree.specs.Rules.{first, number_of_handle}
use Rattle.nr_ops_dir.specs.Creation.{mknod_rules}
use Rattle.nr_ops_dir.specs.private.Added.{IsSpecial}
use Rattle.nr_ops_dir.proofs.CanMake.{can_make_special}
use Rattle.nr_ops_dir.proofs.Made.{made_allowed, made_answer, made_change, special_tree}
use Rattle.nr_ops_dir.proofs.creation.mknod.Goals as goal

pub add_made-requires-clause-allowed : goal.add_made-requires-clause-allowed
add_made-requires-clause-allowed c =
    made_allowed c.args.tree.now c.args.args.dir c.args.args.name c.as_slice.result.now (first (mknod_rules c.args.tree.now c.args.caller.now c.args.space.now c.args.args)) (IsSpecial c.args.caller.now c.args.now c.args.args) c.new_special-made.result c.as_slice.ensures.value
    (λ n none is. subst (λ (x : Node). CanAddNode c.args.tree.now (number_of_handle c.args.args.dir) c.args.args.name x) (sym is.1) (can_make_special c.args.tree.now c.args.caller.now c.args.space.now c.args.now c.args.args n.content none is.0)) c.new_special-made.ensures

pub returns-clause-result : goal.returns-clause-result
returns-clause-result c =
    made_answer c.args.tree.now c.args.now c.args.args.dir c.args.args.name c.as_slice.result.now (first (mknod_rules c.args.tree.now c.args.caller.now c.args.space.now c.args.args)) (IsSpecial c.args.caller.now c.args.now c.args.args) _ c.new_special-made.result c.add_made.result c.as_slice.ensures.value
    (λ n is. special_tree c.args.tree.now c.args.caller.now c.args.now c.args.args n is) c.new_special-made.ensures c.add_made.ensures.result

pub returns-clause-tree : goal.returns-clause-tree
returns-clause-tree c =
    made_change c.args.tree.now c.add_made.new.tree c.args.now c.args.args.dir c.args.args.name c.as_slice.result.now (first (mknod_rules c.args.tree.now c.args.caller.now c.args.space.now c.args.args)) (IsSpecial c.args.caller.now c.args.now c.args.args) _ c.new_special-made.result c.add_made.result c.as_slice.ensures.value
    (λ n is. special_tree c.args.tree.now c.args.caller.now c.args.now c.args.args n is) c.new_special-made.ensures c.add_made.ensures.tree
