use Rattle.std.proofs.Common.{◌≡◌, ap, subst, sym}
use Rattle.nr_tree.specs.declared.node.Node.{Node}
use Rattle.nr_tree.specs.Changes.{tree_with_node}
use Rattle.nr_tree.specs.Steps.{CanAddNode}
use Rattle.nr_tree.specs.Rules.{first, number_of_handle}
use Rattle.nr_ops_dir.specs.Creation.{mkdir_rules, new_directory}
use Rattle.nr_ops_dir.proofs.CanMake.{can_make_directory}
use Rattle.nr_ops_dir.proofs.Made.{made_allowed, made_answer, made_change}
use Rattle.nr_ops_dir.proofs.creation.mkdir.Goals as goal

pub add_made-requires-clause-allowed : goal.add_made-requires-clause-allowed
add_made-requires-clause-allowed c =
    made_allowed c.args.tree.now c.args.args.dir c.args.args.name c.as_slice.result.now (first (mkdir_rules c.args.tree.now c.args.caller.now c.args.space.now c.args.args)) (λ n. n ≡ new_directory c.args.caller.now c.args.now c.args.args) c.new_directory-made.result c.as_slice.ensures.value
    (λ n none is. subst (λ (x : Node). CanAddNode c.args.tree.now (number_of_handle c.args.args.dir) c.args.args.name x) (sym is) (can_make_directory c.args.tree.now c.args.caller.now c.args.space.now c.args.now c.args.args none)) c.new_directory-made.ensures

pub returns-clause-result : goal.returns-clause-result
returns-clause-result c =
    made_answer c.args.tree.now c.args.now c.args.args.dir c.args.args.name c.as_slice.result.now (first (mkdir_rules c.args.tree.now c.args.caller.now c.args.space.now c.args.args)) (λ n. n ≡ new_directory c.args.caller.now c.args.now c.args.args) _ c.new_directory-made.result c.add_made.result c.as_slice.ensures.value
    (λ n is. ap (λ (x : Node). tree_with_node c.args.tree.now c.args.now (number_of_handle c.args.args.dir) c.args.args.name x) is) c.new_directory-made.ensures c.add_made.ensures.result

pub returns-clause-tree : goal.returns-clause-tree
returns-clause-tree c =
    made_change c.args.tree.now c.add_made.new.tree c.args.now c.args.args.dir c.args.args.name c.as_slice.result.now (first (mkdir_rules c.args.tree.now c.args.caller.now c.args.space.now c.args.args)) (λ n. n ≡ new_directory c.args.caller.now c.args.now c.args.args) _ c.new_directory-made.result c.add_made.result c.as_slice.ensures.value
    (λ n is. ap (λ (x : Node). tree_with_node c.args.tree.now c.args.now (number_of_handle c.args.args.dir) c.args.args.name x) is) c.new_directory-made.ensures c.add_made.ensures.tree
