use Rattle.std.proofs.Common.{◌≡◌, ℕ, Ok, ap, sym, ◌∙◌, subst}
use Rattle.nr_tree.specs.declared.node.Node.{Node}
use Rattle.nr_tree.specs.Rules.{first, number_of_handle}
use Rattle.nr_tree.specs.Steps.{CanAddNode}
use Rattle.nr_ops_dir.specs.Entries.{number_of_entry}
use Rattle.nr_ops_dir.specs.Create.{new_file, tree_with_file, create_rules}
use Rattle.nr_ops_dir.proofs.CanCreate.{can_make_file, can_set_size}
use Rattle.nr_ops_dir.proofs.Made.{made_allowed, made_answer, made_change, file_tree}
use Rattle.nr_ops_dir.proofs.NamesAfter.{existing_reply}
use Rattle.nr_ops_dir.proofs.files.create.Goals as goal

pub add_made-requires-clause-allowed : goal.add_made-requires-clause-allowed
add_made-requires-clause-allowed c =
    made_allowed c.args.tree.now c.args.args.dir c.args.args.name c.as_slice.result.now (first (create_rules c.args.tree.now c.args.caller.now c.args.space.now c.args.args)) (λ n. n ≡ new_file c.args.caller.now c.args.now (number_of_handle c.args.args.dir) c.args.args.how) (Ok c.new_file-node.result) c.as_slice.ensures.value
    (λ n none is. subst (λ (x : Node). CanAddNode c.args.tree.now (number_of_handle c.args.args.dir) c.args.args.name x) (sym is) (can_make_file c.args.tree.now c.args.caller.now c.args.space.now c.args.now c.args.args none (sym c.in-Ok-default-None.ensures.2 ∙ c.in-Ok-default-None.field-0-1-is)))
    (c.in-Ok-default-None.ensures.0, (c.new_file-node.ensures ∙ ap (λ (d : ℕ). new_file c.args.caller.now c.args.now d c.args.args.how) c.in-Ok-default-None.ensures.1))

pub returns-in-Ok-default-None-clause-result : goal.returns-in-Ok-default-None-clause-result
returns-in-Ok-default-None-clause-result c =
    made_answer c.args.tree.now c.args.now c.args.args.dir c.args.args.name c.as_slice.result.now (first (create_rules c.args.tree.now c.args.caller.now c.args.space.now c.args.args)) (λ n. n ≡ new_file c.args.caller.now c.args.now (number_of_handle c.args.args.dir) c.args.args.how) (tree_with_file c.args.tree.now c.args.caller.now c.args.now c.args.args (number_of_entry c.args.tree.now (number_of_handle c.args.args.dir) c.args.args.name)) (Ok c.new_file-node.result) c.add_made.result c.as_slice.ensures.value
    (file_tree c.args.tree.now c.args.caller.now c.args.now c.args.args (number_of_entry c.args.tree.now (number_of_handle c.args.args.dir) c.args.args.name) (sym c.in-Ok-default-None.ensures.2 ∙ c.in-Ok-default-None.field-0-1-is)) (c.in-Ok-default-None.ensures.0, (c.new_file-node.ensures ∙ ap (λ (d : ℕ). new_file c.args.caller.now c.args.now d c.args.args.how) c.in-Ok-default-None.ensures.1)) c.add_made.ensures.result

pub returns-in-Ok-default-None-clause-tree : goal.returns-in-Ok-default-None-clause-tree
returns-in-Ok-default-None-clause-tree c =
    made_change c.args.tree.now c.add_made.new.tree c.args.now c.args.args.dir c.args.args.name c.as_slice.result.now (first (create_rules c.args.tree.now c.args.caller.now c.args.space.now c.args.args)) (λ n. n ≡ new_file c.args.caller.now c.args.now (number_of_handle c.args.args.dir) c.args.args.how) (tree_with_file c.args.tree.now c.args.caller.now c.args.now c.args.args (number_of_entry c.args.tree.now (number_of_handle c.args.args.dir) c.args.args.name)) (Ok c.new_file-node.result) c.add_made.result c.as_slice.ensures.value
    (file_tree c.args.tree.now c.args.caller.now c.args.now c.args.args (number_of_entry c.args.tree.now (number_of_handle c.args.args.dir) c.args.args.name) (sym c.in-Ok-default-None.ensures.2 ∙ c.in-Ok-default-None.field-0-1-is)) (c.in-Ok-default-None.ensures.0, (c.new_file-node.ensures ∙ ap (λ (d : ℕ). new_file c.args.caller.now c.args.now d c.args.args.how) c.in-Ok-default-None.ensures.1)) c.add_made.ensures.tree

pub use_existing_file-requires-clause-regular : goal.use_existing_file-requires-clause-regular
use_existing_file-requires-clause-regular c =
    λ size e. (can_set_size c.args.tree.now c.args.caller.now c.args.space.now c.args.args c.in-Ok-default-Some.number c.facts.ensures c.in-Ok-default-Some.ensures.0 (sym c.in-Ok-default-Some.ensures.2 ∙ c.in-Ok-default-Some.field-0-1-is) size e).0

pub use_existing_file-requires-clause-limit : goal.use_existing_file-requires-clause-limit
use_existing_file-requires-clause-limit c =
    λ size e. (can_set_size c.args.tree.now c.args.caller.now c.args.space.now c.args.args c.in-Ok-default-Some.number c.facts.ensures c.in-Ok-default-Some.ensures.0 (sym c.in-Ok-default-Some.ensures.2 ∙ c.in-Ok-default-Some.field-0-1-is) size e).1

pub returns-in-Ok-default-Some-clause-result : goal.returns-in-Ok-default-Some-clause-result
returns-in-Ok-default-Some-clause-result c =
    existing_reply c.args.tree.now c.args.caller.now c.args.space.now c.args.now c.args.args c.in-Ok-default-Some.number c.as_slice-in-Ok-default-Some.result.now c.use_existing_file.result c.in-Ok-default-Some.ensures.0
    (sym c.in-Ok-default-Some.ensures.2 ∙ c.in-Ok-default-Some.field-0-1-is) c.as_slice-in-Ok-default-Some.ensures.value c.use_existing_file.ensures.result
