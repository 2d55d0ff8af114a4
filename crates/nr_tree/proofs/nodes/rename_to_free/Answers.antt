use Rattle.std.proofs.Common.{ap, ◌∙◌, subst, sym, IfSome, IsTrue, ◌≤◌}
use Rattle.std.specs.Ordering.{nat_cmp}
use Rattle.std.specs.FinMap.{FinMap, get}
use Rattle.nr_tree.specs.Tree.{nodes_of, nodes_with_change, is_dir}
use Rattle.nr_tree.specs.Changes.{node_with_new_name, node_without_entry}
use Rattle.nr_tree.specs.declared.node.Node.{Node}
use Rattle.nr_tree.proofs.nodes.rename_to_free.Goals as goal
use Rattle.nr_tree.proofs.NodeChanges.{to_free, source_stays}

pub remove_entry_from-requires : goal.remove_entry_from-requires
remove_entry_from-requires c =
    subst (λ (m : FinMap nat_cmp Node). IfSome (get m c.args.step.from) (λ n. IsTrue (is_dir n) × (1 ≤ n.metadata.links))) (sym c.in_ok-add_entry_to.ensures.ok) (source_stays (nodes_of c.args.nodes.now.entries) c.args.step.now c.args.step.from c.args.name.now c.args.step.to c.args.name_to.items c.args.step.number c.args.step.is_subdirectory c.requires.source)

pub returns-clause-ok : goal.returns-clause-ok
returns-clause-ok c =
    c.set_parent_of.ensures
    ∙ ap (λ (m : FinMap nat_cmp Node). nodes_with_change m c.args.step.number (node_with_new_name c.args.step.now c.args.step.to))
    (c.remove_entry_from.ensures ∙ ap (λ (m : FinMap nat_cmp Node). nodes_with_change m c.args.step.from (node_without_entry c.args.step.now c.args.name.now c.args.step.is_subdirectory)) c.in_ok-add_entry_to.ensures.ok ∙ to_free (nodes_of c.args.nodes.now.entries) c.args.step.now c.args.step.from c.args.name.now c.args.step.to c.args.name_to.items c.args.step.number c.args.step.is_subdirectory c.requires.source)
