use Rattle.std.proofs.Common.{ap, ◌∙◌, subst, sym, IfSome, IsTrue, ◌≤◌, Bool}
use Rattle.std.specs.Ordering.{nat_cmp}
use Rattle.std.specs.FinMap.{FinMap, get}
use Rattle.nr_tree.specs.private.Room.{HasEntryFor}
use Rattle.nr_tree.specs.Tree.{nodes_of, nodes_with_change, is_dir}
use Rattle.nr_tree.specs.Changes.{node_with_new_name, node_with_entry, node_without_entry, nodes_with_name_dropped}
use Rattle.nr_tree.specs.declared.node.Node.{Node}
use Rattle.nr_tree.proofs.nodes.rename_over.Goals as goal
use Rattle.nr_tree.proofs.NodeChanges.{over_other, source_left, entry_left}

pub remove_entry_from-requires : goal.remove_entry_from-requires
remove_entry_from-requires c =
    subst (λ (m : FinMap nat_cmp Node). IfSome (get m c.args.step.from) (λ n. IsTrue (is_dir n) × (1 ≤ n.metadata.links))) (sym c.drop_name_of.ensures)
    (source_left (nodes_of c.args.nodes.now.entries) c.args.step.now c.args.step.from c.args.name.now c.args.step.to c.args.name_to.items c.args.step.number c.args.step.is_subdirectory c.args.target c.is_dir_at-was_subdirectory.result c.requires.to c.requires.from c.requires.source)

pub replace_entry_in-requires : goal.replace_entry_in-requires
replace_entry_in-requires c =
    subst (λ (m : FinMap nat_cmp Node). IfSome (get m c.args.step.to) (λ n. HasEntryFor c.args.name_to.items c.is_dir_at-was_subdirectory.result n))
    (sym (c.remove_entry_from.ensures ∙ ap (λ (m : FinMap nat_cmp Node). nodes_with_change m c.args.step.from (node_without_entry c.args.step.now c.args.name.now c.args.step.is_subdirectory)) c.drop_name_of.ensures))
    (entry_left (nodes_of c.args.nodes.now.entries) c.args.step.now c.args.step.from c.args.name.now c.args.step.to c.args.name_to.items c.args.step.number c.args.step.is_subdirectory c.args.target c.is_dir_at-was_subdirectory.result c.requires.to c.requires.from
    (subst (λ (w : Bool). IfSome (get (nodes_of c.args.nodes.now.entries) c.args.step.to) (HasEntryFor c.args.name_to.items w)) (sym c.is_dir_at-was_subdirectory.ensures) c.requires.entry)
    (λ z. subst (λ (w : Bool). IfSome (get (nodes_of c.args.nodes.now.entries) c.args.step.to) (λ n. HasEntryFor c.args.name_to.items w (node_without_entry c.args.step.now c.args.name.now c.args.step.is_subdirectory n))) (sym c.is_dir_at-was_subdirectory.ensures) (c.requires.rest z)))

pub returns : goal.returns
returns c =
    c.set_parent_of.ensures
    ∙ ap (λ (m : FinMap nat_cmp Node). nodes_with_change m c.args.step.number (node_with_new_name c.args.step.now c.args.step.to))
    (c.replace_entry_in.ensures
    ∙ ap (λ (m : FinMap nat_cmp Node). nodes_with_change m c.args.step.to (λ n. node_with_entry c.args.step.now c.args.name_to.items c.args.step.number c.args.step.is_subdirectory (node_without_entry c.args.step.now c.args.name_to.items c.is_dir_at-was_subdirectory.result n)))
    (c.remove_entry_from.ensures ∙ ap (λ (m : FinMap nat_cmp Node). nodes_with_change m c.args.step.from (node_without_entry c.args.step.now c.args.name.now c.args.step.is_subdirectory)) c.drop_name_of.ensures)
    ∙ over_other (nodes_of c.args.nodes.now.entries) c.args.step.now c.args.step.from c.args.name.now c.args.step.to c.args.name_to.items c.args.step.number c.args.step.is_subdirectory c.args.target c.is_dir_at-was_subdirectory.result c.requires.to c.requires.from
    ∙ ap (λ (w : Bool). nodes_with_change (nodes_with_change (nodes_with_name_dropped (nodes_with_change (nodes_of c.args.nodes.now.entries) c.args.step.to (node_without_entry c.args.step.now c.args.name_to.items w)) c.args.step.now c.args.target) c.args.step.from (node_without_entry c.args.step.now c.args.name.now c.args.step.is_subdirectory)) c.args.step.to (node_with_entry c.args.step.now c.args.name_to.items c.args.step.number c.args.step.is_subdirectory)) c.is_dir_at-was_subdirectory.ensures)
