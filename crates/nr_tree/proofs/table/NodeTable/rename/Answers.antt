use Rattle.std.proofs.Common.{ℕ, List, ap, sym, ◌∙◌, subst, false}
use Rattle.std.specs.Option.{option_map}
use Rattle.nr_tree.specs.Entries.{Entry}
use Rattle.nr_tree.specs.Tree.{Tree, nodes_of, value_at, is_dir}
use Rattle.nr_tree.specs.Sane.{IsSane}
use Rattle.nr_tree.specs.Steps.{IsBounded, CanRename}
use Rattle.nr_tree.specs.Changes.{entry_at, tree_with_new_name}
use Rattle.nr_tree.proofs.RenameLemmas.{free_room, no_number, target_counted, target_there, target_left, target_over}
use Rattle.nr_tree.proofs.table.NodeTable.rename.Goals as goal

pub rename_to_free-requires-clause-free : goal.rename_to_free-requires-clause-free
rename_to_free-requires-clause-free c =
    free_room (record { next = c.self.inside.next; nodes = nodes_of c.self.inside.nodes.entries }) c.args.from c.args.name.now c.args.to c.args.name_to.items c.args.number (subst IsSane (sym c.self.view_is) c.requires.sane) (subst (λ (t : Tree). CanRename t c.args.from c.args.name.now c.args.to c.args.name_to.items c.args.number) (sym c.self.view_is) c.requires.allowed) (subst IsBounded (sym c.self.view_is) c.requires.bounded)
    (no_number (entry_at (record { next = c.self.inside.next; nodes = nodes_of c.self.inside.nodes.entries }) c.args.to c.args.name_to.items) ((ap (λ (n : List ℕ). option_map (λ (e : Entry). e.number) (entry_at (record { next = c.self.inside.next; nodes = nodes_of c.self.inside.nodes.entries }) c.args.to n)) (sym c.as_slice.ensures.value)) ∙ sym c.number_in.ensures ∙ c.in-None.is))

pub rename_over-requires-clause-counted : goal.rename_over-requires-clause-counted
rename_over-requires-clause-counted c = target_counted (record { next = c.self.inside.next; nodes = nodes_of c.self.inside.nodes.entries }) c.args.from c.args.name.now c.args.to c.args.name_to.items c.args.number (subst IsSane (sym c.self.view_is) c.requires.sane) (subst (λ (t : Tree). CanRename t c.args.from c.args.name.now c.args.to c.args.name_to.items c.args.number) (sym c.self.view_is) c.requires.allowed) c.in-Some.target ((ap (λ (n : List ℕ). option_map (λ (e : Entry). e.number) (entry_at (record { next = c.self.inside.next; nodes = nodes_of c.self.inside.nodes.entries }) c.args.to n)) (sym c.as_slice.ensures.value)) ∙ sym c.number_in.ensures ∙ c.in-Some.is)

pub rename_over-requires-clause-entry : goal.rename_over-requires-clause-entry
rename_over-requires-clause-entry c = target_there (record { next = c.self.inside.next; nodes = nodes_of c.self.inside.nodes.entries }) c.args.from c.args.name.now c.args.to c.args.name_to.items c.args.number (subst IsSane (sym c.self.view_is) c.requires.sane) (subst (λ (t : Tree). CanRename t c.args.from c.args.name.now c.args.to c.args.name_to.items c.args.number) (sym c.self.view_is) c.requires.allowed) c.in-Some.target ((ap (λ (n : List ℕ). option_map (λ (e : Entry). e.number) (entry_at (record { next = c.self.inside.next; nodes = nodes_of c.self.inside.nodes.entries }) c.args.to n)) (sym c.as_slice.ensures.value)) ∙ sym c.number_in.ensures ∙ c.in-Some.is) (value_at is_dir false (nodes_of c.self.inside.nodes.entries) c.in-Some.target) (subst IsBounded (sym c.self.view_is) c.requires.bounded)

pub rename_over-requires-clause-rest : goal.rename_over-requires-clause-rest
rename_over-requires-clause-rest c = λ z. target_left (record { next = c.self.inside.next; nodes = nodes_of c.self.inside.nodes.entries }) c.args.from c.args.name.now c.args.to c.args.name_to.items c.args.number (subst IsSane (sym c.self.view_is) c.requires.sane) (subst (λ (t : Tree). CanRename t c.args.from c.args.name.now c.args.to c.args.name_to.items c.args.number) (sym c.self.view_is) c.requires.allowed) c.in-Some.target ((ap (λ (n : List ℕ). option_map (λ (e : Entry). e.number) (entry_at (record { next = c.self.inside.next; nodes = nodes_of c.self.inside.nodes.entries }) c.args.to n)) (sym c.as_slice.ensures.value)) ∙ sym c.number_in.ensures ∙ c.in-Some.is) c.args.now c.is_dir_at-is_subdirectory.result (value_at is_dir false (nodes_of c.self.inside.nodes.entries) c.in-Some.target) (subst IsBounded (sym c.self.view_is) c.requires.bounded) z

pub returns-in-Some-clause-ok : goal.returns-in-Some-clause-ok
returns-in-Some-clause-ok c =
    target_over (record { next = c.self.inside.next; nodes = nodes_of c.self.inside.nodes.entries }) c.args.from c.args.name.now c.args.to c.args.name_to.items c.args.number (subst IsSane (sym c.self.view_is) c.requires.sane) (subst (λ (t : Tree). CanRename t c.args.from c.args.name.now c.args.to c.args.name_to.items c.args.number) (sym c.self.view_is) c.requires.allowed) c.in-Some.target ((ap (λ (n : List ℕ). option_map (λ (e : Entry). e.number) (entry_at (record { next = c.self.inside.next; nodes = nodes_of c.self.inside.nodes.entries }) c.args.to n)) (sym c.as_slice.ensures.value)) ∙ sym c.number_in.ensures ∙ c.in-Some.is) c.args.now c.is_dir_at-is_subdirectory.result _ c.is_dir_at-is_subdirectory.ensures c.rename_over.ensures
    ∙ ap (λ (t : Tree). tree_with_new_name t c.args.now c.args.from c.args.name.now c.args.to c.args.name_to.items c.args.number) c.self.view_is
