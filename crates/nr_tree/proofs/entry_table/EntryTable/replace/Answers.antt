use Rattle.std.proofs.Common.{◌≡◌, ◌<◌, ◌+◌, ◌++◌, ◌∷◌, [], ℕ, List, None, Some, length, get_or, remove, refl, subst, sym, ap, ◌∙◌, true≢false}
use Rattle.std.specs.Prelude.{slice_index, is_some}
use Rattle.nr_tree.specs.Entries.{Entry, Entries, entry_of_name, entries_with, entries_without}
use Rattle.nr_tree.specs.private.Slots.{slot_entries, ordered, no_entry, IsOrdered}
use Rattle.nr_tree.specs.private.Indexes.{IsIndexOf}
use Rattle.nr_tree.proofs.Indexes.{same_list}
use Rattle.nr_tree.proofs.Ordered.{ordered_named, ordered_unnamed, replaced_entries, replaced_ordered}
use Rattle.nr_tree.proofs.entry_table.EntryTable.replace.Goals as goal

pub unreachable-requires : goal.unreachable-requires
unreachable-requires c =
    let none : IsIndexOf (slot_entries c.self.inside.slots.entries) c.args.name.items None = subst (λ (n : List ℕ). IsIndexOf (slot_entries c.self.inside.slots.entries) n None) c.as_slice.ensures.value c.in-None.ensures in
    true≢false (sym c.requires.found ∙ ap is_some (ap (λ (d : Entries). entry_of_name c.args.name.items d.list) (sym c.self.view_is)
    ∙ (ordered_unnamed (slot_entries c.self.inside.slots.entries) c.self.inside.order c.self.inside.next_cookie c.args.name.items c.self.invariant none).0))

pub invariant_of-self : goal.invariant_of-self
invariant_of-self c =
    let es : List Entry = slot_entries c.self.inside.slots.entries in
    let is : IsIndexOf es c.args.name.items (Some c.in-Some.index) = subst (λ (n : List ℕ). IsIndexOf es n (Some c.in-Some.index)) c.as_slice.ensures.value c.in-Some.ensures in
    let k : (place : ℕ) × (place < length c.self.inside.order) × (slice_index c.self.inside.order place ≡ c.in-Some.index) = c.self.invariant.found c.in-Some.index is.0 in
    subst (λ (o : List ℕ). IsOrdered (slot_entries c.overwrite.new.slots.entries) o (c.self.inside.next_cookie + 1)) (sym (c.move_last.ensures k.0 k.1 k.2))
    (subst (λ (l : List Entry). IsOrdered l (remove c.self.inside.order k.0 ++ c.in-Some.index ∷ []) (c.self.inside.next_cookie + 1)) (sym c.overwrite.ensures)
    (replaced_ordered es c.self.inside.order c.self.inside.next_cookie c.in-Some.index k.0 _ c.self.invariant is.0 k.1 k.2 refl))

pub returns : goal.returns
returns c =
    let es : List Entry = slot_entries c.self.inside.slots.entries in
    let is : IsIndexOf es c.args.name.items (Some c.in-Some.index) = subst (λ (n : List ℕ). IsIndexOf es n (Some c.in-Some.index)) c.as_slice.ensures.value c.in-Some.ensures in
    let k : (place : ℕ) × (place < length c.self.inside.order) × (slice_index c.self.inside.order place ≡ c.in-Some.index) = c.self.invariant.found c.in-Some.index is.0 in
    let name : (get_or es c.in-Some.index no_entry).name ≡ c.args.name.items = sym (same_list c.args.name.items (get_or es c.in-Some.index no_entry).name is.1) in
    let e : Entry = record { cookie = c.self.inside.next_cookie; name = (get_or es c.in-Some.index no_entry).name; number = c.args.number } in
    ap (λ (l : List Entry). record { next_cookie = c.self.inside.next_cookie + 1; list = l })
    ((λ i. ordered (c.overwrite.ensures i) (c.move_last.ensures k.0 k.1 k.2 i))
    ∙ replaced_entries es c.self.inside.order c.self.inside.next_cookie c.in-Some.index k.0 e c.self.invariant is.0 k.1 k.2
    ∙ (λ i. sym (ordered_named es c.self.inside.order c.self.inside.next_cookie c.in-Some.index k.0 c.args.name.items c.self.invariant is k.1 k.2).1 i
    ++ record { cookie = c.self.inside.next_cookie; name = name i; number = c.args.number } ∷ []))
    ∙ ap (λ (d : Entries). entries_with (entries_without d c.args.name.items) c.args.name.items c.args.number) c.self.view_is
