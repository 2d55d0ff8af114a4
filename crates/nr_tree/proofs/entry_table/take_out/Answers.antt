use Rattle.std.proofs.Common.{◌≡◌, ◌-◌, ℕ, List, length, remove, set, subst, sym, ap, ◌∙◌}
use Rattle.std.specs.Prelude.{slice_index}
use Rattle.std.specs.List.{swap_remove}
use Rattle.std.proofs.lemmas.List.{length-map}
use Rattle.nr_tree.specs.Entries.{Entry}
use Rattle.nr_tree.specs.private.Slots.{slot_entries, entry_of, ordered, IsOrdered}
use Rattle.nr_tree.proofs.Indexes.{slot_entries_swap}
use Rattle.nr_tree.proofs.Ordered.{taken_entries, taken_ordered, one_place}
use Rattle.nr_tree.proofs.entry_table.take_out.Goals as goal

pub returns-clause-ordered : goal.returns-clause-ordered
returns-clause-ordered c =
    let es : List Entry = slot_entries c.args.slots.now.entries in
    let s : (d : Entry) × (slot_entries c.swap_remove_index.new.self.entries ≡ swap_remove es c.args.index d) =
    slot_entries_swap c.args.slots.now.entries c.swap_remove_index.new.self.entries c.args.index c.swap_remove_index.result c.requires.within c.swap_remove_index.ensures.entry c.swap_remove_index.ensures.entries in
    let last : slice_index c.args.order.now c.place_of-place_of_last.result ≡ length es - 1 =
    c.place_of-place_of_last.ensures.place ∙ ap (λ n. n - 1) (c.len-last.ensures.len ∙ sym (length-map c.args.slots.now.entries entry_of)) in
    subst (λ (o : List ℕ). IsOrdered (slot_entries c.swap_remove_index.new.self.entries) o c.args.next_cookie) (sym (c.remove.ensures ∙ ap (λ (o : List ℕ). remove o c.place_of-place.result) c.set.ensures))
    (subst (λ (l : List Entry). IsOrdered l (remove (set c.args.order.now c.place_of-place_of_last.result c.args.index) c.place_of-place.result) c.args.next_cookie) (sym s.1)
    (taken_ordered es c.args.order.now c.args.next_cookie c.args.index c.place_of-place.result c.place_of-place_of_last.result s.0 c.requires.ordered c.requires.within c.place_of-place.ensures.within c.place_of-place_of_last.ensures.within c.place_of-place.ensures.place last))

pub returns-clause-entries : goal.returns-clause-entries
returns-clause-entries c = λ place lt here.
    let es : List Entry = slot_entries c.args.slots.now.entries in
    let s : (d : Entry) × (slot_entries c.swap_remove_index.new.self.entries ≡ swap_remove es c.args.index d) =
    slot_entries_swap c.args.slots.now.entries c.swap_remove_index.new.self.entries c.args.index c.swap_remove_index.result c.requires.within c.swap_remove_index.ensures.entry c.swap_remove_index.ensures.entries in
    let last : slice_index c.args.order.now c.place_of-place_of_last.result ≡ length es - 1 =
    c.place_of-place_of_last.ensures.place ∙ ap (λ n. n - 1) (c.len-last.ensures.len ∙ sym (length-map c.args.slots.now.entries entry_of)) in
    let same : c.place_of-place.result ≡ place = one_place es c.args.order.now c.args.next_cookie c.place_of-place.result place c.requires.ordered c.place_of-place.ensures.within lt (c.place_of-place.ensures.place ∙ sym here) in
    (λ i. ordered (s.1 i) ((c.remove.ensures ∙ ap (λ (o : List ℕ). remove o c.place_of-place.result) c.set.ensures) i))
    ∙ taken_entries es c.args.order.now c.args.next_cookie c.args.index c.place_of-place.result c.place_of-place_of_last.result s.0 c.requires.ordered c.requires.within c.place_of-place.ensures.within c.place_of-place_of_last.ensures.within c.place_of-place.ensures.place last
    ∙ ap (λ (n : ℕ). remove (ordered es c.args.order.now) n) same
