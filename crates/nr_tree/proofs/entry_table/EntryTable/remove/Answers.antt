use Rattle.std.proofs.Common.{◌≡◌, ◌<◌, ℕ, List, length, sym, ap, ◌∙◌}
use Rattle.std.specs.Prelude.{slice_index}
use Rattle.nr_tree.specs.Entries.{Entry, Entries, entries_without}
use Rattle.nr_tree.specs.private.Slots.{slot_entries}
use Rattle.nr_tree.proofs.Ordered.{ordered_named, ordered_unnamed}
use Rattle.nr_tree.proofs.entry_table.EntryTable.remove.Goals as goal

pub returns-in-Some : goal.returns-in-Some
returns-in-Some c =
    let es : List Entry = slot_entries c.self.inside.slots.entries in
    let k : (place : ℕ) × (place < length c.self.inside.order) × (slice_index c.self.inside.order place ≡ c.in-Some.index) = c.self.invariant.found c.in-Some.index c.in-Some.ensures.0 in
    ap (λ (l : List Entry). record { next_cookie = c.self.inside.next_cookie; list = l })
    (c.take_out-place.ensures.entries k.0 k.1 k.2 ∙ sym (ordered_named es c.self.inside.order c.self.inside.next_cookie c.in-Some.index k.0 c.args.name.now c.self.invariant c.in-Some.ensures k.1 k.2).1)
    ∙ ap (λ (d : Entries). entries_without d c.args.name.now) c.self.view_is

pub returns-in-None : goal.returns-in-None
returns-in-None c =
    sym c.self.view_is
    ∙ ap (λ (l : List Entry). record { next_cookie = c.self.inside.next_cookie; list = l })
    (sym (ordered_unnamed (slot_entries c.self.inside.slots.entries) c.self.inside.order c.self.inside.next_cookie c.args.name.now c.self.invariant c.in-None.ensures).1)
    ∙ ap (λ (d : Entries). entries_without d c.args.name.now) c.self.view_is
