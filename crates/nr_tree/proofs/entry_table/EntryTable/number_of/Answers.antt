use Rattle.std.proofs.Common.{◌≡◌, ◌<◌, ℕ, Some, length, ap, sym, ◌∙◌}
use Rattle.std.specs.Prelude.{slice_index}
use Rattle.std.specs.Option.{option_map}
use Rattle.nr_tree.specs.Entries.{Entry, Entries, entry_of_name}
use Rattle.nr_tree.specs.private.Slots.{slot_entries}
use Rattle.nr_tree.proofs.Ordered.{ordered_named, ordered_unnamed}
use Rattle.nr_tree.proofs.entry_table.EntryTable.number_of.Goals as goal

pub returns-in-Some : goal.returns-in-Some
returns-in-Some c =
    let k : (place : ℕ) × (place < length c.self.inside.order) × (slice_index c.self.inside.order place ≡ c.in-Some.index) = c.self.invariant.found c.in-Some.index c.in-Some.ensures.0 in
    ap (option_map (λ (e : Entry). e.number))
    (ap Some (sym c.slot_at.ensures) ∙ sym (ordered_named (slot_entries c.self.inside.slots.entries) c.self.inside.order c.self.inside.next_cookie c.in-Some.index k.0 c.args.name.now c.self.invariant c.in-Some.ensures k.1 k.2).0
    ∙ ap (λ (d : Entries). entry_of_name c.args.name.now d.list) c.self.view_is)

pub returns-in-None : goal.returns-in-None
returns-in-None c =
    ap (option_map (λ (e : Entry). e.number))
    (sym (ordered_unnamed (slot_entries c.self.inside.slots.entries) c.self.inside.order c.self.inside.next_cookie c.args.name.now c.self.invariant c.in-None.ensures).0
    ∙ ap (λ (d : Entries). entry_of_name c.args.name.now d.list) c.self.view_is)
