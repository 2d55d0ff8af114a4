use Rattle.std.proofs.Common.{◌≡◌, ◌++◌, ◌∷◌, [], remove, sym, ◌∙◌}
use Rattle.nr_tree.specs.private.Slots.{slot_entries}
use Rattle.nr_tree.proofs.Ordered.{one_place}
use Rattle.nr_tree.proofs.entry_table.move_last.Goals as goal

pub returns : goal.returns
returns c = λ place lt here.
    let same : c.place_of-place.result ≡ place = one_place (slot_entries c.args.slots.now.entries) c.args.order.now c.args.next_cookie c.place_of-place.result place c.requires.ordered c.place_of-place.ensures.within lt (c.place_of-place.ensures.place ∙ sym here) in
    c.move_last.ensures ∙ (λ i. remove c.args.order.now (same i) ++ c.place_of-place.ensures.place i ∷ [])
