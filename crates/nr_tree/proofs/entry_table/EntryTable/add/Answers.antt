use Rattle.std.proofs.Common.{◌+◌, ◌++◌, ◌∷◌, [], ℕ, List, refl, subst, sym, ap, ◌∙◌, length}
use Rattle.nr_tree.specs.Entries.{Entry, Entries, entries_with}
use Rattle.nr_tree.specs.private.Slots.{slot_entries, ordered, IsOrdered}
use Rattle.nr_tree.proofs.Ordered.{added_entries, added_ordered}
use Rattle.nr_tree.proofs.entry_table.EntryTable.add.Goals as goal

pub invariant_of-self-2 : goal.invariant_of-self-2
invariant_of-self-2 c =
    subst (λ (o : List ℕ). IsOrdered (slot_entries c.append.new.slots.entries) o (c.self.inside.next_cookie + 1)) (sym c.in_ok-append.ensures.order)
    (subst (λ (es : List Entry). IsOrdered es (c.self.inside.order ++ length (slot_entries c.self.inside.slots.entries) ∷ []) (c.self.inside.next_cookie + 1)) (sym c.in_ok-append.ensures.slots)
    (added_ordered (slot_entries c.self.inside.slots.entries) c.self.inside.order c.self.inside.next_cookie _ c.self.invariant refl))

pub returns-clause-ok : goal.returns-clause-ok
returns-clause-ok c =
    (λ i. record { next_cookie = c.self.inside.next_cookie + 1; list = ordered (c.in_ok-append.ensures.slots i) (c.in_ok-append.ensures.order i) })
    ∙ ap (λ (l : List Entry). record { next_cookie = c.self.inside.next_cookie + 1; list = l })
    (added_entries (slot_entries c.self.inside.slots.entries) c.self.inside.order c.self.inside.next_cookie (record { cookie = c.self.inside.next_cookie; name = c.args.name.items; number = c.args.number }) c.self.invariant)
    ∙ ap (λ (d : Entries). entries_with d c.args.name.items c.args.number) c.self.view_is
