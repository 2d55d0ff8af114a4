-- Entries of a directory as slots of a map from names.
use Rattle.std.proofs.Common.{◌≡◌, ℕ, Bool, true, false, List, [], ◌∷◌, Option, None, Some, cond, refl, ap, nat_eq, ◌++◌}
use Rattle.std.specs.Option.{option_map}
use Rattle.std.specs.Map.{lookup}
use Rattle.std.specs.Cmp.Lexicographic.{pointwise}
use Rattle.std.specs.declared.vec.Vec.{Vec}
use Rattle.std.specs.declared.alloc.Global.{Global}
use Rattle.nr_tree.specs.declared.entry_table.Slot.{Slot}
use Rattle.nr_tree.specs.Entries.{Entry, entry_of_name}
use Rattle.nr_tree.specs.private.Slots.{slot_entries, entry_of}

either : (b : Bool) (e : Entry) (s : Slot) (x : Option Entry) (y : Option Slot) → e.number ≡ s.number → option_map (λ (i : Entry). i.number) x ≡ option_map (λ (i : Slot). i.number) y
    → option_map (λ (i : Entry). i.number) (cond b (Some e) x) ≡ option_map (λ (i : Slot). i.number) (cond b (Some s) y)
either true e s x y h k = ap Some h
either false e s x y h k = k

-- the entry that a name finds has the number of the slot under it
pub number_lookup : (ps : List (Vec ℕ Global × Slot)) (name : List ℕ)
    → option_map (λ (e : Entry). e.number) (entry_of_name name (slot_entries ps)) ≡ option_map (λ (s : Slot). s.number) (lookup (λ k. pointwise nat_eq name k.items) ps)
number_lookup [] name = refl
number_lookup (p ∷ ps) name = either (pointwise nat_eq name p.0.items) _ p.1 _ _ refl (number_lookup ps name)

none_of : {A B : Type 0} (f : A → ℕ) (g : B → ℕ) (x : Option A) (y : Option B) → option_map f x ≡ option_map g y → x ≡ None → y ≡ None
none_of f g x None e h = refl
none_of f g None (Some y) e h = absurd cc
none_of f g (Some x) (Some y) e h = absurd cc

-- if no entry has the name, no slot is under it
pub free_slot : (ps : List (Vec ℕ Global × Slot)) (name : List ℕ) → entry_of_name name (slot_entries ps) ≡ None → lookup (λ k. pointwise nat_eq name k.items) ps ≡ None
free_slot ps name h = none_of (λ (e : Entry). e.number) (λ (s : Slot). s.number) (entry_of_name name (slot_entries ps)) _ (number_lookup ps name) h

pub slot_entries_append : (ps : List (Vec ℕ Global × Slot)) (name : Vec ℕ Global) (slot : Slot)
    → slot_entries (ps ++ (name, slot) ∷ []) ≡ slot_entries ps ++ record { cookie = slot.cookie; name = name.items; number = slot.number } ∷ []
slot_entries_append [] name slot = refl
slot_entries_append (p ∷ ps) name slot = ap (λ (t : List Entry). entry_of p ∷ t) (slot_entries_append ps name slot)
