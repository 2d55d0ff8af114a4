-- Indexes of slots by name, and changes of slots, as those of their entries.
use Rattle.std.proofs.Common.{◌≡◌, ℕ, zero, suc, ◌<◌, Bool, true, false, cond, true≢false, eqb, List, [], ◌∷◌, length, get_or, set, Option, None, Some, refl, ap, sym, ◌∙◌, subst, arith, nat_eq}
use Rattle.std.proofs.lemmas.Bool.{and_parts, eqb-true}
use Rattle.std.proofs.lemmas.List.{length-map}
use Rattle.std.proofs.lemmas.Map.Keys.{IsDistinct-head, IsDistinct-tail}
use Rattle.std.specs.Prelude.{slice_get, position}
use Rattle.std.specs.List.{IsDistinct, AllByRecursion, swap_remove}
use Rattle.std.specs.Map.{keys_of, lookup_key}
use Rattle.std.specs.Option.{IfSome}
use Rattle.std.specs.Cmp.Lexicographic.{pointwise}
use Rattle.std.specs.declared.vec.Vec.{Vec}
use Rattle.std.specs.declared.alloc.Global.{Global}
use Rattle.indexmap.specs.Layout.{set_value_at}
use Rattle.indexmap.proofs.MapLemmas.{Found-position, Missing-position}
use Rattle.indexmap.proofs.SetLemmas.{map-swap_remove}
use Rattle.nr_tree.specs.declared.entry_table.Slot.{Slot}
use Rattle.nr_tree.specs.Entries.{Entry, is_name}
use Rattle.nr_tree.specs.private.Slots.{slot_entries, entry_of, no_entry}
use Rattle.nr_tree.specs.private.Indexes.{IsIndexOf}

abbrev Key : Type 0
Key = Vec ℕ Global

abbrev same_key : Key → Key → Bool
same_key = λ a b. pointwise nat_eq a.items b.items

abbrev has_name : List ℕ → Key → Bool
has_name name = λ k. pointwise nat_eq name k.items

pub same_list : (a b : List ℕ) → pointwise nat_eq a b ≡ true → a ≡ b
same_list [] [] t = refl
same_list [] (y ∷ ys) t = absurd cc
same_list (x ∷ xs) [] t = absurd cc
same_list (x ∷ xs) (y ∷ ys) t =
    let p : (eqb x y ≡ true) × (pointwise nat_eq xs ys ≡ true) = and_parts (eqb x y) (pointwise nat_eq xs ys) t in
    (λ i. eqb-true x y p.0 i ∷ same_list xs ys p.1 i)

abbrev at : List (Key × Slot) → ℕ → Entry
at ps i = get_or (slot_entries ps) i no_entry

unnamed_at : (ps : List (Key × Slot)) (name : List ℕ) (i : ℕ) → AllByRecursion (λ k. has_name name k ≡ false) (keys_of ps) → i < length (slot_entries ps) → is_name name (at ps i) ≡ false
unnamed_at [] name i all lt = absurd (omega (arith, lt))
unnamed_at (p ∷ ps) name zero all lt = all.0
unnamed_at (p ∷ ps) name (suc i) all lt = unnamed_at ps name i all.1 (omega (arith, lt))

passes : (ps : List (Key × Slot)) (t : Key → Bool) (k : Key) → lookup_key t ps ≡ Some k → t k ≡ true
passes [] t k e = absurd cc
passes (p ∷ ps) t k e = by (t p.0) refl e (passes ps t k) where
  by : (b : Bool) → t p.0 ≡ b → cond b (Some p.0) (lookup_key t ps) ≡ Some k → (lookup_key t ps ≡ Some k → t k ≡ true) → t k ≡ true
  by true is found rest = let same : p.0 ≡ k = cc in subst (λ (x : Key). t x ≡ true) same is
  by false is found rest = rest found

key_at : (ps : List (Key × Slot)) (name : List ℕ) (i : ℕ) (k : Key) → slice_get (keys_of ps) i ≡ Some k → has_name name k ≡ true → is_name name (at ps i) ≡ true
key_at [] name i k e t = absurd cc
key_at (p ∷ ps) name zero k e t = let same : p.0 ≡ k = cc in subst (λ (x : Key). has_name name x ≡ true) (sym same) t
key_at (p ∷ ps) name (suc i) k e t = key_at ps name i k e t

no_key : (ps : List (Key × Slot)) (i : ℕ) → i < length ps → slice_get (keys_of ps) i ≡ None → ⊥
no_key [] i lt none = absurd (omega (arith, lt))
no_key (p ∷ ps) zero lt none = absurd cc
no_key (p ∷ ps) (suc i) lt none = no_key ps i (omega (arith, lt)) none

first_at : (ps : List (Key × Slot)) (name : List ℕ) (i : ℕ) → i < length ps → lookup_key (has_name name) ps ≡ slice_get (keys_of ps) i → is_name name (at ps i) ≡ true
first_at ps name i lt found = by (slice_get (keys_of ps) i) refl where
  by : (r : Option Key) → slice_get (keys_of ps) i ≡ r → is_name name (at ps i) ≡ true
  by None e = absurd (no_key ps i lt e)
  by (Some k) e = key_at ps name i k e (passes ps (has_name name) k (found ∙ e))

one_named : (ps : List (Key × Slot)) (name : List ℕ) (i j : ℕ) → IsDistinct same_key (keys_of ps) → i < length (slot_entries ps) → j < length (slot_entries ps) → is_name name (at ps i) ≡ true → is_name name (at ps j) ≡ true → i ≡ j
one_named [] name i j apart li lj ti tj = absurd (omega (arith, li))
one_named (p ∷ ps) name zero zero apart li lj ti tj = refl
one_named (p ∷ ps) name zero (suc j) apart li lj ti tj =
    let same : is_name p.0.items (at ps j) ≡ true = ap (λ (n : List ℕ). is_name n (at ps j)) (sym (same_list name p.0.items ti)) ∙ tj in
    absurd (true≢false (sym same ∙ unnamed_at ps p.0.items j (IsDistinct-head same_key p.0 (keys_of ps) apart) (omega (arith, lj))))
one_named (p ∷ ps) name (suc i) zero apart li lj ti tj =
    let same : is_name p.0.items (at ps i) ≡ true = ap (λ (n : List ℕ). is_name n (at ps i)) (sym (same_list name p.0.items tj)) ∙ ti in
    absurd (true≢false (sym same ∙ unnamed_at ps p.0.items i (IsDistinct-head same_key p.0 (keys_of ps) apart) (omega (arith, li))))
one_named (p ∷ ps) name (suc i) (suc j) apart li lj ti tj = ap suc (one_named ps name i j (IsDistinct-tail same_key p.0 (keys_of ps) apart) (omega (arith, li)) (omega (arith, lj)) ti tj)

-- what the map answers is the index of the one slot under the name
pub index_found : (ps : List (Key × Slot)) (name : List ℕ) (r : Option ℕ) → IsDistinct same_key (keys_of ps) → r ≡ position (has_name name) (keys_of ps) → IsIndexOf (slot_entries ps) name r
index_found ps name None apart is = λ i lt. unnamed_at ps name i (Missing-position (has_name name) ps (sym is)).absent lt
index_found ps name (Some i) apart is =
    let lt : i < length (slot_entries ps) = omega (arith, (Found-position (has_name name) ps i (sym is)).within, length-map ps entry_of) in
    let here : is_name name (at ps i) ≡ true = first_at ps name i (Found-position (has_name name) ps i (sym is)).within (Found-position (has_name name) ps i (sym is)).key in
    (lt, here, λ j less t. one_named ps name j i apart less lt t here)

-- ===== changes

-- another slot at an index
pub slot_entries_set : (ps : List (Key × Slot)) (i : ℕ) (s : Slot) → i < length (slot_entries ps) → slot_entries (set_value_at ps i s) ≡ set (slot_entries ps) i (record { cookie = s.cookie; name = (at ps i).name; number = s.number })
slot_entries_set [] i s lt = absurd (omega (arith, lt))
slot_entries_set (p ∷ ps) zero s lt = refl
slot_entries_set (p ∷ ps) (suc i) s lt = ap (λ (t : List Entry). entry_of p ∷ t) (slot_entries_set ps i s (omega (arith, lt)))

none_at : (ps : List (Key × Slot)) (i : ℕ) → i < length (slot_entries ps) → slice_get ps i ≡ None → ⊥
none_at [] i lt none = absurd (omega (arith, lt))
none_at (p ∷ ps) zero lt none = absurd cc
none_at (p ∷ ps) (suc i) lt none = none_at ps i (omega (arith, lt)) none

-- the last slot in the place of one that is taken out
pub slot_entries_swap : (ps qs : List (Key × Slot)) (i : ℕ) (r : Option (Key × Slot)) → i < length (slot_entries ps) → r ≡ slice_get ps i → IfSome r (λ p. qs ≡ swap_remove ps i p)
    → (d : Entry) × (slot_entries qs ≡ swap_remove (slot_entries ps) i d)
slot_entries_swap ps qs i None lt is after = absurd (none_at ps i lt (sym is))
slot_entries_swap ps qs i (Some p) lt is after = (entry_of p, ap slot_entries after ∙ map-swap_remove entry_of ps i p (omega (arith, lt, length-map ps entry_of)))
