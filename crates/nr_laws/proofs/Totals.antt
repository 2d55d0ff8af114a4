-- How totals and lengths of lists change with one element.
use Rattle.std.proofs.Common.{◌≡◌, ◌≢◌, ℕ, suc, ◌+◌, ◌≤◌, Bool, true, false, not, cond, ◌||◌, ◌&&◌, eqb, List, [], ◌∷◌, ◌++◌, length, map, take, drop, Option, Some, refl, sym, ap, ◌∙◌, arith, length-drop, subst}
use Rattle.std.specs.Prelude.{find}
use Rattle.std.specs.List.{filter, list_any}
use Rattle.std.proofs.lemmas.Bool.{ne_eqb, eqb-true}
use Rattle.nr_laws.proofs.FrameContents.{FrameContent, total_of}
use Rattle.nr_laws.proofs.LinkInvariants.{IsUnused, AreDistinct}

pub total_append : (one : FrameContent → ℕ) (xs ys : List FrameContent) → total_of one (xs ++ ys) ≡ total_of one xs + total_of one ys
total_append one [] ys = omega arith
total_append one (x ∷ xs) ys = omega (arith, total_append one xs ys)

pub total_map_zero : {X : Type 0} (one : FrameContent → ℕ) (f : X → FrameContent) (xs : List X) → ((x : X) → one (f x) ≡ 0) → total_of one (map f xs) ≡ 0
total_map_zero one f [] h = refl
total_map_zero one f (x ∷ xs) h = omega (arith, h x, total_map_zero one f xs h)

pub total_map_one : {X : Type 0} (one : FrameContent → ℕ) (f : X → FrameContent) (xs : List X) → ((x : X) → one (f x) ≡ 1) → total_of one (map f xs) ≡ length xs
total_map_one one f [] h = refl
total_map_one one f (x ∷ xs) h = omega (arith, h x, total_map_one one f xs h)

-- ---- keys

abbrev pub has_key : {X : Type 0} → (X → ℕ) → ℕ → X → Bool
has_key key n x = eqb (key x) n

abbrev pub others : {X : Type 0} → (X → ℕ) → ℕ → List X → List X
others key n xs = filter (λ x. not (eqb (key x) n)) xs

pub length_absent : {X : Type 0} (key : X → ℕ) (n : ℕ) (xs : List X) → IsUnused key n xs → length (others key n xs) ≡ length xs
length_absent key n [] h = refl
length_absent key n (x ∷ xs) h =
    ap (λ (b : Bool). length (cond (not b) (x ∷ others key n xs) (others key n xs))) (ne_eqb (key x) n h.0)
    ∙ ap (λ (k : ℕ). suc k) (length_absent key n xs h.1)

absent_at : {X : Type 0} (key : X → ℕ) (n m : ℕ) (xs : List X) → m ≡ n → IsUnused key m xs → IsUnused key n xs
absent_at key n m xs e h = subst (λ (k : ℕ). IsUnused key k xs) e h

fewer_by : {X : Type 0} (key : X → ℕ) (n : ℕ) (x : X) (xs : List X) (b : Bool) → eqb (key x) n ≡ b → AreDistinct key (x ∷ xs)
    → (b || list_any (has_key key n) xs) ≡ true
    → (list_any (has_key key n) xs ≡ true → length (others key n xs) + 1 ≡ length xs)
    → length (others key n (x ∷ xs)) + 1 ≡ length (x ∷ xs)
fewer_by key n x xs true e apart any more =
    let here : key x ≡ n = eqb-true (key x) n e in
    ap (λ (b : Bool). length (cond (not b) (x ∷ others key n xs) (others key n xs)) + 1) e
    ∙ ap (λ (k : ℕ). k + 1) (length_absent key n xs (absent_at key n (key x) xs here apart.0))
    ∙ omega arith
fewer_by key n x xs false e apart any more =
    let rest = more any in
    ap (λ (b : Bool). length (cond (not b) (x ∷ others key n xs) (others key n xs)) + 1) e
    ∙ omega (arith, rest)

-- one of some that are apart has the key, so one is left out
pub length_fewer : {X : Type 0} (key : X → ℕ) (n : ℕ) (xs : List X) → AreDistinct key xs → list_any (has_key key n) xs ≡ true → length (others key n xs) + 1 ≡ length xs
length_fewer key n [] apart any = absurd cc
length_fewer key n (x ∷ xs) apart any =
    fewer_by key n x xs (eqb (key x) n) refl apart any (λ rest. length_fewer key n xs apart.1 rest)

kept_if : {X : Type 0} (P : List X → Type 0) (x : X) (xs : List X) (b : Bool) → P (x ∷ xs) → P xs → P (cond b (x ∷ xs) xs)
kept_if P x xs true one none = one
kept_if P x xs false one none = none

absent_kept : {X : Type 0} (key : X → ℕ) (m : ℕ) (p : X → Bool) (xs : List X) → IsUnused key m xs → IsUnused key m (filter p xs)
absent_kept key m p [] h = tt
absent_kept key m p (x ∷ xs) h =
    let rest = absent_kept key m p xs h.1 in
    kept_if (λ (ys : List _). IsUnused key m ys) x (filter p xs) (p x) (h.0, rest) rest

pub apart_kept : {X : Type 0} (key : X → ℕ) (p : X → Bool) (xs : List X) → AreDistinct key xs → AreDistinct key (filter p xs)
apart_kept key p [] h = tt
apart_kept key p (x ∷ xs) h =
    let rest = apart_kept key p xs h.1 in
    kept_if (λ (ys : List _). AreDistinct key ys) x (filter p xs) (p x) (absent_kept key (key x) p xs h.0, rest) rest

absent_push : {X : Type 0} (key : X → ℕ) (m : ℕ) (xs : List X) (y : X) → IsUnused key m xs → key y ≢ m → IsUnused key m (xs ++ y ∷ [])
absent_push key m [] y h ne = (ne, tt)
absent_push key m (x ∷ xs) y h ne = (h.0, absent_push key m xs y h.1 ne)

pub apart_push : {X : Type 0} (key : X → ℕ) (xs : List X) (y : X) → AreDistinct key xs → IsUnused key (key y) xs → AreDistinct key (xs ++ y ∷ [])
apart_push key [] y h new = (tt, tt)
apart_push key (x ∷ xs) y h new = (absent_push key (key x) xs y h.0 (λ e. new.0 (sym e)), apart_push key xs y h.1 new.1)

-- what is found passes the test
found_if : {X : Type 0} (b more : Bool) (y x : X) (rest : Option X) → cond b (Some y) rest ≡ Some x → (rest ≡ Some x → more ≡ true) → (b || more) ≡ true
found_if true more y x rest e h = refl
found_if false more y x rest e h = h e

pub any_found : {X : Type 0} (p : X → Bool) (xs : List X) (x : X) → find p xs ≡ Some x → list_any p xs ≡ true
any_found p [] x e = absurd cc
any_found p (y ∷ xs) x e = found_if (p y) (list_any p xs) y x (find p xs) e (any_found p xs x)

any_weaker_by : (a b c : Bool) (rest more : Bool) → ((a && c) || rest) ≡ true → (rest ≡ true → more ≡ true) → (a || more) ≡ true
any_weaker_by true b c rest more e h = refl
any_weaker_by false b c rest more e h = h e

pub any_first : {X : Type 0} (p q : X → Bool) (xs : List X) → list_any (λ x. p x && q x) xs ≡ true → list_any p xs ≡ true
any_first p q [] e = absurd cc
any_first p q (x ∷ xs) e = any_weaker_by (p x) true (q x) _ _ e (λ rest. any_first p q xs rest)

-- what is dropped of what is taken
pub length_newly : {X : Type 0} (n kept : ℕ) (xs : List X) → kept ≤ length (take n xs) → kept + length (drop kept (take n xs)) ≡ length (take n xs)
length_newly n kept xs le = omega (arith, length-drop kept (take n xs), le)
