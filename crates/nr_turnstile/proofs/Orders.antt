-- Rising lists of places.
use Rattle.std.proofs.Common.{◌≡◌, ℕ, zero, suc, ◌<◌, ◌≤◌, ◌⊎◌, Bool, true, false, ltb, if◌then◌else◌, List, [], ◌∷◌, ◌++◌, sym, refl, ap, subst, inl, inr, ⊎_elim, arith, ltb-true, ltb-false}
use Rattle.std.proofs.lemmas.Bool.{cases_lt}
use mathlib.Core.Option.{some, some-injective, some-ne-none}
use Rattle.nr_turnstile.specs.Rule.{IsIn, places_from, Rising, put_in, in_order}

in_put : (x : ℕ) (ys : List ℕ) (p : ℕ) → IsIn p (put_in x ys) → (x ≡ p) ⊎ IsIn p ys
in_put x [] p (zero, e) = inl (some-injective x p e)
in_put x [] p (suc j, e) = absurd (some-ne-none p (sym e))
in_put x (y ∷ ys) p i = by_side (λ h. in_put x ys p h) (ltb x y) i where
  by_side : (IsIn p (put_in x ys) → (x ≡ p) ⊎ IsIn p ys) → (b : Bool) → IsIn p (if b then x ∷ y ∷ ys else y ∷ put_in x ys) → (x ≡ p) ⊎ IsIn p (y ∷ ys)
  by_side again true (zero, e) = inl (some-injective x p e)
  by_side again true (suc j, e) = inr (j, e)
  by_side again false (zero, e) = inr (zero, e)
  by_side again false (suc j, e) = ⊎_elim inl (λ h. inr (suc h.0, h.1)) (again (j, e))

put_has : (x : ℕ) (ys : List ℕ) → IsIn x (put_in x ys)
put_has x [] = (zero, refl)
put_has x (y ∷ ys) = by_side (put_has x ys) (ltb x y) where
  by_side : IsIn x (put_in x ys) → (b : Bool) → IsIn x (if b then x ∷ y ∷ ys else y ∷ put_in x ys)
  by_side h true = (zero, refl)
  by_side h false = (suc h.0, h.1)

put_keeps : (x : ℕ) (ys : List ℕ) (p : ℕ) → IsIn p ys → IsIn p (put_in x ys)
put_keeps x [] p i = absurd (some-ne-none p (sym i.1))
put_keeps x (y ∷ ys) p i = by_side (λ h. put_keeps x ys p h) (ltb x y) i where
  by_side : (IsIn p ys → IsIn p (put_in x ys)) → (b : Bool) → IsIn p (y ∷ ys) → IsIn p (if b then x ∷ y ∷ ys else y ∷ put_in x ys)
  by_side again true i = (suc i.0, i.1)
  by_side again false (zero, e) = (zero, e)
  by_side again false (suc j, e) = let h = again (j, e) in (suc h.0, h.1)

rising_put : (x : ℕ) (ys : List ℕ) → Rising ys → ¬ (IsIn x ys) → Rising (put_in x ys)
rising_put x [] r other = ((λ y i. absurd (some-ne-none y (sym i.1))), tt)
rising_put x (y ∷ ys) r other = by_side (rising_put x ys r.1 (λ i. other (suc i.0, i.1))) (λ z h. in_put x ys z h) (ltb x y) refl where
  behind : x < y → (z : ℕ) → IsIn z (y ∷ ys) → x < z
  behind l z (zero, e) = let h = some-injective y z e in omega arith
  behind l z (suc j, e) = let h = r.0 z (j, e) in omega arith

  apart : y ≤ x → y < x
  apart l = ⊎_elim (λ (h : y < x). h) (λ (h : x ≤ y). let e : y ≡ x = omega arith in absurd (other (zero, ap (λ (n : ℕ). some n) e))) (cases_lt y x)

  by_side : Rising (put_in x ys) → ((z : ℕ) → IsIn z (put_in x ys) → (x ≡ z) ⊎ IsIn z ys) → (b : Bool) → ltb x y ≡ b → Rising (if b then x ∷ y ∷ ys else y ∷ put_in x ys)
  by_side again put true e = (behind (ltb-true x y e), r)
  by_side again put false e = ((λ z i. ⊎_elim (λ (h : x ≡ z). let l = apart (ltb-false x y e) in omega arith) (λ h. r.0 z h) (put z i)), again)

pub in_ordered : (xs ys : List ℕ) (p : ℕ) → IsIn p (in_order xs ys) → IsIn p xs ⊎ IsIn p ys
in_ordered [] ys p i = inr i
in_ordered (x ∷ xs) ys p i = ⊎_elim (λ (e : x ≡ p). inl (zero, ap (λ (n : ℕ). some n) e)) (λ h. ⊎_elim (λ k. inl (suc k.0, k.1)) inr (in_ordered xs ys p h)) (in_put x (in_order xs ys) p i)

pub ordered_left : (xs ys : List ℕ) (p : ℕ) → IsIn p xs → IsIn p (in_order xs ys)
ordered_left [] ys p i = absurd (some-ne-none p (sym i.1))
ordered_left (x ∷ xs) ys p (zero, e) = subst (λ (n : ℕ). IsIn n (put_in x (in_order xs ys))) (some-injective x p e) (put_has x (in_order xs ys))
ordered_left (x ∷ xs) ys p (suc j, e) = put_keeps x (in_order xs ys) p (ordered_left xs ys p (j, e))

pub ordered_right : (xs ys : List ℕ) (p : ℕ) → IsIn p ys → IsIn p (in_order xs ys)
ordered_right [] ys p i = i
ordered_right (x ∷ xs) ys p i = put_keeps x (in_order xs ys) p (ordered_right xs ys p i)

pub rising_ordered : (xs ys : List ℕ) → Rising xs → Rising ys → ((p : ℕ) → IsIn p xs → ¬ (IsIn p ys)) → Rising (in_order xs ys)
rising_ordered [] ys r q other = q
rising_ordered (x ∷ xs) ys r q other =
    rising_put x (in_order xs ys) (rising_ordered xs ys r.1 q (λ p i. other p (suc i.0, i.1)))
    (λ i. ⊎_elim (λ h. absurd (let l = r.0 x h in omega arith)) (λ h. other x (zero, refl) h) (in_ordered xs ys x i))

pub rising_end : (xs : List ℕ) (n : ℕ) → Rising xs → ((p : ℕ) → IsIn p xs → p < n) → Rising (xs ++ n ∷ [])
rising_end [] n r below = ((λ y i. absurd (some-ne-none y (sym i.1))), tt)
rising_end (x ∷ xs) n r below = ((λ y i. ⊎_elim (λ h. r.0 y h) (λ (e : n ≡ y). let l = below x (zero, refl) in omega arith) (last xs y i)), rising_end xs n r.1 (λ p i. below p (suc i.0, i.1))) where
  last : (zs : List ℕ) (y : ℕ) → IsIn y (zs ++ n ∷ []) → IsIn y zs ⊎ (n ≡ y)
  last [] y (zero, e) = inr (some-injective n y e)
  last [] y (suc j, e) = absurd (some-ne-none y (sym e))
  last (z ∷ zs) y (zero, e) = inl (zero, e)
  last (z ∷ zs) y (suc j, e) = ⊎_elim (λ h. inl (suc h.0, h.1)) inr (last zs y (j, e))

pub rising_places : (n k : ℕ) → Rising (places_from k n)
rising_places zero k = tt
rising_places (suc n) k = ((λ y i. above n (suc k) y i), rising_places n (suc k)) where
  above : (n k y : ℕ) → IsIn y (places_from k n) → k ≤ y
  above zero k y i = absurd (some-ne-none y (sym i.1))
  above (suc n) k y (zero, e) = let h = some-injective k y e in omega arith
  above (suc n) k y (suc j, e) = let h = above n (suc k) y (j, e) in omega arith
