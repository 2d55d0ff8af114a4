-- Places of lists.
use Rattle.std.proofs.Common.{◌≡◌, ℕ, zero, suc, ◌+◌, ◌<◌, ◌⊎◌, arith, Bool, true, false, ltb, if◌then◌else◌, List, [], ◌∷◌, ◌++◌, length, refl, sym, ap, subst, ⊎_elim, inl, inr, append-nil}
use Rattle.std.specs.List.{AllByRecursion}
use mathlib.Core.Option.{some, some-injective, some-ne-none}
use lib.ListN.{get_elem?}
use Rattle.atomic_table.proofs.Lists.{at_longer, at_last}
use Rattle.nr_turnstile.specs.Rule.{Begins, IsIn, Rising, in_order, places_from, put_in}

module _ {A : Type 0} where
  -- an element of a list with one more: of the list, or the last one
  pub at_end : (l : List A) (a b : A) (j : ℕ) → get_elem? (l ++ a ∷ []) j ≡ some b → (get_elem? l j ≡ some b) ⊎ ((j ≡ length l) × (a ≡ b))
  at_end [] a b zero e = inr (refl, some-injective a b e)
  at_end [] a b (suc j) e = absurd (some-ne-none b (sym e))
  at_end (x ∷ xs) a b zero e = inl e
  at_end (x ∷ xs) a b (suc j) e = ⊎_elim inl (λ t. inr (ap suc t.0, t.1)) (at_end xs a b j e)

  pub at_below : (l : List A) (j : ℕ) (b : A) → get_elem? l j ≡ some b → j < length l
  at_below [] j b e = absurd (some-ne-none b (sym e))
  at_below (x ∷ xs) zero b e = omega arith
  at_below (x ∷ xs) (suc j) b e = let h = at_below xs j b e in omega arith

  pub begins_self : (xs : List A) → Begins xs xs
  begins_self xs = ([], sym (append-nil xs))

  pub in_more : (xs ys : List A) (y : A) → IsIn y xs → IsIn y (xs ++ ys)
  in_more xs ys y i = (i.0, at_longer xs ys i.0 y i.1)

  pub in_last : (xs : List A) (y : A) → IsIn y (xs ++ y ∷ [])
  in_last xs y = (length xs, at_last xs y (length xs) refl)

  -- an element of two lists is in one of them
  pub in_either : (xs ys : List A) (a : A) → IsIn a (xs ++ ys) → IsIn a xs ⊎ IsIn a ys
  in_either [] ys a i = inr i
  in_either (x ∷ xs) ys a (zero, at) = inl (0, at)
  in_either (x ∷ xs) ys a (suc n, at) = ⊎_elim (λ (i : IsIn a xs). inl (suc i.0, i.1)) inr (in_either xs ys a (n, at))

  pub at_either : (xs ys : List A) (n : ℕ) (a : A) → get_elem? (xs ++ ys) n ≡ some a → (get_elem? xs n ≡ some a) ⊎ ((i : ℕ) × (get_elem? ys i ≡ some a))
  at_either [] ys n a at = inr (n, at)
  at_either (x ∷ xs) ys zero a at = inl at
  at_either (x ∷ xs) ys (suc n) a at = at_either xs ys n a at

  -- an element that follows stands in the longer list
  pub at_after : (xs ys : List A) (i : ℕ) (a : A) → get_elem? ys i ≡ some a → (n : ℕ) × ((n ≡ length xs + i) × (get_elem? (xs ++ ys) n ≡ some a))
  at_after [] ys i a at = (i, (omega arith, at))
  at_after (x ∷ xs) ys i a at = let (n, (is, later)) = at_after xs ys i a at in (suc n, (omega (arith, is), later))

  -- an element of the longer list at a place of its beginning
  pub at_begin : (xs ys : List A) (n : ℕ) (a : A) → n < length xs → get_elem? (xs ++ ys) n ≡ some a → get_elem? xs n ≡ some a
  at_begin [] ys n a lt at = absurd (omega (arith, lt))
  at_begin (x ∷ xs) ys zero a lt at = at
  at_begin (x ∷ xs) ys (suc n) a lt at = at_begin xs ys n a (omega (arith, lt)) at

  -- what holds of all elements holds of each
  pub all_in : (P : A → Type 0) (xs : List A) (a : A) → AllByRecursion P xs → IsIn a xs → P a
  all_in P [] a all i = absurd (some-ne-none a (sym i.1))
  all_in P (x ∷ xs) a all (zero, at) = subst P (some-injective x a at) all.0
  all_in P (x ∷ xs) a all (suc n, at) = all_in P xs a all.1 (n, at)

  pub all_map : (P Q : A → Type 0) (xs : List A) → ((a : A) → P a → Q a) → AllByRecursion P xs → AllByRecursion Q xs
  all_map P Q [] f all = tt
  all_map P Q (x ∷ xs) f all = (f x all.0, all_map P Q xs f all.1)

-- ---- Rising lists of places

in_put : (x : ℕ) (ys : List ℕ) (z : ℕ) → IsIn z (put_in x ys) → (z ≡ x) ⊎ IsIn z ys
in_put x [] z (zero, at) = inl (sym (some-injective x z at))
in_put x [] z (suc n, at) = absurd (some-ne-none z (sym at))
in_put x (y ∷ ys) z i = by_less (ltb x y) i (λ j. in_put x ys z j) where
  by_less : (b : Bool) → IsIn z (if b then x ∷ y ∷ ys else y ∷ put_in x ys) → (IsIn z (put_in x ys) → (z ≡ x) ⊎ IsIn z ys) → (z ≡ x) ⊎ IsIn z (y ∷ ys)
  by_less true (zero, at) later = inl (sym (some-injective x z at))
  by_less true (suc n, at) later = inr (n, at)
  by_less false (zero, at) later = inr (0, at)
  by_less false (suc n, at) later = ⊎_elim inl (λ (j : IsIn z ys). inr (suc j.0, j.1)) (later (n, at))

still_put : (x : ℕ) (ys : List ℕ) (z : ℕ) → IsIn z ys → IsIn z (put_in x ys)
still_put x [] z i = absurd (some-ne-none z (sym i.1))
still_put x (y ∷ ys) z i = by_less (ltb x y) i (λ j. still_put x ys z j) where
  by_less : (b : Bool) → IsIn z (y ∷ ys) → (IsIn z ys → IsIn z (put_in x ys)) → IsIn z (if b then x ∷ y ∷ ys else y ∷ put_in x ys)
  by_less true j later = (suc j.0, j.1)
  by_less false (zero, at) later = (0, at)
  by_less false (suc n, at) later = let j = later (n, at) in (suc j.0, j.1)

put_there : (x : ℕ) (ys : List ℕ) → IsIn x (put_in x ys)
put_there x [] = (0, refl)
put_there x (y ∷ ys) = by_less (ltb x y) (put_there x ys) where
  by_less : (b : Bool) → IsIn x (put_in x ys) → IsIn x (if b then x ∷ y ∷ ys else y ∷ put_in x ys)
  by_less true j = (0, refl)
  by_less false j = (suc j.0, j.1)

-- a place of two rising lists is one of the first or of the second
pub in_ordered : (xs ys : List ℕ) (z : ℕ) → IsIn z (in_order xs ys) → IsIn z xs ⊎ IsIn z ys
in_ordered [] ys z i = inr i
in_ordered (x ∷ xs) ys z i = ⊎_elim
    (λ (is : z ≡ x). inl (0, ap some (sym is)))
    (λ (j : IsIn z (in_order xs ys)). ⊎_elim (λ (k : IsIn z xs). inl (suc k.0, k.1)) inr (in_ordered xs ys z j))
    (in_put x (in_order xs ys) z i)

pub still_ordered : (xs ys : List ℕ) (z : ℕ) → IsIn z ys → IsIn z (in_order xs ys)
still_ordered [] ys z i = i
still_ordered (x ∷ xs) ys z i = still_put x (in_order xs ys) z (still_ordered xs ys z i)

pub still_first : (xs ys : List ℕ) (z : ℕ) → IsIn z xs → IsIn z (in_order xs ys)
still_first [] ys z i = absurd (some-ne-none z (sym i.1))
still_first (x ∷ xs) ys z (zero, at) = subst (λ (w : ℕ). IsIn w (put_in x (in_order xs ys))) (some-injective x z at) (put_there x (in_order xs ys))
still_first (x ∷ xs) ys z (suc n, at) = still_put x (in_order xs ys) z (still_first xs ys z (n, at))

-- a number that is put into a list which has it isn't below the one after it
put_twice : (x : ℕ) (ys : List ℕ) → IsIn x ys → Rising (put_in x ys) → ⊥
put_twice x [] i r = some-ne-none x (sym i.1)
put_twice x (y ∷ ys) i r = by_less (ltb x y) i r (λ j s. put_twice x ys j s) where
  by_less : (b : Bool) → IsIn x (y ∷ ys) → Rising (if b then x ∷ y ∷ ys else y ∷ put_in x ys) → (IsIn x ys → Rising (put_in x ys) → ⊥) → ⊥
  by_less true j s later = let l = s.0 x j in omega (arith, l)
  by_less false (zero, at) s later = let l = s.0 x (put_there x ys) in let same = some-injective y x at in omega (arith, l, same)
  by_less false (suc n, at) s later = later (n, at) s.1

rising_put : (x : ℕ) (ys : List ℕ) → Rising (put_in x ys) → Rising ys
rising_put x [] r = tt
rising_put x (y ∷ ys) r = by_less (ltb x y) r (λ s. rising_put x ys s) where
  by_less : (b : Bool) → Rising (if b then x ∷ y ∷ ys else y ∷ put_in x ys) → (Rising (put_in x ys) → Rising ys) → Rising (y ∷ ys)
  by_less true s later = s.1
  by_less false s later = ((λ w i. s.0 w (still_put x ys w i)), later s.1)

-- no place is in both of two lists that rise as one
pub not_twice : (xs ys : List ℕ) (z : ℕ) → Rising (in_order xs ys) → IsIn z xs → IsIn z ys → ⊥
not_twice [] ys z r i j = some-ne-none z (sym i.1)
not_twice (x ∷ xs) ys z r (zero, at) j = put_twice x (in_order xs ys) (subst (λ (w : ℕ). IsIn w (in_order xs ys)) (sym (some-injective x z at)) (still_ordered xs ys z j)) r
not_twice (x ∷ xs) ys z r (suc n, at) j = not_twice xs ys z (rising_put x (in_order xs ys) r) (n, at) j

places_in : (n k i : ℕ) → i < n → IsIn (k + i) (places_from k n)
places_in zero k i lt = absurd (omega (arith, lt))
places_in (suc n) k zero lt = let is : k ≡ k + 0 = omega arith in (0, ap some is)
places_in (suc n) k (suc i) lt = let (j, at) = places_in n (suc k) i (omega (arith, lt)) in let is : suc k + i ≡ k + suc i = omega arith in
    (suc j, subst (λ (m : ℕ). get_elem? (places_from (suc k) n) j ≡ some m) is at)

pub place_in : (n i : ℕ) → i < n → IsIn i (places_from 0 n)
place_in n i lt = let is : 0 + i ≡ i = omega arith in subst (λ (z : ℕ). IsIn z (places_from 0 n)) is (places_in n 0 i lt)

pub in_places : (n k z : ℕ) → IsIn z (places_from k n) → z < k + n
in_places zero k z i = absurd (some-ne-none z (sym i.1))
in_places (suc n) k z (zero, at) = let is = some-injective k z at in omega (arith, is)
in_places (suc n) k z (suc j, at) = let l = in_places n (suc k) z (j, at) in omega (arith, l)

pub places_len : (n k : ℕ) → length (places_from k n) ≡ n
places_len zero k = refl
places_len (suc n) k = ap suc (places_len n (suc k))

-- ---- One element more

abbrev after_first : {A : Type 0} → List A → List A
after_first [] = []
after_first (x ∷ xs) = xs

first_same : {A : Type 0} (x y : A) (xs ys : List A) → x ∷ xs ≡ y ∷ ys → x ≡ y
first_same x y xs ys is = some-injective x y (ap (λ l. get_elem? l 0) is)

rest_same : {A : Type 0} (x y : A) (xs ys : List A) → x ∷ xs ≡ y ∷ ys → xs ≡ ys
rest_same x y xs ys is = ap after_first is

pub none_left : {A : Type 0} (bs later : List A) (e : A) → [] ≡ bs ++ e ∷ later → ⊥
none_left [] later e is = absurd cc
none_left (b ∷ bs) later e is = absurd cc

-- an element of a list with one more is that one, which is the last, or it is among those before
pub split_end : {A : Type 0} (h before later : List A) (e f : A) → h ++ f ∷ [] ≡ before ++ e ∷ later
    → ((h ≡ before) × (f ≡ e) × (later ≡ [])) ⊎ ((rest : List A) × (h ≡ before ++ e ∷ rest) × (later ≡ rest ++ f ∷ []))
split_end [] [] later e f is = inl (refl, first_same f e [] later is, sym (rest_same f e [] later is))
split_end [] (b ∷ bs) later e f is = absurd (none_left bs later e (rest_same f b [] (bs ++ e ∷ later) is))
split_end {A} (x ∷ xs) [] later e f is = inr (xs, ap (λ (y : A). y ∷ xs) (first_same x e (xs ++ f ∷ []) later is), sym (rest_same x e (xs ++ f ∷ []) later is))
split_end {A} (x ∷ xs) (b ∷ bs) later e f is =
    let head : x ≡ b = first_same x b (xs ++ f ∷ []) (bs ++ e ∷ later) is in
    ⊎_elim
    (λ (last : (xs ≡ bs) × (f ≡ e) × (later ≡ [])). inl ((λ i. head i ∷ last.0 i), last.1, last.2))
    (λ (more : (rest : List A) × (xs ≡ bs ++ e ∷ rest) × (later ≡ rest ++ f ∷ [])). inr (more.0, (λ i. head i ∷ more.1 i), more.2))
    (split_end xs bs later e f (rest_same x b (xs ++ f ∷ []) (bs ++ e ∷ later) is))

-- what holds of each element, with those before it, holds so with one element more of which it holds
pub each_end : {A : Type 0} (P : List A → A → Type 0) (h : List A) (e : A) → P h e → ((before later : List A) (f : A) → h ≡ before ++ f ∷ later → P before f)
    → (before later : List A) (f : A) → h ++ e ∷ [] ≡ before ++ f ∷ later → P before f
each_end {A} P h e own all before later f is = ⊎_elim
    (λ (last : (h ≡ before) × (e ≡ f) × (later ≡ [])). subst (λ (l : List A). P l f) last.0 (subst (P h) last.1 own))
    (λ (more : (rest : List A) × (h ≡ before ++ f ∷ rest) × (later ≡ rest ++ e ∷ [])). all before more.0 f more.1)
    (split_end h before later f e is)
