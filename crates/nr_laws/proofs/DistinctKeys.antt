-- Keys of elements: which are there, below a number, and apart.
use Rattle.std.proofs.Common.{◌≡◌, ◌≢◌, ℕ, zero, suc, ◌≤◌, ◌<◌, Bool, true, false, not, cond, ◌||◌, ◌&&◌, eqb, List, [], ◌∷◌, ◌++◌, take, drop, refl, sym, ap, ◌∙◌, arith, eq-eqb, ne_eqb, eqb-true}
use Rattle.std.specs.List.{filter, list_any}
use Rattle.nr_laws.proofs.LinkInvariants.{IsUnused, AreAtMost}

pub any_append : {X : Type 0} (p : X → Bool) (xs ys : List X) → list_any p (xs ++ ys) ≡ (list_any p xs || list_any p ys)
any_append p [] ys = refl
any_append p (x ∷ xs) ys = ap (λ (b : Bool). p x || b) (any_append p xs ys) ∙ assoc (p x) (list_any p xs) (list_any p ys)
  where
    assoc : (a b c : Bool) → (a || (b || c)) ≡ ((a || b) || c)
    assoc true b c = refl
    assoc false b c = refl

pub or_left_lem : (a b : Bool) → a ≡ true → (a || b) ≡ true
or_left_lem a b e = ap (λ (x : Bool). x || b) e

pub or_right_lem : (a b : Bool) → b ≡ true → (a || b) ≡ true
or_right_lem true b e = refl
or_right_lem false b e = e

pub any_left : {X : Type 0} (p : X → Bool) (xs ys : List X) → list_any p xs ≡ true → list_any p (xs ++ ys) ≡ true
any_left p xs ys e = any_append p xs ys ∙ or_left_lem (list_any p xs) (list_any p ys) e

pub any_right : {X : Type 0} (p : X → Bool) (xs ys : List X) → list_any p ys ≡ true → list_any p (xs ++ ys) ≡ true
any_right p xs ys e = any_append p xs ys ∙ or_right_lem (list_any p xs) (list_any p ys) e

-- ---- below a number

pub below_more : {X : Type 0} (key : X → ℕ) (n m : ℕ) (xs : List X) → n ≤ m → AreAtMost key n xs → AreAtMost key m xs
below_more key n m [] le h = tt
below_more key n m (x ∷ xs) le h = (omega (arith, le, h.0), below_more key n m xs le h.1)

pub below_append : {X : Type 0} (key : X → ℕ) (n : ℕ) (xs ys : List X) → AreAtMost key n xs → AreAtMost key n ys → AreAtMost key n (xs ++ ys)
below_append key n [] ys h k = k
below_append key n (x ∷ xs) ys h k = (h.0, below_append key n xs ys h.1 k)

pub below_absent : {X : Type 0} (key : X → ℕ) (n m : ℕ) (xs : List X) → n < m → AreAtMost key n xs → IsUnused key m xs
below_absent key n m [] lt h = tt
below_absent key n m (x ∷ xs) lt h = ((λ e. omega (arith, e, lt, h.0)), below_absent key n m xs lt h.1)

pub below_kept : {X : Type 0} (key : X → ℕ) (n : ℕ) (p : X → Bool) (xs : List X) → AreAtMost key n xs → AreAtMost key n (filter p xs)
below_kept key n p [] h = tt
below_kept key n p (x ∷ xs) h = by (p x) (below_kept key n p xs h.1) h.0
  where
    by : (b : Bool) → AreAtMost key n (filter p xs) → key x ≤ n → AreAtMost key n (cond b (x ∷ filter p xs) (filter p xs))
    by true rest le = (le, rest)
    by false rest le = rest

pub below_taken : {X : Type 0} (key : X → ℕ) (n i : ℕ) (xs : List X) → AreAtMost key n xs → AreAtMost key n (take i xs)
below_taken key n zero xs h = tt
below_taken key n (suc i) [] h = tt
below_taken key n (suc i) (x ∷ xs) h = (h.0, below_taken key n i xs h.1)

pub below_dropped : {X : Type 0} (key : X → ℕ) (n i : ℕ) (xs : List X) → AreAtMost key n xs → AreAtMost key n (drop i xs)
below_dropped key n zero xs h = h
below_dropped key n (suc i) [] h = tt
below_dropped key n (suc i) (x ∷ xs) h = below_dropped key n i xs h.1

pub below_at : {X : Type 0} (key : X → ℕ) (n m : ℕ) (q : X → Bool) (xs : List X) → AreAtMost key n xs → list_any (λ x. eqb (key x) m && q x) xs ≡ true → m ≤ n
below_at key n m q [] h e = absurd cc
below_at key n m q (x ∷ xs) h e = by (eqb (key x) m) (q x) refl e (λ rest. below_at key n m q xs h.1 rest)
  where
    by : (b c : Bool) → eqb (key x) m ≡ b → ((b && c) || list_any (λ y. eqb (key y) m && q y) xs) ≡ true → (list_any (λ y. eqb (key y) m && q y) xs ≡ true → m ≤ n) → m ≤ n
    by true true is e more = omega (arith, eqb-true (key x) m is, h.0)
    by true false is e more = more e
    by false c is e more = more e

-- ---- absent

pub absent_none : {X : Type 0} (key : X → ℕ) (m : ℕ) (xs : List X) → IsUnused key m xs → list_any (λ x. eqb (key x) m) xs ≡ false
absent_none key m [] h = refl
absent_none key m (x ∷ xs) h = λ i. ne_eqb (key x) m h.0 i || absent_none key m xs h.1 i

none_absent_by : (n m : ℕ) (rest : Bool) → (eqb n m || rest) ≡ false → (n ≢ m) × (rest ≡ false)
none_absent_by n m rest e = by (eqb n m) refl e
  where
    by : (b : Bool) → eqb n m ≡ b → (b || rest) ≡ false → (n ≢ m) × (rest ≡ false)
    by true is e = absurd cc
    by false is e = ((λ same. differ (sym is ∙ eq-eqb n m same)), e)
      where
        differ : false ≡ true → ⊥
        differ e = absurd cc

pub none_absent : {X : Type 0} (key : X → ℕ) (m : ℕ) (xs : List X) → list_any (λ x. eqb (key x) m) xs ≡ false → IsUnused key m xs
none_absent key m [] e = tt
none_absent key m (x ∷ xs) e = let h = none_absent_by (key x) m (list_any (λ y. eqb (key y) m) xs) e in (h.0, none_absent key m xs h.1)

-- ---- of one number

abbrev pub AreOf : {X : Type 0} → (X → ℕ) → ℕ → List X → Type 0
AreOf key m [] = Unit {0}
AreOf key m (x ∷ xs) = (key x ≡ m) × AreOf key m xs

pub of_absent : {X : Type 0} (key : X → ℕ) (m n : ℕ) (xs : List X) → m ≢ n → AreOf key m xs → IsUnused key n xs
of_absent key m n [] ne h = tt
of_absent key m n (x ∷ xs) ne h = ((λ e. ne (sym h.0 ∙ e)), of_absent key m n xs ne h.1)

pub of_below : {X : Type 0} (key : X → ℕ) (m : ℕ) (xs : List X) → AreOf key m xs → AreAtMost key m xs
of_below key m [] h = tt
of_below key m (x ∷ xs) h = (omega (arith, h.0), of_below key m xs h.1)

pub of_append : {X : Type 0} (key : X → ℕ) (m : ℕ) (xs ys : List X) → AreOf key m xs → AreOf key m ys → AreOf key m (xs ++ ys)
of_append key m [] ys h k = k
of_append key m (x ∷ xs) ys h k = (h.0, of_append key m xs ys h.1 k)

-- more of another number change nothing
pub any_others : {X : Type 0} (key : X → ℕ) (n : ℕ) (xs ys : List X) → IsUnused key n ys → list_any (λ x. eqb (key x) n) (xs ++ ys) ≡ list_any (λ x. eqb (key x) n) xs
any_others key n xs ys h = any_append (λ x. eqb (key x) n) xs ys ∙ ap (λ (b : Bool). list_any (λ x. eqb (key x) n) xs || b) (absent_none key n ys h) ∙ or_false (list_any (λ x. eqb (key x) n) xs)
  where
    or_false : (b : Bool) → (b || false) ≡ b
    or_false true = refl
    or_false false = refl

-- leaving out those of another number changes nothing
pub any_kept : {X : Type 0} (key : X → ℕ) (m n : ℕ) (xs : List X) → m ≢ n → list_any (λ x. eqb (key x) n) (filter (λ x. not (eqb (key x) m)) xs) ≡ list_any (λ x. eqb (key x) n) xs
any_kept key m n [] ne = refl
any_kept key m n (x ∷ xs) ne = by (eqb (key x) m) refl (any_kept key m n xs ne)
  where
    by : (b : Bool) → eqb (key x) m ≡ b → list_any (λ y. eqb (key y) n) (filter (λ y. not (eqb (key y) m)) xs) ≡ list_any (λ y. eqb (key y) n) xs
        → list_any (λ y. eqb (key y) n) (cond (not b) (x ∷ filter (λ y. not (eqb (key y) m)) xs) (filter (λ y. not (eqb (key y) m)) xs)) ≡ (eqb (key x) n || list_any (λ y. eqb (key y) n) xs)
    by true is rest = rest ∙ ap (λ (b : Bool). b || list_any (λ y. eqb (key y) n) xs) (sym (ne_eqb (key x) n (λ e. ne (sym (eqb-true (key x) m is) ∙ e))))
    by false is rest = ap (λ (b : Bool). eqb (key x) n || b) rest
