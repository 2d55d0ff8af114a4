-- Sums of sizes of items that have numbers.
use Rattle.std.proofs.Common.{◌≡◌, ◌≢◌, ℕ, zero, suc, ◌+◌, ◌<◌, ◌≤◌, Bool, true, false, not, ◌||◌, eqb, cond, List, [], ◌∷◌, ◌++◌, length, get_or, set, refl, sym, ap, ◌∙◌, arith}
use Rattle.std.specs.List.{AllByRecursion, list_any, filter, remove}
use Rattle.std.proofs.lemmas.Bool.{eq-eqb, ne_eqb}
use Rattle.nr_responder.specs.HeldBytes.{sizes, share}

-- so many times a number
abbrev pub most_of : {X : Type 0} → ℕ → List X → ℕ
most_of most [] = 0
most_of most (x ∷ xs) = most + most_of most xs

pub sizes_append : {X : Type 0} (size : X → ℕ) (xs ys : List X) → sizes size (xs ++ ys) ≡ sizes size xs + sizes size ys
sizes_append size [] ys = omega arith
sizes_append size (x ∷ xs) ys = (let rest = sizes_append size xs ys in omega (arith, rest))

pub share_append : {X : Type 0} (number size : X → ℕ) (n : ℕ) (xs ys : List X) → share number size n (xs ++ ys) ≡ share number size n xs + share number size n ys
share_append number size n [] ys = omega arith
share_append number size n (x ∷ xs) ys = (let rest = share_append number size n xs ys in omega (arith, rest))

-- the items with other numbers
abbrev pub others : {X : Type 0} → (number : X → ℕ) → ℕ → List X → List X
others number n xs = filter (λ x. not (eqb (number x) n)) xs

share_split : {X : Type 0} (number size : X → ℕ) (n : ℕ) (xs : List X) → sizes size xs ≡ share number size n xs + sizes size (others number n xs)
share_split number size n [] = omega arith
share_split number size n (x ∷ xs) = by (eqb (number x) n) (share_split number size n xs)
  where
    by : (b : Bool) → sizes size xs ≡ share number size n xs + sizes size (others number n xs) →
        size x + sizes size xs ≡ (cond b (size x) 0 + share number size n xs) + sizes size (cond (not b) (x ∷ others number n xs) (others number n xs))
    by true rest = omega (arith, rest)
    by false rest = omega (arith, rest)

pub share_filtered : {X : Type 0} (number size : X → ℕ) (n : ℕ) (p : X → Bool) (xs : List X) → share number size n (filter p xs) ≤ share number size n xs
share_filtered number size n p [] = omega arith
share_filtered number size n p (x ∷ xs) = by (p x) (share_filtered number size n p xs)
  where
    by : (b : Bool) → share number size n (filter p xs) ≤ share number size n xs → share number size n (cond b (x ∷ filter p xs) (filter p xs)) ≤ cond (eqb (number x) n) (size x) 0 + share number size n xs
    by true rest = omega (arith, rest)
    by false rest = omega (arith, rest)

-- an item's number is among these
abbrev pub IsOwned : {X : Type 0} → (number : X → ℕ) → List ℕ → X → Type 0
IsOwned number owners x = list_any (λ m. eqb (number x) m) owners ≡ true

others_owned : {X : Type 0} (number : X → ℕ) (n : ℕ) (owners : List ℕ) (xs : List X) → AllByRecursion (IsOwned number (n ∷ owners)) xs → AllByRecursion (IsOwned number owners) (others number n xs)
others_owned number n owners [] h = tt
others_owned number n owners (x ∷ xs) h = by (eqb (number x) n) refl (others_owned number n owners xs h.1)
  where
    by : (b : Bool) → eqb (number x) n ≡ b → AllByRecursion (IsOwned number owners) (others number n xs) → AllByRecursion (IsOwned number owners) (cond (not b) (x ∷ others number n xs) (others number n xs))
    by true e rest = rest
    by false e rest = (ap (λ (b : Bool). b || list_any (λ m. eqb (number x) m) owners) (sym e) ∙ h.0, rest)

-- If each item's number is among these, and those with one number have at most so much, all have at most so much for each number.
pub owned_total : {X : Type 0} (number size : X → ℕ) (most : ℕ) (owners : List ℕ) (xs : List X) → AllByRecursion (IsOwned number owners) xs → ((n : ℕ) → share number size n xs ≤ most) → sizes size xs ≤ most_of most owners
owned_total number size most [] [] h each = omega arith
owned_total number size most [] (x ∷ xs) h each = absurd (let wrong : false ≡ true = h.0 in cc)
owned_total number size most (n ∷ owners) xs h each =
    let split = share_split number size n xs in
    let own = each n in
    let rest = owned_total number size most owners (others number n xs) (others_owned number n owners xs h) (λ m. (let a = share_filtered number size m (λ x. not (eqb (number x) n)) xs in let b = each m in omega (arith, a, b))) in
    omega (arith, split, own, rest)

pub most_append : {X : Type 0} (most : ℕ) (xs ys : List X) → most_of most (xs ++ ys) ≡ most_of most xs + most_of most ys
most_append most [] ys = omega arith
most_append most (x ∷ xs) ys = (let rest = most_append most xs ys in omega (arith, rest))

-- ---- One item

-- the part of one item
abbrev pub part_of : {X : Type 0} → (number size : X → ℕ) → ℕ → X → ℕ
part_of number size n x = cond (eqb (number x) n) (size x) 0

pub part_own : {X : Type 0} (number size : X → ℕ) (n : ℕ) (x : X) → number x ≡ n → part_of number size n x ≡ size x
part_own number size n x same = ap (λ (b : Bool). cond b (size x) 0) (eq-eqb (number x) n same)

pub part_other : {X : Type 0} (number size : X → ℕ) (n : ℕ) (x : X) → number x ≢ n → part_of number size n x ≡ 0
part_other number size n x ne = ap (λ (b : Bool). cond b (size x) 0) (ne_eqb (number x) n ne)

pub part_less : {X : Type 0} (number size : X → ℕ) (n : ℕ) (x y : X) → number x ≡ number y → size x ≤ size y → part_of number size n x ≤ part_of number size n y
part_less number size n x y same le = (let is = ap (λ (m : ℕ). cond (eqb m n) (size x) 0) same in let few = by (eqb (number y) n) in omega (arith, is, few))
  where
    by : (b : Bool) → cond b (size x) 0 ≤ cond b (size y) 0
    by true = le
    by false = omega arith

pub share_pushed : {X : Type 0} (number size : X → ℕ) (n : ℕ) (xs : List X) (x : X) → share number size n (xs ++ x ∷ []) ≡ share number size n xs + part_of number size n x
share_pushed number size n xs x = (let sum = share_append number size n xs (x ∷ []) in omega (arith, sum))

pub share_removed : {X : Type 0} (number size : X → ℕ) (n : ℕ) (xs : List X) (at : ℕ) (d : X) → at < length xs → share number size n (remove xs at) + part_of number size n (get_or xs at d) ≡ share number size n xs
share_removed number size n [] at d lt = absurd (omega (arith, lt))
share_removed number size n (x ∷ xs) zero d lt = omega arith
share_removed number size n (x ∷ xs) (suc at) d lt = (let rest = share_removed number size n xs at d (omega (arith, lt)) in omega (arith, rest))

pub share_set : {X : Type 0} (number size : X → ℕ) (n : ℕ) (xs : List X) (at : ℕ) (y d : X) → at < length xs → share number size n (set xs at y) + part_of number size n (get_or xs at d) ≡ share number size n xs + part_of number size n y
share_set number size n [] at y d lt = absurd (omega (arith, lt))
share_set number size n (x ∷ xs) zero y d lt = omega arith
share_set number size n (x ∷ xs) (suc at) y d lt = (let rest = share_set number size n xs at y d (omega (arith, lt)) in omega (arith, rest))

pub share_none : {X : Type 0} (number size : X → ℕ) (n : ℕ) (xs : List X) → list_any (λ x. eqb (number x) n) xs ≡ false → share number size n xs ≡ 0
share_none number size n [] none = omega arith
share_none number size n (x ∷ xs) none = by (eqb (number x) n) (share_none number size n xs) none
  where
    by : (b : Bool) → (list_any (λ y. eqb (number y) n) xs ≡ false → share number size n xs ≡ 0) → (b || list_any (λ y. eqb (number y) n) xs) ≡ false → cond b (size x) 0 + share number size n xs ≡ 0
    by true rest e = absurd (let wrong : true ≡ false = e in cc)
    by false rest e = (let none = rest e in omega (arith, none))

-- if no item has the number, they have no size
pub share_empty : {X : Type 0} (number size : X → ℕ) (n : ℕ) (xs : List X) → share number (λ x. 1) n xs ≡ 0 → share number size n xs ≡ 0
share_empty number size n [] none = omega arith
share_empty number size n (x ∷ xs) none = by (eqb (number x) n) (share_empty number size n xs) none
  where
    by : (b : Bool) → (share number (λ y. 1) n xs ≡ 0 → share number size n xs ≡ 0) → cond b 1 0 + share number (λ y. 1) n xs ≡ 0 → cond b (size x) 0 + share number size n xs ≡ 0
    by true rest e = absurd (omega (arith, e))
    by false rest e = (let none = rest (omega (arith, e)) in omega (arith, none))
