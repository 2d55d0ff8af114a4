-- Lists of entries, sums below a number, and functions with another value at one number.
use Rattle.std.proofs.Common.{◌≡◌, ℕ, zero, suc, ◌+◌, ◌<◌, Bool, true, false, cond, eqb, List, [], ◌∷◌, ◌++◌, Option, Some, refl, ap, sym, ◌∙◌, subst, arith, inl, inr, ◌⊎◌}
use Rattle.std.proofs.lemmas.Bool.{cases_eq, eq-eqb, ne_eqb, eqb-true, eqb-false, cond-true, cond-false}
use Rattle.nr_tree.specs.Entries.{Entry, Each, count, entry_of_name, is_name, list_without}
use Rattle.nr_tree.specs.DirectoryGraph.{sum_below, set, one_if, name_count_in}

pub set_here_lem : {A : Type 0} (k : ℕ) (v : A) (f : ℕ → A) → set k v f k ≡ v
set_here_lem k v f = cond-true (eqb k k) v (f k) (eq-eqb k k refl)

pub set_other : {A : Type 0} (k : ℕ) (v : A) (f : ℕ → A) (q : ℕ) → (q ≡ k → ⊥) → set k v f q ≡ f q
set_other k v f q ne = cond-false (eqb q k) v (f q) (ne_eqb q k ne)

set_same_at : {A : Type 0} (k : ℕ) (v : A) (f : ℕ → A) (q : ℕ) (b : Bool) → eqb q k ≡ b → f k ≡ v → cond b v (f q) ≡ f q
set_same_at k v f q true e here = sym here ∙ ap f (sym (eqb-true q k e))
set_same_at k v f q false e here = refl

-- to set what is there changes nothing
pub set_same : {A : Type 0} (k : ℕ) (v : A) (f : ℕ → A) → f k ≡ v → set k v f ≡ f
set_same k v f here = λ i q. set_same_at k v f q (eqb q k) refl here i

-- what holds of the new value and of the others holds at each number
pub set_all : {A : Type 0} (P : A → Type 0) (k : ℕ) (v : A) (f : ℕ → A) (q : ℕ) → (q ≡ k → P v) → ((q ≡ k → ⊥) → P (f q)) → P (set k v f q)
set_all P k v f q here other = by_test (eqb q k) refl where
  by_test : (b : Bool) → eqb q k ≡ b → P (cond b v (f q))
  by_test true e = here (eqb-true q k e)
  by_test false e = other (eqb-false q k e)

pub sum_below_same : (n : ℕ) (f g : ℕ → ℕ) → ((d : ℕ) → d < n → f d ≡ g d) → sum_below n f ≡ sum_below n g
sum_below_same zero f g h = refl
sum_below_same (suc n) f g h = omega (arith, sum_below_same n f g (λ d lt. h d (omega arith)), h n (omega arith))

sum_step : (n d : ℕ) (f g : ℕ → ℕ) → d < suc n → ((q : ℕ) → (q ≡ d → ⊥) → g q ≡ f q) → (d < n → sum_below n g + f d ≡ sum_below n f + g d) → (d ≡ n) ⊎ (d ≡ n → ⊥)
    → sum_below n g + g n + f d ≡ sum_below n f + f n + g d
sum_step n d f g lt h below (inl e) =
    let low : sum_below n g ≡ sum_below n f = sum_below_same n g f (λ q less. h q (λ z. omega (arith, e, less, z))) in
    rw (e) (omega (arith, low))
sum_step n d f g lt h below (inr ne) = omega (arith, below (omega (arith, ne, lt)), h n (λ z. ne (sym z)))

-- sums of functions that differ at one number
pub sum_below_one_if : (n d : ℕ) (f g : ℕ → ℕ) → d < n → ((q : ℕ) → (q ≡ d → ⊥) → g q ≡ f q) → sum_below n g + f d ≡ sum_below n f + g d
sum_below_one_if zero d f g lt h = absurd (omega arith)
sum_below_one_if (suc n) d f g lt h = sum_step n d f g lt h (λ less. sum_below_one_if n d f g less h) (cases_eq d n)

zero_step : (n d : ℕ) (f : ℕ → ℕ) → sum_below n f + f n ≡ 0 → d < suc n → (d < n → f d ≡ 0) → (d ≡ n) ⊎ (d ≡ n → ⊥) → f d ≡ 0
zero_step n d f e lt below (inl same) = rw (same) (omega (arith, e))
zero_step n d f e lt below (inr ne) = below (omega (arith, ne, lt))

pub sum_below_zero : (n d : ℕ) (f : ℕ → ℕ) → sum_below n f ≡ 0 → d < n → f d ≡ 0
sum_below_zero zero d f e lt = absurd (omega arith)
sum_below_zero (suc n) d f e lt = zero_step n d f e lt (λ less. sum_below_zero n d f (omega (arith, e)) less) (cases_eq d n)

abbrev Part : ℕ → (ℕ → ℕ) → Type 0
Part n f = (d : ℕ) × (d < n) × (0 < f d)

some_step : (n : ℕ) (f : ℕ → ℕ) → 0 < sum_below n f + f n → (0 < sum_below n f → Part n f) → (f n ≡ 0) ⊎ (f n ≡ 0 → ⊥) → Part (suc n) f
some_step n f lt below (inl z) = let r : Part n f = below (omega (arith, z, lt)) in (r.0, omega (arith, r.1), r.2)
some_step n f lt below (inr ne) = (n, omega arith, omega (arith, ne))

-- a sum above 0 has a part above 0
pub sum_below_some : (n : ℕ) (f : ℕ → ℕ) → 0 < sum_below n f → (d : ℕ) × (d < n) × (0 < f d)
sum_below_some zero f lt = absurd (omega arith)
sum_below_some (suc n) f lt = some_step n f lt (λ more. sum_below_some n f more) (cases_eq (f n) 0)

-- ===== each entry

pub Each_map : (P Q : Entry → Type 0) (es : List Entry) → ((e : Entry) → P e → Q e) → Each P es → Each Q es
Each_map P Q [] f h = tt
Each_map P Q (e ∷ es) f h = (f e h.0, Each_map P Q es f h.1)

pub Each_both : (P Q R : Entry → Type 0) (es : List Entry) → ((e : Entry) → P e → Q e → R e) → Each P es → Each Q es → Each R es
Each_both P Q R [] f h k = tt
Each_both P Q R (e ∷ es) f h k = (f e h.0 k.0, Each_both P Q R es f h.1 k.1)

pub Each_append : (P : Entry → Type 0) (es : List Entry) (e : Entry) → Each P es → P e → Each P (es ++ e ∷ [])
Each_append P [] e h p = (p, tt)
Each_append P (x ∷ es) e h p = (h.0, Each_append P es e h.1 p)

without_step : (P : Entry → Type 0) (b : Bool) (e : Entry) (es rest : List Entry) → P e → Each P es → Each P rest → Each P (cond b es (e ∷ rest))
without_step P true e es rest p h k = h
without_step P false e es rest p h k = (p, k)

pub Each_list_without : (P : Entry → Type 0) (name : List ℕ) (es : List Entry) → Each P es → Each P (list_without name es)
Each_list_without P name [] h = tt
Each_list_without P name (e ∷ es) h = without_step P (is_name name e) e es (list_without name es) h.0 h.1 (Each_list_without P name es h.1)

found_step : (P : Entry → Type 0) (b : Bool) (x e : Entry) (o : Option Entry) → cond b (Some x) o ≡ Some e → P x → (o ≡ Some e → P e) → P e
found_step P true x e o s p k = let same : x ≡ e = cc in subst P same p
found_step P false x e o s p k = k s

pub Each_found : (P : Entry → Type 0) (name : List ℕ) (es : List Entry) (e : Entry) → entry_of_name name es ≡ Some e → Each P es → P e
Each_found P name [] e found h = absurd cc
Each_found P name (x ∷ es) e found h = found_step P (is_name name x) x e (entry_of_name name es) found h.0 (λ s. Each_found P name es e s h.1)

pub count_append : (test : Entry → Bool) (es : List Entry) (e : Entry) → count test (es ++ e ∷ []) ≡ count test es + one_if (test e)
count_append test [] e = omega arith
count_append test (x ∷ es) e = omega (arith, count_append test es e)

count_step : (test : Entry → Bool) (b : Bool) (x e : Entry) (es rest : List Entry) (o : Option Entry) → cond b (Some x) o ≡ Some e → (o ≡ Some e → count test rest + one_if (test e) ≡ count test es)
    → count test (cond b es (x ∷ rest)) + one_if (test e) ≡ one_if (test x) + count test es
count_step test true x e es rest o s k = let same : x ≡ e = cc in rw (same) (omega arith)
count_step test false x e es rest o s k = omega (arith, k s)

pub count_list_without : (test : Entry → Bool) (name : List ℕ) (es : List Entry) (e : Entry) → entry_of_name name es ≡ Some e → count test (list_without name es) + one_if (test e) ≡ count test es
count_list_without test name [] e found = absurd cc
count_list_without test name (x ∷ es) e found = count_step test (is_name name x) x e es (list_without name es) (entry_of_name name es) found (count_list_without test name es e)

pub count_same : (f g : Entry → Bool) (es : List Entry) → Each (λ e. f e ≡ g e) es → count f es ≡ count g es
count_same f g [] h = refl
count_same f g (e ∷ es) h = omega (arith, ap one_if h.0, count_same f g es h.1)

not_counted : (n : ℕ) (e : Entry) (rest : ℕ) (b : Bool) → eqb e.number n ≡ b → one_if b + rest ≡ 0 → e.number ≡ n → ⊥
not_counted n e rest true t z same = omega (arith, z)
not_counted n e rest false t z same = eqb-false e.number n t same

-- if no entry is counted, none passes
pub count_none : (n : ℕ) (es : List Entry) → name_count_in es n ≡ 0 → Each (λ e. e.number ≡ n → ⊥) es
count_none n [] z = tt
count_none n (e ∷ es) z = (not_counted n e (name_count_in es n) (eqb e.number n) refl z, count_none n es (omega (arith, z)))

abbrev PassedRules : (Entry → Type 0) → ℕ → Type 0
PassedRules P n = (e : Entry) × (e.number ≡ n) × P e

counted : (P : Entry → Type 0) (n : ℕ) (e : Entry) (rest : ℕ) (b : Bool) → eqb e.number n ≡ b → 0 < one_if b + rest → P e → (0 < rest → PassedRules P n) → PassedRules P n
counted P n e rest true t lt p k = (e, eqb-true e.number n t, p)
counted P n e rest false t lt p k = k (omega (arith, lt))

-- if an entry is counted, one passes
pub count_some : (P : Entry → Type 0) (n : ℕ) (es : List Entry) → 0 < name_count_in es n → Each P es → (e : Entry) × (e.number ≡ n) × P e
count_some P n [] lt h = absurd (omega arith)
count_some P n (e ∷ es) lt h = counted P n e (name_count_in es n) (eqb e.number n) refl lt h.0 (λ more. count_some P n es more h.1)
