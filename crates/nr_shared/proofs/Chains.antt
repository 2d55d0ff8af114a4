-- Links of a history, one after another.
use Rattle.std.proofs.Common.{◌≡◌, ◌⊎◌, inl, inr, ⊎_elim, unwrap_or, ℕ, suc, ◌+◌, arith, Bool, true, false, if◌then◌else◌, List, [], ◌∷◌, ◌++◌, length, Option, Some, None, refl, sym, ap, subst, ◌∙◌}
use Rattle.std.specs.List.{AllByRecursion}
use mathlib.Core.Option.{some}
use lib.ListN.{get_elem?}
use Rattle.nr_turnstile.specs.Rule.{IsIn}
use Rattle.nr_shared.specs.Chains.{last_from, last_place, ChainedFrom, Chained}

module _ {E : Type 0} (is_such : E → Bool) where
  abbrev last : ℕ → Option ℕ → List E → Option ℕ
  last = last_from is_such

  -- the last such place of two lists
  pub last_both : (n : ℕ) (found : Option ℕ) (xs ys : List E) → last n found (xs ++ ys) ≡ last (n + length xs) (last n found xs) ys
  last_both n found [] ys = let e : n ≡ n + 0 = omega arith in ap (λ k. last k found ys) e
  last_both n found (x ∷ xs) ys = let e : suc n + length xs ≡ n + suc (length xs) = omega arith in
      last_both (suc n) (if is_such x then Some n else found) xs ys ∙ ap (λ k. last k (last (suc n) (if is_such x then Some n else found) xs) ys) e

  -- with one entry more
  pub last_end : (xs : List E) (e : E) → last_place is_such (xs ++ e ∷ []) ≡ (if is_such e then Some (length xs) else last_place is_such xs)
  last_end xs e = let n : 0 + length xs ≡ length xs = omega arith in last_both 0 None xs (e ∷ []) ∙ ap (λ k. last k (last 0 None xs) (e ∷ [])) n

-- entries none of which is such
pub last_none : {E : Type 0} (is_such : E → Bool) (n : ℕ) (found : Option ℕ) (es : List E) → AllByRecursion (λ e. is_such e ≡ false) es → last_from is_such n found es ≡ found
last_none is_such n found [] all = refl
last_none is_such n found (e ∷ es) all = last_none is_such (suc n) (if is_such e then Some n else found) es all.1 ∙ ap (λ b. if b then Some n else found) all.0

pub last_same : {E : Type 0} (is_such : E → Bool) (xs es : List E) → AllByRecursion (λ e. is_such e ≡ false) es → last_place is_such (xs ++ es) ≡ last_place is_such xs
last_same is_such xs es all = last_both is_such 0 None xs es ∙ last_none is_such (0 + length xs) (last_from is_such 0 None xs) es all

-- what was found last is before these entries, or one of them
abbrev pub FoundAt : {E : Type 0} → (E → Bool) → ℕ → List E → ℕ → Type 0
FoundAt {E} is_such n xs k = (j : ℕ) × (e : E) × (k ≡ n + j) × (get_elem? xs j ≡ some e) × (is_such e ≡ true)

later_found : {E : Type 0} (is_such : E → Bool) (n : ℕ) (x : E) (xs : List E) (k : ℕ) → FoundAt is_such (suc n) xs k → FoundAt is_such n (x ∷ xs) k
later_found is_such n x xs k (j, e, is, at, own) = (suc j, e, omega (arith, is), at, own)

first_found : {E : Type 0} (is_such : E → Bool) (n : ℕ) (found : Option ℕ) (x : E) (xs : List E) (k : ℕ) (b : Bool) → is_such x ≡ b → (if b then Some n else found) ≡ Some k → (found ≡ Some k) ⊎ FoundAt is_such n (x ∷ xs) k
first_found is_such n found x xs k true own is = let same : n ≡ k = ap (λ (o : Option ℕ). unwrap_or o 0) is in inr (0, x, omega (arith, same), refl, own)
first_found is_such n found x xs k false own is = inl is

pub last_found : {E : Type 0} (is_such : E → Bool) (n : ℕ) (found : Option ℕ) (xs : List E) (k : ℕ) → last_from is_such n found xs ≡ Some k → (found ≡ Some k) ⊎ FoundAt is_such n xs k
last_found is_such n found [] k is = inl is
last_found is_such n found (x ∷ xs) k is = ⊎_elim
    (λ e. first_found is_such n found x xs k (is_such x) refl e)
    (λ f. inr (later_found is_such n x xs k f))
    (last_found is_such (suc n) (if is_such x then Some n else found) xs k is)

true_false : true ≡ false → ⊥
true_false e = absurd cc

module _ {E : Type 0} (closes : E → Option ℕ) (is_link : E → Bool) where
  abbrev From : ℕ → Option ℕ → List E → Type 0
  From = ChainedFrom closes is_link

  -- one entry more
  pub chained_end : (n : ℕ) (found : Option ℕ) (xs : List E) (e : E) → From n found xs → (is_link e ≡ true → closes e ≡ last_from is_link n found xs) → From n found (xs ++ e ∷ [])
  chained_end n found [] e all next = (next, tt)
  chained_end n found (x ∷ xs) e all next = (all.0, chained_end (suc n) (if is_link x then Some n else found) xs e all.1 next)

  -- what follows a beginning
  pub chained_rest : (n : ℕ) (found : Option ℕ) (xs ys : List E) → From n found (xs ++ ys) → From (n + length xs) (last_from is_link n found xs) ys
  chained_rest n found [] ys all = let e : n ≡ n + 0 = omega arith in subst (λ k. From k found ys) e all
  chained_rest n found (x ∷ xs) ys all = let e : suc n + length xs ≡ n + suc (length xs) = omega arith in
      subst (λ k. From k (last_from is_link (suc n) (if is_link x then Some n else found) xs) ys) e (chained_rest (suc n) (if is_link x then Some n else found) xs ys all.1)

  -- where nothing closes the last link, no link follows
  none_after : (n k : ℕ) (ys : List E) → From n (Some k) ys → ((e : E) → IsIn e ys → is_link e ≡ true → ¬ (closes e ≡ Some k)) → AllByRecursion (λ e. is_link e ≡ false) ys
  none_after n k [] all none = tt
  none_after n k (y ∷ ys) all none = by_link (is_link y) refl (λ is. none_after (suc n) k ys (subst (λ b. From (suc n) (if b then Some n else Some k) ys) is all.1) (λ e i. none e (suc i.0, i.1))) where
    by_link : (b : Bool) → is_link y ≡ b → (is_link y ≡ false → AllByRecursion (λ e. is_link e ≡ false) ys) → AllByRecursion (λ e. is_link e ≡ false) (y ∷ ys)
    by_link true is later = absurd (none y (0, refl) is (all.0 is))
    by_link false is later = (is, later is)

  pub no_link_after : (xs ys : List E) (k : ℕ) → Chained closes is_link (xs ++ ys) → last_place is_link xs ≡ Some k → ((e : E) → IsIn e ys → is_link e ≡ true → ¬ (closes e ≡ Some k)) → AllByRecursion (λ e. is_link e ≡ false) ys
  no_link_after xs ys k all is none = none_after (0 + length xs) k ys (subst (λ o. From (0 + length xs) o ys) is (chained_rest 0 None xs ys all)) none

  -- without links
  pub unchained : (n : ℕ) (found : Option ℕ) (es : List E) → AllByRecursion (λ e. is_link e ≡ false) es → From n found es
  unchained n found [] all = tt
  unchained n found (e ∷ es) all = ((λ is. absurd (true_false (sym is ∙ all.0))), unchained (suc n) (if is_link e then Some n else found) es all.1)
