-- A list without the item at a place.
use Rattle.std.proofs.Common.{◌≡◌, ℕ, zero, suc, ◌+◌, ◌<◌, List, [], ◌∷◌, ◌++◌, length, get_or, All, refl, sym, subst, ap, arith}
use Rattle.std.specs.Prelude.{map}
use Rattle.std.specs.List.{remove}

pub map_removed : {X Y : Type 0} (f : X → Y) (xs : List X) (n : ℕ) → map f (remove xs n) ≡ remove (map f xs) n
map_removed f [] zero = refl
map_removed f [] (suc n) = refl
map_removed f (x ∷ xs) zero = refl
map_removed f (x ∷ xs) (suc n) = ap (λ ys. f x ∷ ys) (map_removed f xs n)

pub length_removed : {X : Type 0} (xs : List X) (n : ℕ) → n < length xs → length (remove xs n) + 1 ≡ length xs
length_removed [] n lt = absurd (omega (arith, lt))
length_removed (x ∷ xs) zero lt = omega arith
length_removed (x ∷ xs) (suc n) lt = (let rest = length_removed xs n (omega (arith, lt)) in omega (arith, rest))

pub all_removed : {X : Type 0} (P : X → Type 0) (xs : List X) (n : ℕ) → All P xs → All P (remove xs n)
all_removed P [] zero all = all
all_removed P [] (suc n) all = all
all_removed P (x ∷ xs) zero all = λ k d lt. all (suc k) d (omega (arith, lt))
all_removed P (x ∷ xs) (suc n) all = by (all_removed P xs n (λ k d lt. all (suc k) d (omega (arith, lt))))
  where
    by : All P (remove xs n) → (k : ℕ) (d : _) → k < length (x ∷ remove xs n) → P (get_or (x ∷ remove xs n) k d)
    by rest zero d lt = all zero d (omega arith)
    by rest (suc k) d lt = rest k d (omega (arith, lt))

pub all_pushed_lem : {X : Type 0} (P : X → Type 0) (xs : List X) (x : X) → All P xs → P x → All P (xs ++ x ∷ [])
all_pushed_lem P [] x all is = λ k d lt. one k d lt
  where
    one : (k : ℕ) (d : _) → k < 1 → P (get_or (x ∷ []) k d)
    one zero d lt = is
    one (suc k) d lt = absurd (omega (arith, lt))
all_pushed_lem P (y ∷ xs) x all is = by (all_pushed_lem P xs x (λ k d lt. all (suc k) d (omega (arith, lt))) is)
  where
    by : All P (xs ++ x ∷ []) → (k : ℕ) (d : _) → k < length (y ∷ (xs ++ x ∷ [])) → P (get_or (y ∷ (xs ++ x ∷ [])) k d)
    by rest zero d lt = all zero d (omega arith)
    by rest (suc k) d lt = rest k d (omega (arith, lt))

pub all_pushed_as : {X : Type 0} (P : X → Type 0) (xs ys : List X) (x : X) → All P xs → P x → ys ≡ xs ++ x ∷ [] → All P ys
all_pushed_as P xs ys x all is same = subst (λ zs. All P zs) (sym same) (all_pushed_lem P xs x all is)
