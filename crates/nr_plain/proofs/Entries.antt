-- Words of a reply that is too short for them.
use Rattle.std.proofs.Common.{◌≡◌, ℕ, zero, suc, ◌+◌, ◌<◌, ◌≤◌, arith, Bool, true, false, eqb, ◌&&◌, List, [], ◌∷◌, length, take, drop, refl, ap, ◌∙◌, ◌⊎◌, inl, inr}
use Rattle.std.specs.Cmp.Lexicographic.{pointwise}
use Rattle.std.proofs.lemmas.List.{length-drop}
use Rattle.nr_xdr.specs.Item.{word}
use Rattle.nr_plain.specs.Added.{has_word}

no_more : (b : Bool) → (b && false) ≡ false
no_more true = refl
no_more false = refl

shorter : (xs ys : List ℕ) → length xs < length ys → pointwise eqb xs ys ≡ false
shorter [] [] lt = absurd (omega (arith, lt))
shorter [] (y ∷ ys) lt = refl
shorter (x ∷ xs) [] lt = absurd (omega (arith, lt))
shorter (x ∷ xs) (y ∷ ys) lt = ap (λ (b : Bool). eqb x y && b) (shorter xs ys (omega (arith, lt))) ∙ no_more (eqb x y)

few : (n : ℕ) (xs : List ℕ) → length (take n xs) ≤ length xs
few zero xs = omega arith
few (suc n) [] = omega arith
few (suc n) (x ∷ xs) = (let rest = few n xs in omega (arith, rest))

pub no_word : (at : ℕ) (bytes : List ℕ) → (at + 4 < at) ⊎ (length bytes < at + 4) → has_word at 0 bytes ≡ false
unfolding word
no_word at bytes (inl lt) = absurd (omega (arith, lt))
no_word at bytes (inr lt) =
    (let back = length-drop at bytes in let front = few 4 (drop at bytes) in shorter (take 4 (drop at bytes)) (0 ∷ 0 ∷ 0 ∷ 0 ∷ []) (omega (arith, lt, back, front)))
