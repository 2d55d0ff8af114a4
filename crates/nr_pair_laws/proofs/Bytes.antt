-- Bytes that are written one piece after another, and read so.
use Rattle.std.proofs.Common.{◌≡◌, ℕ, zero, suc, ◌+◌, ◌-◌, ◌≤◌, min, List, [], ◌∷◌, ◌++◌, length, replicate, take, drop, refl, ap, sym, ◌∙◌, arith, append-nil, length-take, length-drop}
use Rattle.std.proofs.lemmas.List.{drop_all, take-take}
use Rattle.nr_tree.specs.Bytes.{with_bytes_at, with_length}

-- the first bytes, and then some more
pub take_more : {A : Type 0} (n m : ℕ) (xs : List A) → take n xs ++ take m (drop n xs) ≡ take (n + m) xs
take_more zero m xs = let none : 0 + m ≡ m = omega arith in ap (λ (k : ℕ). take k xs) (sym none)
take_more (suc n) zero [] = let sum : suc n + 0 ≡ suc n = omega arith in ap (λ (k : ℕ). take k []) (sym sum)
take_more (suc n) (suc m) [] = let sum : suc n + suc m ≡ suc (n + suc m) = omega arith in ap (λ (k : ℕ). take k []) (sym sum)
take_more (suc n) m (x ∷ xs) = let sum : suc n + m ≡ suc (n + m) = omega arith in ap (λ (l : List _). x ∷ l) (take_more n m xs) ∙ ap (λ (k : ℕ). take k (x ∷ xs)) (sym sum)

-- as many bytes as there are of a piece
pub take_piece : {A : Type 0} (n : ℕ) (xs : List A) → take (length (take n xs)) xs ≡ take n xs
take_piece zero xs = refl
take_piece (suc n) [] = refl
take_piece (suc n) (x ∷ xs) = ap (λ (l : List _). x ∷ l) (take_piece n xs)

-- a piece of the rest after the first bytes
pub next_piece : (n m : ℕ) (xs : List ℕ) → take n xs ++ take m (drop n xs) ≡ take (n + length (take m (drop n xs))) xs
next_piece n m xs = ap (λ (l : List ℕ). take n xs ++ l) (sym (take_piece m (drop n xs))) ∙ take_more n (length (take m (drop n xs))) xs

-- The next piece is written after the first bytes.
pub piece_added : (whole : List ℕ) (at m : ℕ) → at ≤ length whole → with_bytes_at (take at whole) at (take m (drop at whole)) ≡ take (at + length (take m (drop at whole))) whole
piece_added whole at m within =
    let piece = take m (drop at whole) in
    let size : length (take at whole) ≡ at = (let cut = length-take at whole in omega (arith, cut, within)) in
    let full : at - length (take at whole) ≡ 0 = omega (arith, size) in
    let front : with_length (take at whole) at ≡ take at whole =
    ap (λ (n : ℕ). take at (take at whole) ++ replicate {A = ℕ} n 0) full ∙ append-nil (take at (take at whole)) ∙ take-take at at whole (omega arith) in
    let none : drop (at + length piece) (take at whole) ≡ [] = drop_all (at + length piece) (take at whole) (omega (arith, size)) in
    ap (λ (l : List ℕ). l ++ (piece ++ drop (at + length piece) (take at whole))) front
    ∙ ap (λ (l : List ℕ). take at whole ++ (piece ++ l)) none
    ∙ ap (λ (l : List ℕ). take at whole ++ l) (append-nil piece)
    ∙ next_piece at m whole

-- how many bytes a piece of the rest has
pub piece_length : (whole : List ℕ) (at m : ℕ) → length (take m (drop at whole)) ≡ min m (length whole - at)
piece_length whole at m = let cut = length-take m (drop at whole) in let rest = length-drop at whole in omega (arith, cut, rest)
