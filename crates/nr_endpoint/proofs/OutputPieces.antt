-- Pieces of output: each has a byte.
use Rattle.std.proofs.Common.{◌≡◌, ℕ, ◌+◌, ◌^◌, ◌<◌, ◌≤◌, List, [], ◌∷◌, ◌++◌, length, ap, sym, subst, ◌∙◌, arith, length-append}
use Rattle.std.specs.List.{AllByRecursion, concat}
use Rattle.std.proofs.lemmas.List.Folds.{concat-append}
use Rattle.nr_endpoint.specs.private.OutputPieces.{HasBytes, ArePieces}

pub at_most : (pieces : List (List ℕ)) → AllByRecursion HasBytes pieces → length pieces ≤ length (concat pieces)
at_most [] h = omega arith
at_most (piece ∷ pieces) h = (let first = h.0 in omega (arith, first, at_most pieces h.1, length-append piece (concat pieces)))

pub some_piece : (pieces : List (List ℕ)) → 0 < length (concat pieces) → 0 < length pieces
some_piece [] some = omega (arith, some)
some_piece (piece ∷ pieces) some = omega arith

each_appended : (pieces more : List (List ℕ)) → AllByRecursion HasBytes pieces → AllByRecursion HasBytes more → AllByRecursion HasBytes (pieces ++ more)
each_appended [] more h g = g
each_appended (piece ∷ pieces) more h g = (h.0, each_appended pieces more h.1 g)

-- other pieces at the end
pub appended : (pieces more after : List (List ℕ)) (len more_len : ℕ) → after ≡ pieces ++ more → ArePieces pieces len → ArePieces more more_len → len + more_len ≤ 2 ^ 62 → ArePieces after (len + more_len)
appended pieces more after len more_len is h g fits = record {
  each = subst (AllByRecursion HasBytes) (sym is) (each_appended pieces more h.each g.each);
  sum = omega (arith, h.sum, g.sum, ap (λ (xs : List (List ℕ)). length (concat xs)) is, ap (λ (xs : List ℕ). length xs) (concat-append pieces more), length-append (concat pieces) (concat more));
  most = fits;
}

-- a piece that has a byte
pub is_piece : (piece : List ℕ) (len : ℕ) → len ≡ length piece → 0 < len → len ≤ 2 ^ 62 → ArePieces (piece ∷ []) len
is_piece piece len is some fits = record {
  each = (omega (arith, is, some), tt);
  sum = omega (arith, is, length-append piece []);
  most = fits;
}

-- a piece more, which has a byte
pub pushed : (pieces between after : List (List ℕ)) (piece : List ℕ) (len more : ℕ) → between ≡ pieces → after ≡ between ++ piece ∷ [] → more ≡ length piece → 0 < more → ArePieces pieces len → len + more ≤ 2 ^ 62 → ArePieces after (len + more)
pushed pieces between after piece len more same is count some h fits =
    appended pieces (piece ∷ []) after len more (is ∙ ap (λ (xs : List (List ℕ)). xs ++ piece ∷ []) same) h (is_piece piece more count some (omega (arith, fits))) fits
