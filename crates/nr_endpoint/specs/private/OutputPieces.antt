-- In how many pieces output is kept.
use Rattle.std.specs.Prelude.{◌≡◌, ℕ, ◌^◌, ◌<◌, ◌≤◌, List, length}
use Rattle.std.specs.List.{AllByRecursion, concat}

abbrev pub HasBytes : List ℕ → Type 0
HasBytes piece = 0 < length piece

-- Each piece has a byte, so they are at most as many as their bytes, of which there are `len`.
pub record ArePieces (pieces : List (List ℕ)) (len : ℕ) : Type 0 where
  pub each : AllByRecursion HasBytes pieces
  pub sum : len ≡ length (concat pieces)
  pub most : len ≤ 2 ^ 62
