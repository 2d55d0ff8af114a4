-- The history that a counter stands for, by its count and its sum.
use Rattle.std.specs.Prelude.{◌≡◌, ℕ, List, length, sum, Option, None}

abbrev pub IsCounted : ℕ → ℕ → List ℕ → Type 0
IsCounted count total h = (count ≡ length h) × (total ≡ sum h)

abbrev pub closes_none : ℕ → Option ℕ
closes_none e = None
