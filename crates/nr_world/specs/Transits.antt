-- Bytes in transit.
use Rattle.std.specs.Prelude.{ℕ, List}

-- the bytes that wait for a side, and how many bytes are kept for them
pub record TransitState : Type 0 where
  pub waiting : List ℕ
  pub kept : ℕ
