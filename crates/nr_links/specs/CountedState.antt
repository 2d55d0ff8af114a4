-- Half of a link over TCP or in memory.
use Rattle.std.specs.Prelude.{ℕ}

-- what is read from or written into, how many calls failed, and the number of the link
pub record CountedState (T : Type 0) : Type 0 where
  pub inner : T
  pub faults : ℕ
  pub link : ℕ
