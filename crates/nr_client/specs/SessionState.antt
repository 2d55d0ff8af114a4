-- A session of a client.
use Rattle.std.specs.Prelude.{ℕ}

-- its link, and the user and the group of its calls
pub record SessionState (L : Type 0) : Type 0 where
  pub link : L
  pub uid : ℕ
  pub gid : ℕ
