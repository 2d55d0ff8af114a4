-- Adapters of std's sockets.
use Rattle.std.specs.Prelude.{ℕ, Bool}

-- the fault count and the count of lost links of a dialer, and the number of its next link
pub record DialerState : Type 0 where
  pub faults : ℕ
  pub lost : ℕ
  pub next : ℕ

-- those of an acceptor, and whether it listens
pub record AcceptorState : Type 0 where
  pub faults : ℕ
  pub lost : ℕ
  pub next : ℕ
  pub listens : Bool
