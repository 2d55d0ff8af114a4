-- What a test knows of its endpoint.
use Rattle.std.specs.Prelude.{◌≡◌, ℕ, ◌≤◌, Option, None, IfSome}
use Rattle.nr_regions.specs.RegisteredMemory.{Claim, IsHeld}
use Rattle.nr_endpoint.specs.LinkState.{LinkSide}
use Rattle.nr_endpoint.specs.FedBytes.{fed_bytes}

-- At most `most` bytes were fed, and at least `least`, until the side ends; and the region that the test keeps is registered.
pub record IsCounted (link : LinkSide) (most least : ℕ) (region : Option Claim) : Type 0 where
  pub most_fed : fed_bytes link ≤ most
  pub least_fed : link.state.ended ≡ None → least ≤ fed_bytes link
  pub held : IfSome region (λ claim. IsHeld link.state.memory claim)
