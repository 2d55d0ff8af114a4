-- A side as its endpoint sees it: its state, the room of its regions, and the bytes outside of them.
use Rattle.std.specs.Ordering.{nat_cmp}
use Rattle.std.specs.FinMap.{FinMap}
use Rattle.std.proofs.Common.{◌≡◌, ℕ}
use Rattle.nr_regions.specs.RegisteredMemory.{Outside}
use Rattle.nr_endpoint.specs.EndpointState.{LinkView}
use Rattle.nr_endpoint.specs.LinkState.{LinkState}

abbrev pub side_of : ℕ → FinMap nat_cmp Outside → LinkState → LinkView
side_of room outside s = record { state = s; room = room; outside = outside }

pub same_side : {s t : LinkState} (room : ℕ) (outside : FinMap nat_cmp Outside) → s ≡ t → side_of room outside s ≡ side_of room outside t
same_side room outside e = λ i. side_of room outside (e i)
