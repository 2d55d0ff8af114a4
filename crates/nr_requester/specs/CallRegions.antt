-- The regions of a call in the state of its client: those that its plan offers, in the order in which they are offered.
use Rattle.std.specs.Prelude.{◌≡◌, ℕ, ◌<◌, ◌==◌, List, map}
use Rattle.std.specs.List.{AllByRecursion, filter}
use Rattle.nr_reduce.specs.Plans.{Buffer, buffers}
use Rattle.nr_reduce.specs.OfferedRegions.{Region}
use Rattle.nr_reduce.specs.ClientState.{ClientState, OutstandingCall}
use Rattle.nr_reduce.specs.KeptCalls.{numbered_calls}

-- the STags of the regions of a call
abbrev pub call_stags : ℕ → List Region → List ℕ
call_stags xid regions = map (λ r. r.stag) (filter (λ r. r.call == xid) regions)

abbrev pub AreOfBefore : ℕ → List Region → Type 0
AreOfBefore next rs = AllByRecursion (λ (r : Region). r.call < next) rs

-- the regions of a call are those of its plan
abbrev pub OffersPlan : ℕ → List Region → OutstandingCall → Type 0
OffersPlan next regions o = (o.xid < next) × (call_stags o.xid regions ≡ map (λ (b : Buffer). b.stag) (buffers o.stag o.plan))

-- every region is of a call that was accepted, and those of a call that is outstanding, or waits to be sent again, are those of its plan
pub record CallsOffer (next : ℕ) (k : ClientState) : Type 0 where
  pub before : AreOfBefore next k.regions
  pub calls : AllByRecursion (OffersPlan next k.regions) (numbered_calls k)
