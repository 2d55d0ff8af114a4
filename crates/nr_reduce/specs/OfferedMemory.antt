-- The registered memory of an end, and the regions that it offered.
use Rattle.std.specs.Prelude.{◌≡◌, ℕ, ◌≤◌, Bool, false, ◌==◌, if◌then◌else◌, List, [], ◌∷◌, Option, None, Some, IfSome}
use Rattle.std.specs.List.{find}
use Rattle.nr_regions.specs.RegisteredMemory.{Region as HeldRegion, RegisteredMemory, live_region}
use Rattle.nr_regions.specs.Access.{Grant, TaggedSegment, contents}
use Rattle.nr_reduce.specs.OfferedRegions.{Region, region_grants}

-- the region under an STag
abbrev pub region_at : List Region → ℕ → Option Region
region_at regions stag = find (λ r. r.stag == stag) regions

-- Regions as they come along a run, once this many bytes were received: none begins or ended after that offset, and none has the
-- STag of another.
abbrev pub AreOffered : ℕ → List Region → Type 0
AreOffered place [] = Unit {0}
AreOffered place (r ∷ regions) = (r.from ≤ place) × (IfSome r.until (λ until. until ≤ place) × ((region_at regions r.stag ≡ None) × AreOffered place regions))

-- the peer's tagged segments, once this many bytes were received
abbrev pub AreReceived : ℕ → List TaggedSegment → Type 0
AreReceived place [] = Unit {0}
AreReceived place (received_access ∷ accesses_received) = (received_access.end ≤ place) × AreReceived place accesses_received

-- a region as it is held: with its right, and with what the peer's accesses left in it; one that is closed is not
abbrev pub held_if_open : Option ℕ → HeldRegion → Option HeldRegion
held_if_open None region = Some region
held_if_open (Some until) region = None

abbrev pub registered_region : List Grant → List TaggedSegment → Option Region → Option HeldRegion
registered_region grants accesses_received None = None
registered_region grants accesses_received (Some r) = held_if_open r.until (record { right = r.right; buf = contents grants r.stag r.bytes accesses_received })

-- The memory of an end holds exactly its open regions, once this many bytes were received.
abbrev pub HoldsRegions : List Region → List TaggedSegment → ℕ → RegisteredMemory → Type 0
HoldsRegions regions accesses_received place m = (stag : ℕ) → live_region m stag ≡ registered_region (region_grants place regions) accesses_received (region_at regions stag)

-- whether the region under an STag is closed by a test
abbrev pub is_closed_by : (Region → Bool) → Option Region → Bool
is_closed_by test None = false
is_closed_by test (Some r) = test r

-- the memory in which exactly the regions that pass a test were released
abbrev pub ReleasesClosed : (Region → Bool) → List Region → (before after : RegisteredMemory) → Type 0
ReleasesClosed test regions before after = (stag : ℕ) → live_region after stag ≡ (if is_closed_by test (region_at regions stag) then None else live_region before stag)
