-- The registered memory of an end follows the regions that it offered, from event to event.
use Rattle.std.specs.Prelude.{◌≡◌, ℕ, ◌<◌, ◌≤◌, Bool, List, [], ◌∷◌, ◌++◌, None, Some}
use Rattle.nr_regions.specs.RegisteredMemory.{RegisteredMemory, Access, denial, after_register}
use Rattle.nr_regions.specs.Access.{TaggedSegment, grant_denial}
use Rattle.nr_regions.specs.Events.{after_event}
use Rattle.nr_regions.specs.Events.MemoryEvent.{Arrive}
use Rattle.nr_reduce.specs.OfferedRegions.{Region, region_grants, regions_closed}
use Rattle.nr_reduce.specs.OfferedMemory.{region_at, AreOffered, AreReceived, HoldsRegions, ReleasesClosed}

-- What an access to this memory lacks is what it lacks of the grants, for every frame that ends later.
abbrev pub MemoryDeniesAlike : Type 0
MemoryDeniesAlike = (regions : List Region) (accesses_received : List TaggedSegment) (place end : ℕ) (m : RegisteredMemory) (access : Access) →
    AreOffered place regions → HoldsRegions regions accesses_received place m → place < end → denial m access ≡ grant_denial (region_grants end regions) access end

-- It doesn't change while more bytes are received.
abbrev pub MemoryStands : Type 0
MemoryStands = (regions : List Region) (accesses_received : List TaggedSegment) (place later : ℕ) (m : RegisteredMemory) → place ≤ later → AreReceived place accesses_received →
    HoldsRegions regions accesses_received place m → HoldsRegions regions accesses_received later m

-- A tagged segment that lacks nothing is placed.
abbrev pub MemoryTakesAccess : Type 0
MemoryTakesAccess = (regions : List Region) (accesses_received : List TaggedSegment) (place : ℕ) (m : RegisteredMemory) (received_access : TaggedSegment) → AreOffered place regions → AreReceived place accesses_received →
    ((stag : ℕ) (r : Region) → region_at regions stag ≡ Some r → stag < m.next) → place < received_access.end → HoldsRegions regions accesses_received place m →
    HoldsRegions regions (accesses_received ++ received_access ∷ []) received_access.end (after_event m (Arrive received_access))

-- Regions that are released are closed.
abbrev pub MemoryClosesRegions : Type 0
MemoryClosesRegions = (test : Region → Bool) (regions : List Region) (accesses_received : List TaggedSegment) (place later : ℕ) (m after : RegisteredMemory) → place ≤ later → AreReceived place accesses_received →
    ReleasesClosed test regions m after → HoldsRegions regions accesses_received place m → HoldsRegions (regions_closed test later regions) accesses_received later after

-- A region that is registered is offered, from the bytes on that were received.
abbrev pub MemoryRegisters : Type 0
MemoryRegisters = (regions : List Region) (accesses_received : List TaggedSegment) (place : ℕ) (m : RegisteredMemory) (r : Region) → AreReceived place accesses_received → region_at regions m.next ≡ None →
    r.stag ≡ m.next → r.from ≡ place → r.until ≡ None → HoldsRegions regions accesses_received place m → HoldsRegions (regions ++ r ∷ []) accesses_received place (after_register m r.right r.bytes)

-- ---- The regions and accesses themselves

abbrev pub AccessesGoOn : Type 0
AccessesGoOn = (place : ℕ) (accesses_received : List TaggedSegment) (received_access : TaggedSegment) → place ≤ received_access.end → AreReceived place accesses_received → AreReceived received_access.end (accesses_received ++ received_access ∷ [])

abbrev pub RegionsGoOn : Type 0
RegionsGoOn = (place later : ℕ) (regions : List Region) → place ≤ later → AreOffered place regions → AreOffered later regions

abbrev pub RegionsClose : Type 0
RegionsClose = (test : Region → Bool) (place later : ℕ) (regions : List Region) → place ≤ later → AreOffered place regions → AreOffered later (regions_closed test later regions)

abbrev pub RegionsRegister : Type 0
RegionsRegister = (place : ℕ) (regions : List Region) (r : Region) → r.from ≤ place → r.until ≡ None → region_at regions r.stag ≡ None → AreOffered place regions → AreOffered place (regions ++ r ∷ [])
