-- The hash map of the code as finite maps, and what the fields of `Regions` keep.
use Rattle.std.specs.Prelude.{◌≡◌, ℕ, ◌*◌, ◌^◌, ◌≤◌, Bool, false, if◌then◌else◌, List, map, length, Option, None, Some, is_none, unwrap_or}
use Rattle.std.specs.Ordering.{nat_cmp}
use Rattle.std.specs.HashMap.{HashMap}
use Rattle.std.specs.List.{sum_by}
use Rattle.std.specs.FinMap.{FinMap, from_entries, contains_key, get, values}
use Rattle.nr_regions.specs.declared.held.HeldBuffer.{HeldBuffer}
use Rattle.nr_regions.specs.declared.right.Right.{Right}
use Rattle.nr_regions.specs.declared.denied.Denied.{Denied}
use Rattle.nr_regions.specs.declared.denied.Denied.TheVariants.{NoStag}
use Rattle.nr_regions.specs.RegisteredMemory.{Region, Outside, outside_len}

-- the region of a buffer that is held
abbrev pub region_of : HeldBuffer → Region
region_of held = record { right = held.right; buf = held.window.bytes }

abbrev pub region_len : Region → ℕ
region_len region = length region.buf

-- the bytes of a buffer that is held, outside its region
abbrev pub outside_of : HeldBuffer → Outside
outside_of held = held.window.outside

-- whether a Send of the peer invalidated its STag
abbrev pub is_dead_of : HeldBuffer → Bool
is_dead_of held = held.is_dead

-- what a peer reaches of a buffer that is held: nothing if it is dead
abbrev pub live_offer : HeldBuffer → Option (Right × ℕ)
live_offer held = if held.is_dead then None else Some (held.right, length held.window.bytes)

-- the region under an STag that a peer reaches, by the dead ones and by the regions that are held
abbrev pub live_in : FinMap nat_cmp Bool → FinMap nat_cmp Region → ℕ → Option Region
live_in dead held stag = if unwrap_or (get dead stag) false then None else get held stag

-- why an STag can't be invalidated
abbrev pub not_live : Option Region → Option Denied
not_live region = if is_none region then Some NoStag else None

-- what is said of each buffer, by its STag
abbrev pub mapped_entries : {X : Type 0} → (HeldBuffer → X) → List (ℕ × HeldBuffer) → List (ℕ × X)
mapped_entries f es = map (λ e. (e.0, f e.1)) es

abbrev pub mapped : {S X : Type 0} → (HeldBuffer → X) → HashMap ℕ HeldBuffer S → FinMap nat_cmp X
mapped f m = from_entries (mapped_entries f m.entries)

-- the regions, and the bytes outside of them
abbrev pub table : {S : Type 0} → HashMap ℕ HeldBuffer S → FinMap nat_cmp Region
table m = mapped region_of m

abbrev pub outsides : {S : Type 0} → HashMap ℕ HeldBuffer S → FinMap nat_cmp Outside
outsides m = mapped outside_of m

abbrev pub dead_flags : {S : Type 0} → HashMap ℕ HeldBuffer S → FinMap nat_cmp Bool
dead_flags m = mapped is_dead_of m

-- An STag that wasn't given has nothing in the map, and `bytes` is the sum of the sizes there.
pub record IsTotal {X : Type 0} (size : X → ℕ) (next bytes : ℕ) (held : FinMap nat_cmp X) : Type 0 where
  pub next_fits : next ≤ 2 ^ 32
  pub not_given : (stag : ℕ) → next ≤ stag → contains_key held stag ≡ false
  pub bytes_are : bytes ≡ sum_by size (values held)
  pub bytes_fit : bytes ≤ next * 2 ^ 64

-- Both sums are right: that of the regions, and that of the bytes outside of them.
abbrev pub AreTotal : {S : Type 0} → (next bytes bytes_outside : ℕ) → HashMap ℕ HeldBuffer S → Type 0
AreTotal next bytes bytes_outside m = IsTotal region_len next bytes (table m) × IsTotal outside_len next bytes_outside (outsides m)
