-- The code's map changes as its finite maps do.
use Rattle.std.proofs.Common.{◌≡◌, ℕ, Bool, true, false, cond, List, [], ◌∷◌, Option, None, Some, IfSome, option_map, unwrap_or, length, refl, sym, ap, ◌∙◌, subst, inl, inr}
use Rattle.std.specs.Prelude.{nat_eq}
use Rattle.std.proofs.lemmas.Bool.{cases_eq}
use Rattle.std.specs.Ordering.{nat_cmp, eq_by_cmp}
use Rattle.std.specs.Cmp.{nat_cmp_total, unsigned_tied, eq_by_cmp_equiv}
use Rattle.std.specs.Map.{lookup}
use Rattle.std.specs.HashMap.{HashMap}
use Rattle.std.specs.HashMap as hash
use Rattle.std.specs.FinMap.{FinMap, empty, find, from_entries, get, insert, remove, same_map, nat_cmp-IsAntisymmetric, get-from_entries, get-insert, get-remove}
use Rattle.nr_regions.specs.declared.held.HeldBuffer.{HeldBuffer}
use Rattle.nr_regions.specs.RegisteredMemory.{Region, Access, bytes_after_write, denial_in, region_offer}
use Rattle.nr_regions.specs.Windows.{BufferParts}
use Rattle.nr_regions.specs.declared.denied.Denied.TheVariants.{NoStag}
use Rattle.nr_regions.specs.Table.{table, outsides, dead_flags, region_of, outside_of, is_dead_of, live_in, live_offer, not_live, mapped, mapped_entries}
use Rattle.nr_regions.proofs.Holding.{get_insert_here, get_insert_other}

abbrev no_region : Option Region
no_region = None

turned : (stag q : ℕ) → nat_eq stag q ≡ eq_by_cmp nat_cmp q stag
turned stag q = sym (unsigned_tied stag q) ∙ (eq_by_cmp_equiv nat_cmp_total).symm stag q

-- a map as it is after what it has at a key is put there again
insert_same : {X : Type 0} (m : FinMap nat_cmp X) (k : ℕ) (v : X) → get m k ≡ Some v → insert m k v ≡ m
insert_same m k v there =
    same_map nat_cmp_total nat_cmp-IsAntisymmetric (insert m k v) m (λ q.
    elim (cases_eq q k) [
      | inl e ↦ rw e (get_insert_here m k v ∙ sym there)
      | inr ne ↦ get_insert_other m k v q ne
    ])

-- the map as the other is after a change at one key
pub record ChangedAt {S : Type 0} (m n : HashMap ℕ HeldBuffer S) (stag : ℕ) (w : Option HeldBuffer) : Type 0 where
  pub each : (q : ℕ) → hash.get nat_eq n q ≡ cond (nat_eq stag q) w (hash.get nat_eq m q)

mapped_cond : {X : Type 0} (f : HeldBuffer → X) (b : Bool) (v o : Option HeldBuffer) → option_map f (cond b v o) ≡ cond b (option_map f v) (option_map f o)
mapped_cond f true v o = refl
mapped_cond f false v o = refl

find_mapped : {X : Type 0} (f : HeldBuffer → X) (stag : ℕ) (es : List (ℕ × HeldBuffer)) → find nat_cmp stag (mapped_entries f es) ≡ option_map f (lookup (nat_eq stag) es)
find_mapped f stag [] = refl
find_mapped f stag (e ∷ es) =
    (λ i. cond (unsigned_tied stag e.0 i) (Some (f e.1)) (find_mapped f stag es i))
    ∙ sym (mapped_cond f (nat_eq stag e.0) (Some e.1) (lookup (nat_eq stag) es))

module _ {S X : Type 0} (f : HeldBuffer → X) where
  -- what is found
  pub get_mapped : (m : HashMap ℕ HeldBuffer S) (stag : ℕ) → get (mapped f m) stag ≡ option_map f (hash.get nat_eq m stag)
  get_mapped m stag = get-from_entries nat_cmp_total (mapped_entries f m.entries) stag ∙ find_mapped f stag m.entries

  pub mapped_empty : (m : HashMap ℕ HeldBuffer S) → hash.IsEmpty m → mapped f m ≡ empty
  mapped_empty m e = ap (λ (es : List (ℕ × HeldBuffer)). from_entries (mapped_entries f es)) e

  pub mapped_same : (m n : HashMap ℕ HeldBuffer S) → ((q : ℕ) → hash.get nat_eq n q ≡ hash.get nat_eq m q) → mapped f n ≡ mapped f m
  mapped_same m n same =
      same_map nat_cmp_total nat_cmp-IsAntisymmetric (mapped f n) (mapped f m) (λ q. get_mapped n q ∙ ap (option_map f) (same q) ∙ sym (get_mapped m q))

  pub mapped_unchanged : (m n : HashMap ℕ HeldBuffer S) → hash.IsUnchanged m n → mapped f n ≡ mapped f m
  mapped_unchanged m n e = ap (λ (es : List (ℕ × HeldBuffer)). from_entries (mapped_entries f es)) e

  pub mapped_put : (m n : HashMap ℕ HeldBuffer S) (stag : ℕ) (held : HeldBuffer) → ChangedAt m n stag (Some held) → mapped f n ≡ insert (mapped f m) stag (f held)
  mapped_put m n stag held c =
      same_map nat_cmp_total nat_cmp-IsAntisymmetric (mapped f n) (insert (mapped f m) stag (f held)) (λ q.
      get_mapped n q
      ∙ ap (option_map f) (c.each q)
      ∙ mapped_cond f (nat_eq stag q) (Some held) (hash.get nat_eq m q)
      ∙ (λ i. cond (turned stag q i) (Some (f held)) (sym (get_mapped m q) i))
      ∙ sym (get-insert nat_cmp_total (mapped f m) stag (f held) q))

  pub mapped_take_out : (m n : HashMap ℕ HeldBuffer S) (stag : ℕ) → ChangedAt m n stag None → mapped f n ≡ remove (mapped f m) stag
  mapped_take_out m n stag c =
      same_map nat_cmp_total nat_cmp-IsAntisymmetric (mapped f n) (remove (mapped f m) stag) (λ q.
      get_mapped n q
      ∙ ap (option_map f) (c.each q)
      ∙ mapped_cond f (nat_eq stag q) None (hash.get nat_eq m q)
      ∙ (λ i. cond (turned stag q i) None (sym (get_mapped m q) i))
      ∙ sym (get-remove nat_cmp_total (mapped f m) stag q))

same_none : (b : Bool) → cond b None no_region ≡ None
same_none true = refl
same_none false = refl

-- the STag of an access isn't asked
denied_by : (access : Access) (b : Bool) (held : HeldBuffer) → denial_in (cond b None (Some (held.right, length held.window.bytes))) (record access { stag = 0 })
    ≡ denial_in (region_offer (cond b None (Some (region_of held)))) access
denied_by access true held = refl
denied_by access false held = refl

module _ {S : Type 0} where
  -- what a peer reaches under the STag of a buffer that is found, and of none
  live_found : (m : HashMap ℕ HeldBuffer S) (stag : ℕ) (held : HeldBuffer) → hash.get nat_eq m stag ≡ Some held
      → live_in (dead_flags m) (table m) stag ≡ cond held.is_dead None (Some (region_of held))
  live_found m stag held e =
      let flag = get_mapped is_dead_of m stag ∙ ap (option_map is_dead_of) e in
      let region = get_mapped region_of m stag ∙ ap (option_map region_of) e in
      λ i. cond (unwrap_or (flag i) false) None (region i)

  live_nowhere : (m : HashMap ℕ HeldBuffer S) (stag : ℕ) → hash.get nat_eq m stag ≡ None → live_in (dead_flags m) (table m) stag ≡ None
  live_nowhere m stag e =
      ap (λ (o : Option Region). cond (unwrap_or (get (dead_flags m) stag) false) None o) (get_mapped region_of m stag ∙ ap (option_map region_of) e)
      ∙ same_none (unwrap_or (get (dead_flags m) stag) false)

  -- why an access is denied
  pub denied_held : (m : HashMap ℕ HeldBuffer S) (stag : ℕ) (access : Access) (held : HeldBuffer) → hash.get nat_eq m stag ≡ Some held
      → denial_in (live_offer held) (record access { stag = 0 }) ≡ denial_in (region_offer (live_in (dead_flags m) (table m) stag)) access
  denied_held m stag access held e =
      denied_by access held.is_dead held ∙ ap (λ (o : Option Region). denial_in (region_offer o) access) (sym (live_found m stag held e))

  pub denied_none : (m : HashMap ℕ HeldBuffer S) (stag : ℕ) (access : Access) → hash.get nat_eq m stag ≡ None
      → denial_in None access ≡ denial_in (region_offer (live_in (dead_flags m) (table m) stag)) access
  denied_none m stag access e = ap (λ (o : Option Region). denial_in (region_offer o) access) (sym (live_nowhere m stag e))

  -- a live region that is found
  pub alive_found : (m : HashMap ℕ HeldBuffer S) (stag : ℕ) (held : HeldBuffer) → hash.get nat_eq m stag ≡ Some held → held.is_dead ≡ false
      → live_in (dead_flags m) (table m) stag ≡ Some (region_of held)
  alive_found m stag held e alive = live_found m stag held e ∙ ap (λ (b : Bool). cond b None (Some (region_of held))) alive

  -- the fact of such a region
  pub if_found : (m : HashMap ℕ HeldBuffer S) (stag : ℕ) (held : HeldBuffer) (P : Region → Type 0) → hash.get nat_eq m stag ≡ Some held → held.is_dead ≡ false
      → P (region_of held) → IfSome (live_in (dead_flags m) (table m) stag) P
  if_found m stag held P e alive h = subst (λ (o : Option Region). IfSome o P) (sym (alive_found m stag held e alive)) h

  -- why an STag can't be invalidated
  pub not_live_held : (m : HashMap ℕ HeldBuffer S) (stag : ℕ) (held : HeldBuffer) → hash.get nat_eq m stag ≡ Some held → held.is_dead ≡ true
      → not_live (live_in (dead_flags m) (table m) stag) ≡ Some NoStag
  not_live_held m stag held e dead =
      ap not_live (live_found m stag held e ∙ ap (λ (b : Bool). cond b None (Some (region_of held))) dead)

  pub not_live_none : (m : HashMap ℕ HeldBuffer S) (stag : ℕ) → hash.get nat_eq m stag ≡ None → not_live (live_in (dead_flags m) (table m) stag) ≡ Some NoStag
  not_live_none m stag e = ap not_live (live_nowhere m stag e)

  pub live_alive : (m : HashMap ℕ HeldBuffer S) (stag : ℕ) (held : HeldBuffer) → hash.get nat_eq m stag ≡ Some held → held.is_dead ≡ false
      → not_live (live_in (dead_flags m) (table m) stag) ≡ None
  live_alive m stag held e alive = ap not_live (alive_found m stag held e alive)

  -- what stays of a buffer that is put back
  pub mapped_over : {X : Type 0} (f : HeldBuffer → X) (m n : HashMap ℕ HeldBuffer S) (stag : ℕ) (held w : HeldBuffer) → hash.get nat_eq m stag ≡ Some held
      → ChangedAt m n stag (Some w) → f w ≡ f held → mapped f n ≡ mapped f m
  mapped_over f m n stag held w e c same =
      mapped_put f m n stag w c ∙ ap (insert (mapped f m) stag) same ∙ insert_same (mapped f m) stag (f held) (get_mapped f m stag ∙ ap (option_map f) e)

  -- some bytes over those of the region that is found
  pub table_write_over : (m n : HashMap ℕ HeldBuffer S) (stag at : ℕ) (bytes : List ℕ) (window : BufferParts) (held : HeldBuffer) → hash.get nat_eq m stag ≡ Some held
      → held.is_dead ≡ false → window ≡ record held.window { bytes = bytes_after_write held.window.bytes at bytes } → ChangedAt m n stag (Some (record { right = held.right; window = window; is_dead = held.is_dead }))
      → IfSome (live_in (dead_flags m) (table m) stag) (λ r. table n ≡ insert (table m) stag (record { right = r.right; buf = bytes_after_write r.buf at bytes }))
  table_write_over m n stag at bytes window held e alive is c =
      if_found m stag held (λ r. table n ≡ insert (table m) stag (record { right = r.right; buf = bytes_after_write r.buf at bytes })) e alive
      (mapped_put region_of m n stag (record { right = held.right; window = window; is_dead = held.is_dead }) c
      ∙ ap (λ (w : BufferParts). insert (table m) stag (record { right = held.right; buf = w.bytes })) is)

  -- the bytes outside of it stay
  pub outsides_write_over : (m n : HashMap ℕ HeldBuffer S) (stag at : ℕ) (bytes : List ℕ) (window : BufferParts) (held : HeldBuffer) → hash.get nat_eq m stag ≡ Some held
      → window ≡ record held.window { bytes = bytes_after_write held.window.bytes at bytes } → ChangedAt m n stag (Some (record { right = held.right; window = window; is_dead = held.is_dead }))
      → outsides n ≡ outsides m
  outsides_write_over m n stag at bytes window held e is c =
      mapped_put outside_of m n stag (record { right = held.right; window = window; is_dead = held.is_dead }) c
      ∙ ap (λ (w : BufferParts). insert (outsides m) stag w.outside) is
      ∙ insert_same (outsides m) stag held.window.outside (get_mapped outside_of m stag ∙ ap (option_map outside_of) e)

  -- a buffer that is found, and put back as it was
  pub mapped_again : {X : Type 0} (f : HeldBuffer → X) (m n : HashMap ℕ HeldBuffer S) (stag : ℕ) (held : HeldBuffer) → hash.get nat_eq m stag ≡ Some held
      → ChangedAt m n stag (Some held) → mapped f n ≡ mapped f m
  mapped_again f m n stag held e c =
      mapped_put f m n stag held c ∙ insert_same (mapped f m) stag (f held) (get_mapped f m stag ∙ ap (option_map f) e)
