-- What the fields of `Regions` keep at each change, with the sum of the lengths held.
use Rattle.std.proofs.Common.{◌≡◌, ℕ, ◌+◌, ◌-◌, ◌^◌, ◌<◌, ◌≤◌, Bool, true, false, cond, List, [], ◌∷◌, map, length, Option, None, Some, IfSome, is_some, unwrap_or, Result, Ok, Err, OnOk, OnErr, refl, sym, ap, subst, ◌∙◌, inl, inr, arith}
use Rattle.std.specs.List.{sum_by}
use Rattle.std.proofs.lemmas.Bool.{cases_eq}
use Rattle.std.proofs.lemmas.List.{nil_from_length}
use Rattle.std.proofs.lemmas.List.Sums.{sum_by-cons}
use Rattle.std.specs.declared.cmp.Ordering.{Ordering}
use Rattle.std.specs.declared.cmp.Ordering.TheVariants.{Less, Equal, Greater}
use Rattle.std.specs.Ordering.{nat_cmp, is_eq}
use Rattle.std.specs.Cmp.{nat_cmp_total}
use Rattle.std.specs.FinMap.{FinMap, empty, entries, find, put, get, insert, remove, same_map, nat_cmp-IsAntisymmetric, entries-insert, get-entries, get-empty, len-empty, len-entries}
use Rattle.std.specs.FinMap.Entries.{by_order}
use Rattle.nr_regions.specs.RegisteredMemory.{Region, Outside, RegionTable, RegisteredMemory, Claim, IsHeld, after_invalidate, after_invalidate_by, after_place, after_place_in, bytes_after_write, held_region, live_region}
use Rattle.nr_regions.specs.declared.denied.Denied.{Denied}
use Rattle.std.specs.Result.{result_err}
use Rattle.nr_regions.specs.Table.{IsTotal, live_in, not_live, region_len}
use Rattle.nr_regions.proofs.Holding.{get_insert_here, get_insert_other, get_remove_here, get_remove_other, length_bytes_after_write}

module _ {X : Type 0} (size : X → ℕ) where
  abbrev sum_of : List (ℕ × X) → ℕ
  sum_of es = sum_by size (map (λ e. e.1) es)

  abbrev total : FinMap nat_cmp X → ℕ
  total m = sum_of (entries m)

  sum_cons : (e : ℕ × X) (es : List (ℕ × X)) → sum_of (e ∷ es) ≡ size e.1 + sum_of es
  sum_cons e es = sum_by-cons size e.1 (map (λ e. e.1) es)

  abbrev some : X → Option X
  some x = Some x

  -- a new key adds its size
  put_by : (k : ℕ) (v : X) (e : ℕ × X) (es : List (ℕ × X)) (o : Ordering) → cond (is_eq o) (Some e.1) (find nat_cmp k es) ≡ None
      → (find nat_cmp k es ≡ None → sum_of (put nat_cmp k v es) ≡ size v + sum_of es)
      → sum_of (by_order o ((k, v) ∷ e ∷ es) ((e.0, v) ∷ es) (e ∷ put nat_cmp k v es)) ≡ size v + sum_of (e ∷ es)
  put_by k v e es Less none more = sum_cons (k, v) (e ∷ es)
  put_by k v e es Equal none more = absurd (let wrong : some e.1 ≡ None = none in cc)
  put_by k v e es Greater none more = omega (arith, sum_cons e (put nat_cmp k v es), sum_cons e es, more none)

  sum_put : (k : ℕ) (v : X) (es : List (ℕ × X)) → find nat_cmp k es ≡ None → sum_of (put nat_cmp k v es) ≡ size v + sum_of es
  sum_put k v [] none = sum_cons (k, v) []
  sum_put k v (e ∷ es) none = put_by k v e es (nat_cmp k e.0) none (sum_put k v es)

  total_insert : (m : FinMap nat_cmp X) (k : ℕ) (v : X) → get m k ≡ None → total (insert m k v) ≡ size v + total m
  total_insert m k v none = ap sum_of (entries-insert nat_cmp_total m k v) ∙ sum_put k v (entries m) (sym (get-entries m k) ∙ none)

  -- what is taken out, put back
  again : (m : FinMap nat_cmp X) (k : ℕ) (w : X) (q : ℕ) → get (insert (remove m k) k w) q ≡ get (insert m k w) q
  again m k w q =
      elim (cases_eq q k) [
        | inl e ↦ rw e (get_insert_here (remove m k) k w ∙ sym (get_insert_here m k w))
        | inr ne ↦ get_insert_other (remove m k) k w q ne ∙ get_remove_other m k q ne ∙ sym (get_insert_other m k w q ne)
      ]

  as_before : (m : FinMap nat_cmp X) (k : ℕ) (v : X) (q : ℕ) → get m k ≡ Some v → get (insert m k v) q ≡ get m q
  as_before m k v q there =
      elim (cases_eq q k) [
        | inl e ↦ rw e (get_insert_here m k v ∙ sym there)
        | inr ne ↦ get_insert_other m k v q ne
      ]

  total_change : (m : FinMap nat_cmp X) (k : ℕ) (w : X) → total (insert m k w) ≡ size w + total (remove m k)
  total_change m k w =
      ap total (sym (same_map nat_cmp_total nat_cmp-IsAntisymmetric (insert (remove m k) k w) (insert m k w) (again m k w)))
      ∙ total_insert (remove m k) k w (get_remove_here m k)

  total_remove : (m : FinMap nat_cmp X) (k : ℕ) (v : X) → get m k ≡ Some v → total m ≡ size v + total (remove m k)
  total_remove m k v there =
      ap total (sym (same_map nat_cmp_total nat_cmp-IsAntisymmetric (insert m k v) m (λ q. as_before m k v q there)))
      ∙ total_change m k v

  total_empty : total empty ≡ 0
  total_empty =
      let nothing : FinMap nat_cmp X = empty in
      ap sum_of (nil_from_length (entries nothing) (sym (len-entries nothing) ∙ len-empty nat_cmp X))

  -- ---- The fields

  not_there : (o : Option X) → is_some o ≡ false → o ≡ None
  not_there None e = refl
  not_there (Some x) e = absurd (let wrong : true ≡ false = e in cc)

  there_is : (o : Option X) (x : X) → o ≡ Some x → is_some o ≡ false → ⊥
  there_is o x e f = let wrong : true ≡ false = ap is_some (sym e) ∙ f in absurd cc

  pub sound_initial : (first : ℕ) → first ≤ 2 ^ 32 → IsTotal size first 0 empty
  sound_initial first fits = record {
    next_fits = fits;
    not_given = λ stag le. ap is_some (get-empty nat_cmp stag);
    bytes_are = sym total_empty;
    bytes_fit = omega arith;
  }

  pub sound_register : (next bytes : ℕ) (held : FinMap nat_cmp X) (x : X) → IsTotal size next bytes held → next < 2 ^ 32 → size x < 2 ^ 64
      → IsTotal size (next + 1) (bytes + size x) (insert held next x)
  sound_register next bytes held x s lt small =
      let none = not_there (get held next) (s.not_given next (omega arith)) in record {
        next_fits = omega arith;
        not_given = λ stag le. ap is_some (get_insert_other held next x stag (λ e. omega arith)) ∙ s.not_given stag (omega arith);
        bytes_are = omega (arith, s.bytes_are, total_insert held next x none);
        bytes_fit = omega (arith, s.bytes_fit);
      }

  -- its size is among the bytes
  pub sound_counts : (next bytes : ℕ) (held : FinMap nat_cmp X) (stag : ℕ) (x : X) → IsTotal size next bytes held → get held stag ≡ Some x → size x ≤ bytes
  sound_counts next bytes held stag x s there = omega (arith, s.bytes_are, total_remove held stag x there)

  pub sound_release : (next bytes : ℕ) (held : FinMap nat_cmp X) (stag : ℕ) (x : X) → IsTotal size next bytes held → get held stag ≡ Some x
      → IsTotal size next (bytes - size x) (remove held stag)
  sound_release next bytes held stag x s there = record {
    next_fits = s.next_fits;
    not_given = λ q le. ap is_some (get_remove_other held stag q (λ e. there_is (get held stag) x there (s.not_given stag (omega arith)))) ∙ s.not_given q le;
    bytes_are = omega (arith, s.bytes_are, total_remove held stag x there);
    bytes_fit = omega (arith, s.bytes_fit);
  }

  pub sound_change : (next bytes : ℕ) (held : FinMap nat_cmp X) (stag : ℕ) (x after : X) → IsTotal size next bytes held → get held stag ≡ Some x
      → size after ≡ size x → IsTotal size next bytes (insert held stag after)
  sound_change next bytes held stag x after s there len = record {
    next_fits = s.next_fits;
    not_given = λ q le. ap is_some (get_insert_other held stag after q (λ e. there_is (get held stag) x there (s.not_given stag (omega arith)))) ∙ s.not_given q le;
    bytes_are = omega (arith, s.bytes_are, total_remove held stag x there, total_change held stag after);
    bytes_fit = s.bytes_fit;
  }

abbrev no_region : Option Region
no_region = None

-- the map after an access, by what was found under its STag
abbrev Placed : Result Unit Denied → (dead : FinMap nat_cmp Bool) → (held after : FinMap nat_cmp Region) → (stag to : ℕ) → List ℕ → Type 0
Placed r dead held after stag to payload =
    OnOk r (IfSome (live_in dead held stag) (λ region. after ≡ insert held stag (record { right = region.right; buf = bytes_after_write region.buf to payload })))

held_by : (b : Bool) (o : Option Region) (region : Region) → cond b None o ≡ Some region → o ≡ Some region
held_by true o region e = absurd (let wrong : no_region ≡ Some region = e in cc)
held_by false o region e = e

live_is_held : (dead : FinMap nat_cmp Bool) (held : FinMap nat_cmp Region) (stag : ℕ) (region : Region) → live_in dead held stag ≡ Some region → get held stag ≡ Some region
live_is_held dead held stag region e = held_by (unwrap_or (get dead stag) false) (get held stag) region e

pub sound_placed : (r : Result Unit Denied) (next bytes : ℕ) (dead : FinMap nat_cmp Bool) (held after : FinMap nat_cmp Region) (stag to : ℕ) (payload : List ℕ) → IsTotal region_len next bytes held
    → OnOk r (is_some (live_in dead held stag) ≡ true) → OnOk r (IfSome (live_in dead held stag) (λ region. to + length payload ≤ length region.buf))
    → Placed r dead held after stag to payload → OnErr r (after ≡ held) → IsTotal region_len next bytes after
sound_placed (Err denied) next bytes dead held after stag to payload s found le is err = subst (λ (m : FinMap nat_cmp Region). IsTotal region_len next bytes m) (sym err) s
sound_placed (Ok _) next bytes dead held after stag to payload s found le is err = by (live_in dead held stag) refl found le is
  where
    by : (o : Option Region) → live_in dead held stag ≡ o → is_some o ≡ true → IfSome o (λ region. to + length payload ≤ length region.buf)
        → IfSome o (λ region. after ≡ insert held stag (record { right = region.right; buf = bytes_after_write region.buf to payload })) → IsTotal region_len next bytes after
    by None e f l i = absurd cc
    by (Some region) e f l i =
        let w : Region = record { right = region.right; buf = bytes_after_write region.buf to payload } in
        subst (λ (m : FinMap nat_cmp Region). IsTotal region_len next bytes m) (sym i)
        (sound_change region_len next bytes held stag region w s (live_is_held dead held stag region e) (length_bytes_after_write region.buf to payload l))

pub placed_memory : (r : Result Unit Denied) (next : ℕ) (dead after_dead : FinMap nat_cmp Bool) (held after : FinMap nat_cmp Region) (stag to : ℕ) (payload : List ℕ)
    → OnOk r (is_some (live_in dead held stag) ≡ true) → Placed r dead held after stag to payload → after_dead ≡ dead
    → OnOk r (◌≡◌ {A = RegisteredMemory} (record { next = next; held = after; dead = after_dead }) (after_place (record { next = next; held = held; dead = dead }) stag to payload))
unfolding after_place live_region held_region
placed_memory (Err denied) next dead after_dead held after stag to payload found is same = tt
placed_memory (Ok _) next dead after_dead held after stag to payload found is same = by (live_in dead held stag) found is
  where
    by : (o : Option Region) → is_some o ≡ true
        → IfSome o (λ region. after ≡ insert held stag (record { right = region.right; buf = bytes_after_write region.buf to payload }))
        → ◌≡◌ {A = RegisteredMemory} (record { next = next; held = after; dead = after_dead }) (after_place_in o (record { next = next; held = held; dead = dead }) stag to payload)
    by None f i = absurd cc
    by (Some region) f i = λ t. record { next = next; held = i t; dead = same t }

-- the memory after an Invalidate
pub died_memory : (r : Result Unit Denied) (next : ℕ) (dead after_dead : FinMap nat_cmp Bool) (held after : FinMap nat_cmp Region) (stag : ℕ) → result_err r ≡ not_live (live_in dead held stag)
    → OnOk r (after_dead ≡ insert dead stag true) → after ≡ held
    → OnOk r (◌≡◌ {A = RegisteredMemory} (record { next = next; held = after; dead = after_dead }) (after_invalidate (record { next = next; held = held; dead = dead }) stag))
unfolding after_invalidate live_region held_region
died_memory (Err denied) next dead after_dead held after stag exact is same = tt
died_memory (Ok _) next dead after_dead held after stag exact is same = by (live_in dead held stag) exact
  where
    by : (o : Option Region) → None ≡ not_live o
        → ◌≡◌ {A = RegisteredMemory} (record { next = next; held = after; dead = after_dead }) (after_invalidate_by o (record { next = next; held = held; dead = dead }) stag)
    by None e = absurd cc
    by (Some region) e = λ t. record { next = next; held = same t; dead = is t }

-- what a claim on the table's memory says of the map
pub held_there : {outside : FinMap nat_cmp Outside} {dead : FinMap nat_cmp Bool} (held : FinMap nat_cmp Region) (next room : ℕ) (t : RegionTable) (claim : Claim) (h : IsHeld t.memory claim)
    → ◌≡◌ {A = RegionTable} (record { memory = record { next = next; held = held; dead = dead }; room = room; outside = outside }) t → get held claim.stag ≡ Some h.region
unfolding held_region
held_there held next room t claim h is = ap (λ (k : RegionTable). get k.memory.held claim.stag) is ∙ h.there
