-- What is counted of the regions, as they are registered and released.
use Rattle.std.proofs.Common.{◌≡◌, ℕ, ◌+◌, ◌-◌, ◌^◌, ◌<◌, ◌≤◌, List, [], ◌∷◌, ◌++◌, length, map, replicate, Option, None, Some, inl, inr, refl, sym, ap, subst, ◌∙◌, arith}
use Rattle.std.specs.Prelude.{IfSome, Bool, true, false}
use Rattle.std.proofs.lemmas.Bool.{cases_eq}
use Rattle.std.proofs.lemmas.List.{length-replicate}
use Rattle.nr_regions.specs.declared.right.Right.{Right}
use Rattle.nr_regions.specs.declared.right.Right.TheVariants.{Fetch, Fill}
use Rattle.nr_regions.specs.RegisteredMemory.{Region, RegisteredMemory, Claim, IsHeld, held_region, after_register, after_release, AreHeldFrom}
use Rattle.nr_regions.proofs.Holding.{register_here, register_other, release_here, release_other}
use Rattle.nr_regions.proofs.Totals.{sound_register, sound_release}
use Rattle.nr_endpoint.specs.declared.offering.Offered.{Offered}
use Rattle.nr_endpoint.specs.declared.offering.Claims.{Claims}
use Rattle.nr_endpoint.specs.Offering.{one_of, offered_count, with_buffer, with_read, with_write_buffer, with_offered, claim_if, claims_of}
use Rattle.nr_reduce.specs.declared.outline.Plan.{Plan}
use Rattle.nr_reduce.specs.Plans.{has_segment, total}
use Rattle.nr_reduce.specs.KeptClient.{released_all}
use Rattle.nr_requester.specs.RequesterState.{stags_of}
use Rattle.nr_requester.specs.Sending.{some_if, offered_of}
use Rattle.nr_requester.specs.HeldClaims.{claim_list, call_claims}
use Rattle.nr_requester.specs.HeldBytes.{region_max, offer_max, PlanFits, RegionsFit, region_size, IsCount, RegionsHave, in_bytes, claim_size, claims_size, claims_len}
use Rattle.nr_requester.proofs.Releases.{one_released, stags_are_of}

abbrev or_region : Region → Option Region → Region
or_region x None = x
or_region x (Some y) = y

same_region : (x y : Region) → Some x ≡ Some y → x ≡ y
same_region x y e = ap (or_region x) e

abbrev region : Option Region → Option Region
region o = o

-- the bytes of a region count it
pub bytes_count : IsCount in_bytes
bytes_count len = omega arith

-- both: no region is too long, and they have this number together
abbrev pub Both : (size : ℕ → ℕ) → RegisteredMemory → ℕ → Type 0
Both size m total = RegionsFit m × RegionsHave size m total

-- ---- A buffer is registered

registered_fits : (m : RegisteredMemory) (right : Right) (buf : List ℕ) → length buf ≤ region_max → RegionsFit m → RegionsFit (after_register m right buf)
registered_fits m right buf small fit stag r there =
    elim (cases_eq stag m.next) [
      | inl same ↦ (let is : r ≡ record { right = right; buf = buf } = same_region r (record { right = right; buf = buf }) (sym there ∙ ap (held_region (after_register m right buf)) same ∙ register_here m right buf) in
          omega (arith, small, ap (λ (x : Region). length x.buf) is))
      | inr other ↦ fit stag r (sym (register_other m right buf stag other) ∙ there)
    ]

registered_have : (size : ℕ → ℕ) → IsCount size → (m : RegisteredMemory) (right : Right) (buf : List ℕ) (total : ℕ) → length buf ≤ region_max → m.next < 2 ^ 32 → RegionsHave size m total → RegionsHave size (after_register m right buf) (total + size (length buf))
unfolding after_register
registered_have size is m right buf total small fits have = sound_register (region_size size) m.next total m.held (record { right = right; buf = buf }) have fits (let little = is (length buf) in omega (arith, small, little))

one_buffer : (size : ℕ → ℕ) → IsCount size → (m : RegisteredMemory) (right : Right) (buf : Option (List ℕ)) (total : ℕ) → IfSome buf (λ bytes. length bytes ≤ region_max) → m.next + one_of buf ≤ 2 ^ 32 → Both size m total → Both size (with_buffer m right buf) (total + claim_size size (claim_if m buf))
one_buffer size is m right None total small fits b = (b.0, subst (λ (n : ℕ). RegionsHave size m n) (omega arith) b.1)
one_buffer size is m right (Some buf) total small fits b = (registered_fits m right buf small b.0, registered_have size is m right buf total small (omega (arith, fits)) b.1)

next_one : (m : RegisteredMemory) (right : Right) (buf : Option (List ℕ)) → (with_buffer m right buf).next ≡ m.next + one_of buf
unfolding after_register
next_one m right None = omega arith
next_one m right (Some buf) = refl

-- the buffers that are offered are short
pub record AreShort (o : Offered) : Type 0 where
  pub read : IfSome o.read (λ bytes. length bytes ≤ region_max)
  pub write : IfSome o.write (λ bytes. length bytes ≤ region_max)
  pub reply : IfSome o.reply (λ bytes. length bytes ≤ region_max)

pub offered_both : (size : ℕ → ℕ) → IsCount size → (m : RegisteredMemory) (o : Offered) (total : ℕ) → AreShort o → m.next + offered_count o ≤ 2 ^ 32 → Both size m total → Both size (with_offered m o) (total + claims_size size (claims_of m o))
offered_both size is m o total short fits b =
    let first = one_buffer size is m Fetch o.read total short.read (omega (arith, fits)) b in
    let a : ℕ = total + claim_size size (claim_if m o.read) in
    let n1 = next_one m Fetch o.read in
    let second = one_buffer size is (with_read m o) Fill o.write a short.write (omega (arith, fits, n1)) first in
    let n2 = next_one (with_read m o) Fill o.write in
    let c : ℕ = a + claim_size size (claim_if (with_read m o) o.write) in
    let third = one_buffer size is (with_write_buffer m o) Fill o.reply c short.reply (omega (arith, fits, n1, n2)) second in
    (third.0, subst (λ (n : ℕ). RegionsHave size (with_offered m o) n) (omega arith) third.1)

-- those of a plan
short_if : (b : Bool) (bytes : List ℕ) → length bytes ≤ region_max → IfSome (some_if b bytes) (λ bytes. length bytes ≤ region_max)
short_if true bytes h = h
short_if false bytes h = tt

zeros_short : (n : ℕ) → n ≤ region_max → length {A = ℕ} (replicate n 0) ≤ region_max
zeros_short n h = omega (arith, h, length-replicate {A = ℕ} n 0)

pub plan_short : (p : Plan) → PlanFits p → AreShort (offered_of p)
plan_short p f = record {
  read = short_if (has_segment (Some p.read)) p.region f.region;
  write = short_if (has_segment p.write) (replicate (total p.write) 0) (zeros_short (total p.write) f.write);
  reply = short_if (has_segment p.reply) (replicate (total p.reply) 0) (zeros_short (total p.reply) f.reply);
}

len_if : (m : RegisteredMemory) (b : Bool) (bytes : List ℕ) → claim_size in_bytes (claim_if m (some_if b bytes)) ≤ length bytes
len_if m true bytes = omega arith
len_if m false bytes = omega arith

pub plan_len : (m : RegisteredMemory) (p : Plan) → PlanFits p → claims_len (claims_of m (offered_of p)) ≤ offer_max
plan_len m p f =
    let a = len_if m (has_segment (Some p.read)) p.region in
    let b = len_if (with_read m (offered_of p)) (has_segment p.write) (replicate (total p.write) 0) in
    let c = len_if (with_write_buffer m (offered_of p)) (has_segment p.reply) (replicate (total p.reply) 0) in
    omega (arith, a, b, c, f.all, length-replicate {A = ℕ} (total p.write) 0, length-replicate {A = ℕ} (total p.reply) 0)

-- ---- Regions are released

no_region : {X : Type 0} (r : Region) → region None ≡ region (Some r) → X
no_region r e = absurd cc

released_fits : (m : RegisteredMemory) (stag : ℕ) → RegionsFit m → RegionsFit (after_release m stag)
released_fits m stag fit q r there =
    elim (cases_eq q stag) [
      | inl same ↦ no_region r (sym (release_here m stag) ∙ ap (held_region (after_release m stag)) (sym same) ∙ there)
      | inr other ↦ fit q r (sym (release_other m stag q other) ∙ there)
    ]

released_have : (size : ℕ → ℕ) (m : RegisteredMemory) (claim : Claim) (total : ℕ) → IsHeld m claim → RegionsHave size m total → RegionsHave size (after_release m claim.stag) (total - size claim.len)
unfolding after_release held_region
released_have size m claim total h have = subst (λ (n : ℕ). RegionsHave size (after_release m claim.stag) (total - size n)) h.len (sound_release (region_size size) m.next total m.held claim.stag h.region have h.there)

abbrev sum_size : (size : ℕ → ℕ) → List Claim → ℕ
sum_size size [] = 0
sum_size size (c ∷ cs) = size c.len + sum_size size cs

several_released : (size : ℕ → ℕ) (m : RegisteredMemory) (low : ℕ) (cs : List Claim) (total : ℕ) → AreHeldFrom m low cs → Both size m total → Both size (released_all m (map (λ (c : Claim). c.stag) cs)) (total - sum_size size cs)
several_released size m low [] sum h b = (b.0, subst (λ (n : ℕ). RegionsHave size m n) (omega arith) b.1)
several_released size m low (c ∷ cs) sum h b =
    let one : Both size (after_release m c.stag) (sum - size c.len) = (released_fits m c.stag b.0, released_have size m c sum h.1.0 b.1) in
    let rest = several_released size (after_release m c.stag) low cs (sum - size c.len) (one_released m low [] c cs h) one in
    (rest.0, subst (λ (n : ℕ). RegionsHave size (released_all (after_release m c.stag) (map (λ (c : Claim). c.stag) cs)) n) (omega arith) rest.1)

sum_claims : (size : ℕ → ℕ) (c : Claims) → sum_size size (call_claims c) ≡ claims_size size c
sum_claims size c = by c.read c.write c.reply
  where
    by : (r w p : Option Claim) → sum_size size (claim_list r ++ (claim_list w ++ claim_list p)) ≡ claim_size size r + (claim_size size w + claim_size size p)
    by None None None = refl
    by None None (Some p) = omega arith
    by None (Some w) None = omega arith
    by None (Some w) (Some p) = omega arith
    by (Some r) None None = omega arith
    by (Some r) None (Some p) = omega arith
    by (Some r) (Some w) None = omega arith
    by (Some r) (Some w) (Some p) = omega arith

pub released_both : (size : ℕ → ℕ) (m : RegisteredMemory) (claims : Claims) (total : ℕ) → AreHeldFrom m 0 (call_claims claims) → Both size m total → Both size (released_all m (stags_of claims)) (total - claims_size size claims)
released_both size m claims total h b =
    subst (λ (ss : List ℕ). Both size (released_all m ss) (total - claims_size size claims)) (stags_are_of claims)
    (subst (λ (n : ℕ). Both size (released_all m (map (λ (c : Claim). c.stag) (call_claims claims))) (total - n)) (sum_claims size claims) (several_released size m 0 (call_claims claims) total h b))
