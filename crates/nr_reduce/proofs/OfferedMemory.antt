-- The registered memory of an end holds its open regions from event to event, and denies what the grants deny.
use Rattle.std.proofs.Common.{◌≡◌, ℕ, ◌<◌, ◌≤◌, Bool, true, false, cond, ◌&&◌, eqb, leb, ltb, List, [], ◌∷◌, length, map, Option, None, Some, refl, sym, ap, subst, ◌∙◌, arith, inl, inr}
use Rattle.std.specs.Prelude.{IfSome, is_none}
use Rattle.std.specs.List.{find}
use Rattle.std.proofs.lemmas.Bool.{eqb-true, eq-eqb, cases_eq, lt-ltb, le-leb, lt-leb}
use Rattle.nr_regions.specs.declared.right.Right.{Right}
use Rattle.nr_regions.specs.declared.denied.Denied.{Denied}
use Rattle.nr_regions.specs.RegisteredMemory.{RegisteredMemory, Access, denial_in, region_offer, denial, bytes_after_write}
use Rattle.nr_regions.specs.Access.{Grant, TaggedSegment, applies, grant_at, grant_offer, grant_denial, access_of_tagged, after_segment, contents}
use Rattle.nr_regions.proofs.Holding.{length_bytes_after_write, within}
use Rattle.nr_regions.proofs.Contents.{same_denial, after_other}
use Rattle.nr_reduce.specs.OfferedRegions.{Region, until_or, region_grant, region_grants}
use Rattle.nr_reduce.specs.OfferedMemory.{region_at, AreOffered, AreReceived, held_if_open, registered_region, HoldsRegions}

-- ---- What is granted at the end of a frame

abbrev pub grants_from : ℕ → List Region → List Grant
grants_from place regions = map (region_grant place) regions

abbrev pub found : ℕ → ℕ → List Grant → Option Grant
found stag end grants = find (applies stag end) grants

pub none_found_lem : (place end stag : ℕ) (regions : List Region) → region_at regions stag ≡ None → found stag end (grants_from place regions) ≡ None
none_found_lem place end stag [] h = refl
none_found_lem place end stag (r ∷ regions) h = by (eqb r.stag stag) refl h (none_found_lem place end stag regions)
  where
    rest : Bool
    rest = ltb r.from end && leb end (until_or place r.until)

    by : (b : Bool) → eqb r.stag stag ≡ b → cond b (Some r) (region_at regions stag) ≡ None → (region_at regions stag ≡ None → found stag end (grants_from place regions) ≡ None) → found stag end (grants_from place (r ∷ regions)) ≡ None
    by true is h later = absurd (let wrong : Some r ≡ None = h in cc)
    by false is h later =
        ap (λ (b : Bool). cond (b && rest) (Some (region_grant place r)) (found stag end (grants_from place regions))) is ∙ later h

-- what an open region offers
abbrev pub offer_if_open : Option ℕ → Right → ℕ → Option (Right × ℕ)
offer_if_open None right len = Some (right, len)
offer_if_open (Some until) right len = None

abbrev pub offer_of : Option Region → Option (Right × ℕ)
offer_of None = None
offer_of (Some r) = offer_if_open r.until r.right (length r.bytes)

pub granted : (place end stag : ℕ) (regions : List Region) → AreOffered place regions → place < end → grant_offer (found stag end (grants_from end regions)) ≡ offer_of (region_at regions stag)
granted place end stag [] h lt = refl
granted place end stag (r ∷ regions) h lt = by (eqb r.stag stag) refl (granted place end stag regions h.1.1.1 lt)
  where
    others : Option Grant
    others = found stag end (grants_from end regions)

    by_until : (u : Option ℕ) → r.until ≡ u → IfSome u (λ until. until ≤ place) → others ≡ None →
        grant_offer (cond (ltb r.from end && leb end (until_or end u)) (Some (region_grant end r)) others) ≡ offer_if_open u r.right (length r.bytes)
    by_until None is low none =
        let from : ltb r.from end ≡ true = lt-ltb r.from end (let a = h.0 in omega (arith, a, lt)) in
        let until : leb end end ≡ true = le-leb end end (omega arith) in
        λ i. grant_offer (cond (from i && until i) (Some (region_grant end r)) others)
    by_until (Some u) is low none =
        let from : ltb r.from end ≡ true = lt-ltb r.from end (let a = h.0 in omega (arith, a, lt)) in
        let until : leb end u ≡ false = lt-leb end u (omega (arith, low, lt)) in
        (λ i. grant_offer (cond (from i && until i) (Some (region_grant end r)) others)) ∙ ap grant_offer none

    by : (b : Bool) → eqb r.stag stag ≡ b → grant_offer others ≡ offer_of (region_at regions stag) → grant_offer (found stag end (grants_from end (r ∷ regions))) ≡ offer_of (cond b (Some r) (region_at regions stag))
    by true is later =
        let same : r.stag ≡ stag = eqb-true r.stag stag is in
        let none : others ≡ None = none_found_lem end end stag regions (subst (λ (s : ℕ). region_at regions s ≡ None) same h.1.1.0) in
        ap (λ (b : Bool). grant_offer (cond (b && (ltb r.from end && leb end (until_or end r.until))) (Some (region_grant end r)) others)) is
        ∙ by_until r.until refl h.1.0 none
    by false is later =
        ap (λ (b : Bool). grant_offer (cond (b && (ltb r.from end && leb end (until_or end r.until))) (Some (region_grant end r)) others)) is ∙ later

-- ---- What the grants of two moments have in common

after_same : (gs hs : List Grant) (stag : ℕ) (bytes : List ℕ) (r : TaggedSegment) → grant_offer (found stag r.end gs) ≡ grant_offer (found stag r.end hs) → after_segment gs stag bytes r ≡ after_segment hs stag bytes r
unfolding grant_denial grant_at
after_same gs hs stag bytes r same = by (eqb r.stag stag) refl
  where
    by : (b : Bool) → eqb r.stag stag ≡ b →
        cond (eqb r.stag stag && is_none (denial_in (grant_offer (found r.stag r.end gs)) (access_of_tagged r))) (bytes_after_write bytes r.to r.payload) bytes
        ≡ cond (eqb r.stag stag && is_none (denial_in (grant_offer (found r.stag r.end hs)) (access_of_tagged r))) (bytes_after_write bytes r.to r.payload) bytes
    by true is =
        let e : r.stag ≡ stag = eqb-true r.stag stag is in
        let both : grant_offer (found r.stag r.end gs) ≡ grant_offer (found r.stag r.end hs) =
        ap (λ (s : ℕ). grant_offer (found s r.end gs)) e ∙ same ∙ ap (λ (s : ℕ). grant_offer (found s r.end hs)) (sym e) in
        ap (λ (o : Option (Right × ℕ)). cond (eqb r.stag stag && is_none (denial_in o (access_of_tagged r))) (bytes_after_write bytes r.to r.payload) bytes) both
    by false is =
        ap (λ (b : Bool). cond (b && is_none (denial_in (grant_offer (found r.stag r.end gs)) (access_of_tagged r))) (bytes_after_write bytes r.to r.payload) bytes) is
        ∙ ap (λ (b : Bool). cond (b && is_none (denial_in (grant_offer (found r.stag r.end hs)) (access_of_tagged r))) (bytes_after_write bytes r.to r.payload) bytes) (sym is)

pub contents_same : (place : ℕ) (gs hs : List Grant) (stag : ℕ) (bytes : List ℕ) (accesses_received : List TaggedSegment) → ((end : ℕ) → end ≤ place → grant_offer (found stag end gs) ≡ grant_offer (found stag end hs)) → AreReceived place accesses_received →
    contents gs stag bytes accesses_received ≡ contents hs stag bytes accesses_received
contents_same place gs hs stag bytes [] same h = refl
contents_same place gs hs stag bytes (r ∷ accesses_received) same h =
    ap (λ (b : List ℕ). contents gs stag b accesses_received) (after_same gs hs stag bytes r (same r.end h.0))
    ∙ contents_same place gs hs stag (after_segment hs stag bytes r) accesses_received same h.1

-- regions that are alike for frames up to an offset: only their ends may differ, and those not before it
pub record IsAlike (place one two : ℕ) (r s : Region) : Type 0 where
  pub stag : r.stag ≡ s.stag
  pub right : r.right ≡ s.right
  pub bytes : r.bytes ≡ s.bytes
  pub from : r.from ≡ s.from
  pub until : (end : ℕ) → end ≤ place → leb end (until_or one r.until) ≡ leb end (until_or two s.until)

abbrev pub AreAlike : (place one two : ℕ) → List Region → List Region → Type 0
AreAlike place one two [] [] = Unit {0}
AreAlike place one two [] (s ∷ ss) = ⊥
AreAlike place one two (r ∷ rs) [] = ⊥
AreAlike place one two (r ∷ rs) (s ∷ ss) = IsAlike place one two r s × AreAlike place one two rs ss

both_found : (b c : Bool) (g h : Grant) (o p : Option Grant) → b ≡ c → grant_offer (Some g) ≡ grant_offer (Some h) → grant_offer o ≡ grant_offer p → grant_offer (cond b (Some g) o) ≡ grant_offer (cond c (Some h) p)
both_found b true g h o p e same rest = ap (λ (x : Bool). grant_offer (cond x (Some g) o)) e ∙ same
both_found b false g h o p e same rest = ap (λ (x : Bool). grant_offer (cond x (Some g) o)) e ∙ rest

pub alike_offers : (place one two stag end : ℕ) (rs ss : List Region) → AreAlike place one two rs ss → end ≤ place → grant_offer (found stag end (grants_from one rs)) ≡ grant_offer (found stag end (grants_from two ss))
alike_offers place one two stag end [] [] h le = refl
alike_offers place one two stag end [] (s ∷ ss) h le = absurd h
alike_offers place one two stag end (r ∷ rs) [] h le = absurd h
alike_offers place one two stag end (r ∷ rs) (s ∷ ss) h le =
    let a = h.0 in
    let u = a.until end le in
    both_found (applies stag end (region_grant one r)) (applies stag end (region_grant two s)) (region_grant one r) (region_grant two s) (found stag end (grants_from one rs)) (found stag end (grants_from two ss))
    (λ i. eqb (a.stag i) stag && (ltb (a.from i) end && u i))
    (λ i. Some (a.right i, length (a.bytes i)))
    (alike_offers place one two stag end rs ss h.1 le)

-- ---- Access by access

-- to a frame that ends later an end offers what its grants offer, and so it denies what they deny
pub judged : (regions : List Region) (accesses_received : List TaggedSegment) (place end : ℕ) (m : RegisteredMemory) (access : Access) → AreOffered place regions → HoldsRegions regions accesses_received place m → place < end →
    ((r : Region) → region_at regions access.stag ≡ Some r → length (contents (region_grants place regions) r.stag r.bytes accesses_received) ≡ length r.bytes) →
    denial m access ≡ grant_denial (region_grants end regions) access end
unfolding grant_at region_grants
judged regions accesses_received place end m access fits holds lt sized =
    same_denial (region_grants end regions) m access end
    (ap region_offer (holds access.stag) ∙ by (region_at regions access.stag) refl ∙ sym (granted place end access.stag regions fits lt))
  where
    by_until : (u : Option ℕ) (r : Region) (n : ℕ) (buf : List ℕ) → length buf ≡ n → region_offer (held_if_open u (record { right = r.right; buf = buf })) ≡ offer_if_open u r.right n
    by_until None r n buf e = ap (λ (k : ℕ). Some (r.right, k)) e
    by_until (Some until) r n buf e = refl

    by : (o : Option Region) → region_at regions access.stag ≡ o → region_offer (registered_region (region_grants place regions) accesses_received o) ≡ offer_of o
    by None is = refl
    by (Some r) is = by_until r.until r (length r.bytes) (contents (region_grants place regions) r.stag r.bytes accesses_received) (sized r is)

-- a region's contents have its length
abbrev pub sized_by : (o : Option (Right × ℕ)) (n : ℕ) → Type 0
sized_by None n = Unit {0}
sized_by (Some x) n = x.1 ≡ n

after_length : (gs : List Grant) (stag : ℕ) (bytes : List ℕ) (r : TaggedSegment) (n : ℕ) → length bytes ≡ n → sized_by (grant_offer (found stag r.end gs)) n → length (after_segment gs stag bytes r) ≡ n
unfolding grant_denial grant_at
after_length gs stag bytes r n is sized = elim (cases_eq r.stag stag) [
  | inl e ↦ here e (grant_offer (found r.stag r.end gs)) refl (subst (λ (s : ℕ). sized_by (grant_offer (found s r.end gs)) n) (sym e) sized)
  | inr ne ↦ ap length (after_other gs stag bytes r ne) ∙ is
]
  where
    by : (right : Right) (len : ℕ) → len ≡ n → (d : Option Denied) → denial_in (Some (right, len)) (access_of_tagged r) ≡ d → length (cond (is_none d) (bytes_after_write bytes r.to r.payload) bytes) ≡ n
    by right len same None e =
        let fits : denial_in (Some (right, length bytes)) (access_of_tagged r) ≡ None = ap (λ (k : ℕ). denial_in (Some (right, k)) (access_of_tagged r)) (is ∙ sym same) ∙ e in
        length_bytes_after_write bytes r.to r.payload (within right bytes r fits) ∙ is
    by right len same (Some denied) e = is

    here : r.stag ≡ stag → (o : Option (Right × ℕ)) → grant_offer (found r.stag r.end gs) ≡ o → sized_by o n → length (after_segment gs stag bytes r) ≡ n
    here e None o_is low =
        (λ i. length (cond (eq-eqb r.stag stag e i && is_none (denial_in (o_is i) (access_of_tagged r))) (bytes_after_write bytes r.to r.payload) bytes)) ∙ is
    here e (Some x) o_is low =
        (λ i. length (cond (eq-eqb r.stag stag e i && is_none (denial_in (o_is i) (access_of_tagged r))) (bytes_after_write bytes r.to r.payload) bytes))
        ∙ by x.0 x.1 low (denial_in (Some (x.0, x.1)) (access_of_tagged r)) refl

pub contents_length : (gs : List Grant) (stag : ℕ) (bytes : List ℕ) (accesses_received : List TaggedSegment) (n : ℕ) → length bytes ≡ n → ((end : ℕ) → sized_by (grant_offer (found stag end gs)) n) → length (contents gs stag bytes accesses_received) ≡ n
contents_length gs stag bytes [] n is sized = is
contents_length gs stag bytes (r ∷ accesses_received) n is sized = contents_length gs stag (after_segment gs stag bytes r) accesses_received n (after_length gs stag bytes r n is (sized r.end)) sized
