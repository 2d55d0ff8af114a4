-- What accesses leave in a region of a client has the length of the region.
use Rattle.std.proofs.Common.{◌≡◌, ℕ, ◌+◌, ◌≤◌, ◌<◌, Bool, true, false, cond, ◌&&◌, eqb, leb, ltb, List, [], ◌∷◌, ◌++◌, length, drop, Option, None, Some, refl, sym, ap, subst, ◌∙◌, arith, eqb-true, ne_eqb}
use Rattle.std.specs.List.{find}
use Rattle.std.proofs.lemmas.Bool.{ltb-false}
use Rattle.nr_regions.specs.declared.right.Right.{Right}
use Rattle.nr_regions.specs.declared.denied.Denied.TheVariants as denials
use Rattle.nr_regions.specs.RegisteredMemory.{Access, denial_in, same_right, bytes_after_write}
use Rattle.nr_regions.specs.Access.{Grant, TaggedSegment, access_of_tagged, grant_at, grant_offer, grant_denial}
use Rattle.nr_regions.proofs.Holding.{length_bytes_after_write}
use Rattle.nr_reduce.specs.OfferedRegions.{Region, until_or, region_grant, region_grants}
use Rattle.nr_reduce.proofs.OfferedMemory.{found, grants_from, none_found_lem}
use Rattle.nr_reduce.proofs.OwnStags.{AreNumbered}
use Rattle.nr_laws.proofs.Memory.{Part, part_of, parts_of, after_part, after_parts, Settled}

-- a number none-before all regions from one on
pub none_before : (n stag : ℕ) (regions : List Region) → stag < n → AreNumbered n regions → find (λ x. eqb x.stag stag) regions ≡ None
none_before n stag [] lt h = refl
none_before n stag (r ∷ regions) lt h =
    ap (λ (b : Bool). cond b (Some r) (find (λ x. eqb x.stag stag) regions)) (ne_eqb r.stag stag (λ e. let s = h.0 in omega (arith, s, e, lt)))
    ∙ none_before (n + 1) stag regions (omega (arith, lt)) h.1

within : (right : Right) (len : ℕ) (a : Access) → denial_in (Some (right, len)) a ≡ None → a.to + a.len ≤ len
within right len a e = by (ltb len (a.to + a.len)) refl e
  where
    by : (b : Bool) → ltb len (a.to + a.len) ≡ b → cond b (Some denials.Bounds) (cond (same_right right a.right) None (Some denials.Right)) ≡ None → a.to + a.len ≤ len
    by true is e = absurd (let s : Some denials.Bounds ≡ None = e in cc)
    by false is e = ltb-false len (a.to + a.len) is

-- an access that lacks nothing lies within the region of its STag
pub fits_found : (place n stag end : ℕ) (regions : List Region) (r : Region) (a : Access) → AreNumbered n regions → find (λ x. eqb x.stag stag) regions ≡ Some r → denial_in (grant_offer (found stag end (grants_from place regions))) a ≡ None → a.to + a.len ≤ length r.bytes
fits_found place n stag end [] r a numbers there e = absurd cc
fits_found place n stag end (x ∷ regions) r a numbers there e = by (eqb x.stag stag) refl there e (λ f g. fits_found place (n + 1) stag end regions r a numbers.1 f g)
  where
    rest : Bool
    rest = ltb x.from end && leb end (until_or place x.until)

    here : x ≡ r → eqb x.stag stag ≡ true → (c : Bool) → denial_in (grant_offer (cond c (Some (region_grant place x)) (found stag end (grants_from place regions)))) a ≡ None → a.to + a.len ≤ length r.bytes
    here same is true e = subst (λ (q : Region). a.to + a.len ≤ length q.bytes) same (within x.right (length x.bytes) a e)
    here same is false e =
        let none : found stag end (grants_from place regions) ≡ None = none_found_lem place end stag regions (none_before (n + 1) stag regions (let s = numbers.0 in let t = eqb-true x.stag stag is in omega (arith, s, t)) numbers.1) in
        absurd (let s : Some denials.NoStag ≡ None = ap (λ (o : Option Grant). denial_in (grant_offer o) a) (sym none) ∙ e in cc)

    by : (b : Bool) → eqb x.stag stag ≡ b → cond b (Some x) (find (λ y. eqb y.stag stag) regions) ≡ Some r → denial_in (grant_offer (cond (eqb x.stag stag && rest) (Some (region_grant place x)) (found stag end (grants_from place regions)))) a ≡ None
        → (find (λ y. eqb y.stag stag) regions ≡ Some r → denial_in (grant_offer (found stag end (grants_from place regions))) a ≡ None → a.to + a.len ≤ length r.bytes) → a.to + a.len ≤ length r.bytes
    by true is there e more = here (let t : Some x ≡ Some r = there in cc) is rest (ap (λ (b : Bool). denial_in (grant_offer (cond (b && rest) (Some (region_grant place x)) (found stag end (grants_from place regions)))) a) (sym is) ∙ e)
    by false is there e more = more there (ap (λ (b : Bool). denial_in (grant_offer (cond (b && rest) (Some (region_grant place x)) (found stag end (grants_from place regions)))) a) (sym is) ∙ e)

pub settled_fits : (place n : ℕ) (regions : List Region) (r : Region) (a : TaggedSegment) → AreNumbered n regions → find (λ x. eqb x.stag a.stag) regions ≡ Some r → grant_denial (region_grants place regions) (access_of_tagged a) a.end ≡ None → a.to + length a.payload ≤ length r.bytes
unfolding grant_denial grant_at region_grants
settled_fits place n regions r a numbers there e = fits_found place n a.stag a.end regions r (access_of_tagged a) numbers there e

part_head : (p q : Part) (ps qs : List Part) → p ∷ ps ≡ q ∷ qs → p ≡ q
part_head p q ps qs e = cc

-- the first accesses leave a region as long as it is
pub parts_length : (place n stag : ℕ) (regions : List Region) (r : Region) (bytes : List ℕ) (accesses : List TaggedSegment) (front back : List Part) → AreNumbered n regions → find (λ x. eqb x.stag stag) regions ≡ Some r → length bytes ≡ length r.bytes
    → Settled place regions accesses → parts_of accesses ≡ front ++ back → length (after_parts stag bytes front) ≡ length r.bytes
parts_length place n stag regions r bytes accesses [] back numbers there same s e = same
parts_length place n stag regions r bytes [] (p ∷ front) back numbers there same s e = absurd cc
parts_length place n stag regions r bytes (a ∷ accesses) (p ∷ front) back numbers there same s e =
    parts_length place n stag regions r (after_part stag bytes p) accesses front back numbers there
    (ap (λ (q : Part). length (after_part stag bytes q)) (sym (part_head (part_of a) p (parts_of accesses) (front ++ back) e)) ∙ one (eqb a.stag stag) refl)
    s.2 (ap (λ (ps : List Part). drop 1 ps) e)
  where
    one : (b : Bool) → eqb a.stag stag ≡ b → length (cond b (bytes_after_write bytes a.to a.payload) bytes) ≡ length r.bytes
    one false is = same
    one true is =
        let own = eqb-true a.stag stag is in
        let fits = settled_fits place n regions r a numbers (ap (λ (m : ℕ). find (λ (x : Region). eqb x.stag m) regions) own ∙ there) s.1 in
        length_bytes_after_write bytes a.to a.payload (omega (arith, fits, same)) ∙ same
