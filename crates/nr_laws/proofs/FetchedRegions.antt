-- A region that a peer may read holds what it was registered with, whatever the peer writes.
use Rattle.std.proofs.Common.{◌≡◌, ℕ, ◌+◌, Bool, true, false, cond, ◌&&◌, eqb, ltb, leb, List, [], ◌∷◌, length, map, Option, None, Some, refl, sym, ap, ◌∙◌, eqb-true}
use Rattle.std.specs.Prelude.{is_none}
use Rattle.std.specs.List.{find}
use Rattle.nr_regions.specs.declared.right.Right.{Right}
use Rattle.nr_regions.specs.declared.right.Right.TheVariants.{Fetch, Fill, Sink}
use Rattle.nr_regions.specs.declared.denied.Denied.TheVariants.{Bounds, Right as WrongRight}
use Rattle.nr_regions.specs.declared.right.Kind.{Kind}
use Rattle.nr_regions.specs.declared.right.Kind.TheVariants.{Write, Response}
use Rattle.nr_regions.specs.RegisteredMemory.{Access, right_for, denial_in, same_right, bytes_after_write}
use Rattle.nr_regions.specs.Access.{Grant, TaggedSegment, access_of_tagged, applies, grant_at, grant_offer, grant_denial, HaveOwnStags, contents}
use Rattle.nr_reduce.specs.OfferedRegions.{Region, region_grant, region_grants, region_bytes, region_bytes_by}
use Rattle.nr_laws.proofs.RequestFields.{none_applies, allowed_in}

pub record IsFetched (regions : List Region) (stag : ℕ) : Type 0 where
  pub region : Region
  pub there : find (λ x. eqb x.stag stag) regions ≡ Some region
  pub own : region.stag ≡ stag
  pub right : region.right ≡ Fetch

right_fetch : (r : Right) → same_right r Fetch ≡ true → r ≡ Fetch
right_fetch Fetch e = refl
right_fetch Fill e = absurd cc
right_fetch Sink e = absurd cc

allowed_right : (g : Region) (place : ℕ) (access : Access) → access.right ≡ Fetch → denial_in (grant_offer (Some (region_grant place g))) access ≡ None → g.right ≡ Fetch
allowed_right g place access own e = by (ltb (length g.bytes) (access.to + access.len)) (same_right g.right access.right) refl e
  where
    by : (b c : Bool) → same_right g.right access.right ≡ c → cond b (Some Bounds) (cond c None (Some WrongRight)) ≡ None → g.right ≡ Fetch
    by true c is e = absurd cc
    by false true is e = right_fetch g.right (ap (λ (r : Right). same_right g.right r) (sym own) ∙ is)
    by false false is e = absurd cc

found_fetched : (place end : ℕ) (access : Access) (regions : List Region) → access.right ≡ Fetch → HaveOwnStags (map (region_grant place) regions) → denial_in (grant_offer (find (applies access.stag end) (map (region_grant place) regions))) access ≡ None
    → IsFetched regions access.stag
found_fetched place end access regions reads own e =
    let m = allowed_in place end access regions own e in
    record { region = m.region; there = m.found; own = m.own; right = allowed_right m.region place access reads m.allowed }

-- an access that the grants allow to read is to such a region
pub is_fetched : (place end : ℕ) (access : Access) (regions : List Region) → access.right ≡ Fetch → HaveOwnStags (region_grants place regions) → grant_denial (region_grants place regions) access end ≡ None → IsFetched regions access.stag
unfolding region_grants grant_denial grant_at
is_fetched place end access regions reads own e = found_fetched place end access regions reads own e

-- ---- No tagged segment writes into it

not_fetch : (kind : Kind) (r : Right) → r ≡ Fetch → same_right r (right_for kind) ≡ false
not_fetch Write r e = ap (λ (x : Right). same_right x Fill) e
not_fetch Response r e = ap (λ (x : Right). same_right x Sink) e

denied_right : (g : Region) (place : ℕ) (kind : Kind) (stag to len : ℕ) → g.right ≡ Fetch → is_none (denial_in (grant_offer (Some (region_grant place g))) (record { right = right_for kind; stag = stag; to = to; len = len })) ≡ false
denied_right g place kind stag to len is = by (ltb (length g.bytes) (to + len)) (same_right g.right (right_for kind)) (not_fetch kind g.right is)
  where
    by : (b c : Bool) → c ≡ false → is_none (cond b (Some Bounds) (cond c None (Some WrongRight))) ≡ false
    by true c e = refl
    by false true e = absurd cc
    by false false e = refl

denied_at_lem : (place end : ℕ) (kind : Kind) (stag to len : ℕ) (regions : List Region) (region : Region) → HaveOwnStags (map (region_grant place) regions) → find (λ x. eqb x.stag stag) regions ≡ Some region → region.right ≡ Fetch
    → is_none (denial_in (grant_offer (find (applies stag end) (map (region_grant place) regions))) (record { right = right_for kind; stag = stag; to = to; len = len })) ≡ false
denied_at_lem place end kind stag to len [] region own e right = absurd cc
denied_at_lem place end kind stag to len (r ∷ regions) region own e right = by (eqb r.stag stag) (ltb r.from end && leb end (region_grant place r).until) refl e (λ rest. denied_at_lem place end kind stag to len regions region own.1 rest right)
  where
    access : Access
    access = record { right = right_for kind; stag = stag; to = to; len = len }

    later : Option Grant
    later = find (applies stag end) (map (region_grant place) regions)

    by : (b c : Bool) → eqb r.stag stag ≡ b → cond b (Some r) (find (λ x. eqb x.stag stag) regions) ≡ Some region → (find (λ x. eqb x.stag stag) regions ≡ Some region → is_none (denial_in (grant_offer later) access) ≡ false)
        → is_none (denial_in (grant_offer (cond (b && c) (Some (region_grant place r)) later)) access) ≡ false
    by true true is e rest = denied_right r place kind stag to len (let same : r ≡ region = (let t : Some r ≡ Some region = e in cc) in ap (λ (x : Region). x.right) same ∙ right)
    by true false is e rest = ap (λ (o : Option Grant). is_none (denial_in (grant_offer o) access)) (none_applies stag end place (region_grant place r) regions (eqb-true r.stag stag is) own.0)
    by false c is e rest = rest e

unwritten : (place stag : ℕ) (regions : List Region) (bytes : List ℕ) (f : IsFetched regions stag) → HaveOwnStags (region_grants place regions) → (segments : List TaggedSegment) → contents (region_grants place regions) stag bytes segments ≡ bytes
unfolding region_grants grant_denial grant_at
unwritten place stag regions bytes f own [] = refl
unwritten place stag regions bytes f own (s ∷ segments) =
    ap (λ (xs : List ℕ). contents (map (region_grant place) regions) stag xs segments) (by (eqb s.stag stag) refl) ∙ unwritten place stag regions bytes f own segments
  where
    by : (b : Bool) → eqb s.stag stag ≡ b → cond (b && is_none (denial_in (grant_offer (find (applies s.stag s.end) (map (region_grant place) regions))) (access_of_tagged s))) (bytes_after_write bytes s.to s.payload) bytes ≡ bytes
    by true is =
        let there : find (λ x. eqb x.stag s.stag) regions ≡ Some f.region = ap (λ (n : ℕ). find (λ (x : Region). eqb x.stag n) regions) (eqb-true s.stag stag is) ∙ f.there in
        ap (λ (c : Bool). cond c (bytes_after_write bytes s.to s.payload) bytes) (denied_at_lem place s.end s.kind s.stag s.to (length s.payload) regions f.region own there f.right)
    by false is = refl

pub fetched_bytes : (place stag : ℕ) (regions : List Region) (segments : List TaggedSegment) → HaveOwnStags (region_grants place regions) → (f : IsFetched regions stag) → region_bytes (region_grants place regions) regions segments stag ≡ f.region.bytes
unfolding region_bytes
fetched_bytes place stag regions segments own f =
    ap (λ (o : Option Region). region_bytes_by (region_grants place regions) segments o) f.there
    ∙ ap (λ (n : ℕ). contents (region_grants place regions) n f.region.bytes segments) f.own
    ∙ unwritten place stag regions f.region.bytes f own segments
