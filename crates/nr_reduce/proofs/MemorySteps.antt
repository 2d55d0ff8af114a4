-- Memory that holds the open regions of an end holds them from event to event: at a later offset, after an access, when regions are
-- closed, and when one more is registered.
use Rattle.std.proofs.Common.{◌≡◌, ◌≢◌, ℕ, ◌<◌, ◌≤◌, Bool, true, false, cond, ◌&&◌, eqb, leb, ltb, List, [], ◌∷◌, ◌++◌, length, map, Option, None, Some, refl, sym, ap, subst, ◌∙◌, arith, inl, inr}
use Rattle.std.specs.Prelude.{IfSome}
use Rattle.std.proofs.lemmas.Bool.{eqb-true, eq-eqb, ne_eqb, cases_eq, le-leb, le-ltb}
use Rattle.nr_regions.specs.RegisteredMemory.{Region as HeldRegion, RegisteredMemory, Access, live_region, denial_in, region_offer, denial, after_register, bytes_after_write}
use Rattle.nr_regions.specs.Access.{Grant, TaggedSegment, applies, grant_at, grant_offer, grant_denial, access_of_tagged, after_segment, contents}
use Rattle.nr_regions.specs.Events.{after_event, after_arrival}
use Rattle.nr_regions.specs.Events.MemoryEvent.{Arrive}
use Rattle.nr_regions.proofs.Holding.{live_register_here, live_register_other, live_arrive_other}
use Rattle.nr_regions.proofs.Contents.{contents_are}
use Rattle.nr_reduce.specs.OfferedRegions.{Region, until_or, region_grant, region_grants, until_at, closed_if, regions_closed}
use Rattle.nr_reduce.specs.OfferedMemory.{region_at, AreOffered, AreReceived, held_if_open, registered_region, HoldsRegions, is_closed_by, ReleasesClosed}
use Rattle.nr_reduce.proofs.OfferedMemory.{grants_from, found, none_found_lem, granted, offer_if_open, offer_of, contents_same, IsAlike, AreAlike, alike_offers, judged, sized_by, contents_length}

stag_found : (regions : List Region) (stag : ℕ) (r : Region) → region_at regions stag ≡ Some r → r.stag ≡ stag
stag_found [] stag r e = absurd cc
stag_found (x ∷ regions) stag r e = by (eqb x.stag stag) refl e (stag_found regions stag r)
  where
    by : (b : Bool) → eqb x.stag stag ≡ b → cond b (Some x) (region_at regions stag) ≡ Some r → (region_at regions stag ≡ Some r → r.stag ≡ stag) → r.stag ≡ stag
    by true is e later = (let same : x ≡ r = cc in ap (λ (q : Region). q.stag) (sym same) ∙ eqb-true x.stag stag is)
    by false is e later = later e

-- ---- Contents have the length of their region

sized_found : (place now end stag : ℕ) (regions : List Region) (r : Region) → AreOffered place regions → region_at regions stag ≡ Some r → sized_by (grant_offer (found stag end (grants_from now regions))) (length r.bytes)
sized_found place now end stag [] r h e = absurd cc
sized_found place now end stag (x ∷ regions) r h e = by (eqb x.stag stag) refl e (sized_found place now end stag regions r h.1.1.1)
  where
    others : Option Grant
    others = found stag end (grants_from now regions)

    rest : Bool
    rest = ltb x.from end && leb end (until_or now x.until)

    first : (b : Bool) → others ≡ None → x ≡ r → sized_by (grant_offer (cond b (Some (region_grant now x)) others)) (length r.bytes)
    first true none same = ap (λ (q : Region). length q.bytes) same
    first false none same = subst (λ (o : Option Grant). sized_by (grant_offer o) (length r.bytes)) (sym none) tt

    by : (b : Bool) → eqb x.stag stag ≡ b → cond b (Some x) (region_at regions stag) ≡ Some r → (region_at regions stag ≡ Some r → sized_by (grant_offer others) (length r.bytes))
        → sized_by (grant_offer (cond (eqb x.stag stag && rest) (Some (region_grant now x)) others)) (length r.bytes)
    by true is e later =
        let same : x ≡ r = (let s : Some x ≡ Some r = e in cc) in
        let none : others ≡ None = none_found_lem now end stag regions (subst (λ (s : ℕ). region_at regions s ≡ None) (eqb-true x.stag stag is) h.1.1.0) in
        subst (λ (b : Bool). sized_by (grant_offer (cond (b && rest) (Some (region_grant now x)) others)) (length r.bytes)) (sym is) (first rest none same)
    by false is e later =
        subst (λ (b : Bool). sized_by (grant_offer (cond (b && rest) (Some (region_grant now x)) others)) (length r.bytes)) (sym is) (later e)

region_length : (place now stag : ℕ) (regions : List Region) (accesses_received : List TaggedSegment) (r : Region) → AreOffered place regions → region_at regions stag ≡ Some r → length (contents (region_grants now regions) r.stag r.bytes accesses_received) ≡ length r.bytes
unfolding region_grants
region_length place now stag regions accesses_received r h e =
    let same = stag_found regions stag r e in
    contents_length (grants_from now regions) r.stag r.bytes accesses_received (length r.bytes) refl
    (λ end. subst (λ (s : ℕ). sized_by (grant_offer (found s end (grants_from now regions))) (length r.bytes)) (sym same) (sized_found place now end stag regions r h e))

-- an end denies what its grants deny
pub denied_alike : (regions : List Region) (accesses_received : List TaggedSegment) (place end : ℕ) (m : RegisteredMemory) (access : Access) → AreOffered place regions → HoldsRegions regions accesses_received place m → place < end →
    denial m access ≡ grant_denial (region_grants end regions) access end
denied_alike regions accesses_received place end m access fits holds lt =
    judged regions accesses_received place end m access fits holds lt (λ r e. region_length place place access.stag regions accesses_received r fits e)

-- ---- A later offset

self_alike : (place now later : ℕ) (regions : List Region) → place ≤ now → place ≤ later → AreAlike place now later regions regions
self_alike place now later [] low high = tt
self_alike place now later (r ∷ regions) low high =
    (record { stag = refl; right = refl; bytes = refl; from = refl; until = λ end le. by r.until end le }, self_alike place now later regions low high)
  where
    by : (u : Option ℕ) (end : ℕ) → end ≤ place → leb end (until_or now u) ≡ leb end (until_or later u)
    by None end le = le-leb end now (omega (arith, le, low)) ∙ sym (le-leb end later (omega (arith, le, high)))
    by (Some until) end le = refl

held_alike : (place now later : ℕ) (regions others : List Region) (accesses_received : List TaggedSegment) (o : Option Region) → AreAlike place now later regions others → AreReceived place accesses_received →
    registered_region (region_grants now regions) accesses_received o ≡ registered_region (region_grants later others) accesses_received o
unfolding region_grants
held_alike place now later regions others accesses_received None alike received = refl
held_alike place now later regions others accesses_received (Some r) alike received =
    ap (λ (b : List ℕ). held_if_open r.until (record { right = r.right; buf = b }))
    (contents_same place (grants_from now regions) (grants_from later others) r.stag r.bytes accesses_received (λ end le. alike_offers place now later r.stag end regions others alike le) received)

pub holds_later : (regions : List Region) (accesses_received : List TaggedSegment) (place later : ℕ) (m : RegisteredMemory) → place ≤ later → AreReceived place accesses_received → HoldsRegions regions accesses_received place m → HoldsRegions regions accesses_received later m
holds_later regions accesses_received place later m le received holds stag =
    holds stag ∙ held_alike place place later regions regions accesses_received (region_at regions stag) (self_alike place place later regions (omega arith) le) received

-- ---- An access

contents_append : (gs : List Grant) (stag : ℕ) (bytes : List ℕ) (accesses_received : List TaggedSegment) (r : TaggedSegment) → contents gs stag bytes (accesses_received ++ r ∷ []) ≡ after_segment gs stag (contents gs stag bytes accesses_received) r
contents_append gs stag bytes [] r = refl
contents_append gs stag bytes (x ∷ accesses_received) r = contents_append gs stag (after_segment gs stag bytes x) accesses_received r

dead_stays : (m : RegisteredMemory) (r : TaggedSegment) (stag : ℕ) → live_region m stag ≡ None → live_region (after_event m (Arrive r)) stag ≡ None
unfolding after_event denial
dead_stays m r stag none = elim (cases_eq stag r.stag) [
  | inl e ↦
      let here : live_region m r.stag ≡ None = subst (λ (s : ℕ). live_region m s ≡ None) e none in
      ap (λ (o : Option HeldRegion). live_region (after_arrival (denial_in (region_offer o) (access_of_tagged r)) m r) stag) here ∙ none
  | inr ne ↦ live_arrive_other m r stag ne ∙ none
]

pub holds_access : (regions : List Region) (accesses_received : List TaggedSegment) (place : ℕ) (m : RegisteredMemory) (r : TaggedSegment) → AreOffered place regions → AreReceived place accesses_received →
    ((stag : ℕ) (x : Region) → region_at regions stag ≡ Some x → stag < m.next) → place < r.end → HoldsRegions regions accesses_received place m →
    HoldsRegions regions (accesses_received ++ r ∷ []) r.end (after_event m (Arrive r))
unfolding region_grants grant_at
holds_access regions accesses_received place m r fits received below lt holds stag =
    by (region_at regions stag) refl (holds_later regions accesses_received place r.end m (omega (arith, lt)) received holds stag)
  where
    gs : List Grant
    gs = grants_from r.end regions

    by_until : (x : Region) (u : Option ℕ) → x.until ≡ u → region_at regions stag ≡ Some x → live_region m stag ≡ held_if_open u (record { right = x.right; buf = contents gs x.stag x.bytes accesses_received })
        → live_region (after_event m (Arrive r)) stag ≡ held_if_open u (record { right = x.right; buf = contents gs x.stag x.bytes (accesses_received ++ r ∷ []) })
    by_until x (Some until) u_is is live = dead_stays m r stag live
    by_until x None u_is is live =
        let same : x.stag ≡ stag = stag_found regions stag x is in
        let buf : List ℕ = contents gs stag x.bytes accesses_received in
        let there : live_region m stag ≡ Some (record { right = x.right; buf = buf }) =
        live ∙ ap (λ (s : ℕ). Some (record { right = x.right; buf = contents gs s x.bytes accesses_received })) same in
        let offers : grant_offer (found stag r.end gs) ≡ Some (x.right, length x.bytes) =
        granted place r.end stag regions fits lt ∙ ap offer_of is ∙ ap (λ (u : Option ℕ). offer_if_open u x.right (length x.bytes)) u_is in
        let sized : length buf ≡ length x.bytes = ap (λ (s : ℕ). length (contents gs s x.bytes accesses_received)) (sym same) ∙ region_length place r.end stag regions accesses_received x fits is in
        contents_are gs stag x.right (length x.bytes) (Arrive r ∷ []) m buf sized (below stag x is) there (tt, (λ e. offers), tt)
        ∙ ap (λ (b : List ℕ). Some (record { right = x.right; buf = b })) (sym (contents_append gs stag x.bytes accesses_received r))
        ∙ ap (λ (s : ℕ). Some (record { right = x.right; buf = contents gs s x.bytes (accesses_received ++ r ∷ []) })) (sym same)

    by : (o : Option Region) → region_at regions stag ≡ o → live_region m stag ≡ registered_region gs accesses_received o → live_region (after_event m (Arrive r)) stag ≡ registered_region gs (accesses_received ++ r ∷ []) o
    by None is live = dead_stays m r stag live
    by (Some x) is live = by_until x x.until refl is live

-- ---- Closed regions

abbrev closed_list : (Region → Bool) → ℕ → List Region → List Region
closed_list test place regions = map (λ r. closed_if (test r) place r) regions

abbrev closed_option : (Region → Bool) → ℕ → Option Region → Option Region
closed_option test place None = None
closed_option test place (Some r) = Some (closed_if (test r) place r)

abbrev ClosedIs : (Region → Bool) → (place stag : ℕ) → List Region → Option Region → Type 0
ClosedIs test place stag regions o = region_at (closed_list test place regions) stag ≡ closed_option test place o

closed_at : (test : Region → Bool) (place stag : ℕ) (regions : List Region) (o : Option Region) → region_at regions stag ≡ o → ClosedIs test place stag regions o
closed_at test place stag [] None e = refl
closed_at test place stag [] (Some r) e = absurd cc
closed_at test place stag (x ∷ regions) o e = by (eqb x.stag stag) refl e (λ h. closed_at test place stag regions o h)
  where
    others : Option Region
    others = region_at (closed_list test place regions) stag

    same : (b : Bool) → (closed_if b place x).stag ≡ x.stag
    same true = refl
    same false = refl

    by : (b : Bool) → eqb x.stag stag ≡ b → cond b (Some x) (region_at regions stag) ≡ o → (region_at regions stag ≡ o → ClosedIs test place stag regions o) → ClosedIs test place stag (x ∷ regions) o
    by true is e later =
        ap (λ (s : ℕ). cond (eqb s stag) (Some (closed_if (test x) place x)) others) (same (test x))
        ∙ ap (λ (b : Bool). cond b (Some (closed_if (test x) place x)) others) is
        ∙ ap (λ (q : Option Region). closed_option test place q) e
    by false is e later =
        ap (λ (s : ℕ). cond (eqb s stag) (Some (closed_if (test x) place x)) others) (same (test x))
        ∙ ap (λ (b : Bool). cond b (Some (closed_if (test x) place x)) others) is
        ∙ later e

closed_alike : (test : Region → Bool) (place later : ℕ) (regions : List Region) → place ≤ later → AreAlike place place later regions (closed_list test later regions)
closed_alike test place later [] le = tt
closed_alike test place later (r ∷ regions) le = (by (test r), closed_alike test place later regions le)
  where
    until_alike : (u : Option ℕ) (end : ℕ) → end ≤ place → leb end (until_or place u) ≡ leb end (until_or later (until_at later u))
    until_alike None end low = le-leb end place low ∙ sym (le-leb end later (omega (arith, low, le)))
    until_alike (Some until) end low = refl

    open_alike : (u : Option ℕ) (end : ℕ) → end ≤ place → leb end (until_or place u) ≡ leb end (until_or later u)
    open_alike None end low = le-leb end place low ∙ sym (le-leb end later (omega (arith, low, le)))
    open_alike (Some until) end low = refl

    by : (b : Bool) → IsAlike place place later r (closed_if b later r)
    by true = record { stag = refl; right = refl; bytes = refl; from = refl; until = until_alike r.until }
    by false = record { stag = refl; right = refl; bytes = refl; from = refl; until = open_alike r.until }

pub holds_closed : (test : Region → Bool) (regions : List Region) (accesses_received : List TaggedSegment) (place later : ℕ) (m after : RegisteredMemory) → place ≤ later → AreReceived place accesses_received → ReleasesClosed test regions m after →
    HoldsRegions regions accesses_received place m → HoldsRegions (regions_closed test later regions) accesses_received later after
unfolding regions_closed
holds_closed test regions accesses_received place later m after le received releases holds stag =
    by (region_at regions stag) refl (releases stag) (holds stag)
  where
    closed : List Region
    closed = closed_list test later regions

    by_test : (x : Region) (b : Bool) → live_region after stag ≡ cond b None (live_region m stag) → live_region m stag ≡ registered_region (region_grants place regions) accesses_received (Some x)
        → live_region after stag ≡ registered_region (region_grants later closed) accesses_received (Some (closed_if b later x))
    by_test x true is live = is ∙ dead x.until
      where
        dead : (u : Option ℕ) → None ≡ held_if_open (until_at later u) (record { right = x.right; buf = contents (region_grants later closed) x.stag x.bytes accesses_received })
        dead None = refl
        dead (Some until) = refl
    by_test x false is live =
        is ∙ live ∙ held_alike place place later regions closed accesses_received (Some x) (closed_alike test place later regions le) received

    by : (o : Option Region) → region_at regions stag ≡ o → live_region after stag ≡ cond (is_closed_by test (region_at regions stag)) None (live_region m stag) → live_region m stag ≡ registered_region (region_grants place regions) accesses_received (region_at regions stag)
        → live_region after stag ≡ registered_region (region_grants later closed) accesses_received (region_at closed stag)
    by None is released live =
        released
        ∙ ap (λ (o : Option Region). cond (is_closed_by test o) None (live_region m stag)) is
        ∙ live
        ∙ ap (λ (o : Option Region). registered_region (region_grants place regions) accesses_received o) is
        ∙ ap (λ (o : Option Region). registered_region (region_grants later closed) accesses_received o) (sym (closed_at test later stag regions None is))
    by (Some x) is released live =
        by_test x (test x)
        (released ∙ ap (λ (o : Option Region). cond (is_closed_by test o) None (live_region m stag)) is)
        (live ∙ ap (λ (o : Option Region). registered_region (region_grants place regions) accesses_received o) is)
        ∙ ap (λ (o : Option Region). registered_region (region_grants later closed) accesses_received o) (sym (closed_at test later stag regions (Some x) is))

-- ---- One more region

abbrev or_region : Option Region → Option Region → Option Region
or_region None other = other
or_region (Some r) other = Some r

at_append : (regions : List Region) (r : Region) (stag : ℕ) (o : Option Region) → region_at regions stag ≡ o → region_at (regions ++ r ∷ []) stag ≡ or_region o (cond (eqb r.stag stag) (Some r) None)
at_append [] r stag None e = refl
at_append [] r stag (Some x) e = absurd cc
at_append (y ∷ regions) r stag o e = by (eqb y.stag stag) refl e (λ h. at_append regions r stag o h)
  where
    by : (b : Bool) → eqb y.stag stag ≡ b → cond b (Some y) (region_at regions stag) ≡ o → (region_at regions stag ≡ o → region_at (regions ++ r ∷ []) stag ≡ or_region o (cond (eqb r.stag stag) (Some r) None))
        → cond (eqb y.stag stag) (Some y) (region_at (regions ++ r ∷ []) stag) ≡ or_region o (cond (eqb r.stag stag) (Some r) None)
    by true is e later =
        ap (λ (b : Bool). cond b (Some y) (region_at (regions ++ r ∷ []) stag)) is ∙ ap (λ (q : Option Region). or_region q (cond (eqb r.stag stag) (Some r) None)) e
    by false is e later = ap (λ (b : Bool). cond b (Some y) (region_at (regions ++ r ∷ []) stag)) is ∙ later e

-- a region that begins at an offset is granted to no frame that ends there or before
append_offers : (now place stag end : ℕ) (regions : List Region) (r : Region) → r.from ≡ place → end ≤ place → grant_offer (found stag end (grants_from now regions)) ≡ grant_offer (found stag end (grants_from now (regions ++ r ∷ [])))
append_offers now place stag end [] r from le =
    (let none : ltb r.from end ≡ false = le-ltb r.from end (omega (arith, from, le)) in
    sym (ap (λ (b : Bool). grant_offer (cond (eqb r.stag stag && (b && leb end (until_or now r.until))) (Some (region_grant now r)) None)) none ∙ and_false (eqb r.stag stag)))
  where
    and_false : (b : Bool) → grant_offer (cond (b && false) (Some (region_grant now r)) None) ≡ None
    and_false true = refl
    and_false false = refl
append_offers now place stag end (x ∷ regions) r from le = by (applies stag end (region_grant now x)) (append_offers now place stag end regions r from le)
  where
    by : (b : Bool) → grant_offer (found stag end (grants_from now regions)) ≡ grant_offer (found stag end (grants_from now (regions ++ r ∷ [])))
        → grant_offer (cond b (Some (region_grant now x)) (found stag end (grants_from now regions))) ≡ grant_offer (cond b (Some (region_grant now x)) (found stag end (grants_from now (regions ++ r ∷ []))))
    by true h = refl
    by false h = h

none_offered : (place now end stag : ℕ) (regions : List Region) (r : Region) → region_at regions stag ≡ None → r.from ≡ place → end ≤ place → grant_offer (found stag end (grants_from now (regions ++ r ∷ []))) ≡ None
none_offered place now end stag regions r none from le =
    sym (append_offers now place stag end regions r from le) ∙ ap grant_offer (none_found_lem now end stag regions none)

-- without an offer nothing is placed
after_empty : (stag : ℕ) (bytes : List ℕ) (r : TaggedSegment) → after_segment [] stag bytes r ≡ bytes
unfolding grant_denial grant_at
after_empty stag bytes r = by (eqb r.stag stag)
  where
    by : (b : Bool) → cond (b && false) (bytes_after_write bytes r.to r.payload) bytes ≡ bytes
    by true = refl
    by false = refl

contents_empty : (stag : ℕ) (bytes : List ℕ) (accesses_received : List TaggedSegment) → contents [] stag bytes accesses_received ≡ bytes
contents_empty stag bytes [] = refl
contents_empty stag bytes (r ∷ accesses_received) =
    ap (λ (b : List ℕ). contents [] stag b accesses_received) (after_empty stag bytes r) ∙ contents_empty stag bytes accesses_received

contents_none : (place : ℕ) (gs : List Grant) (stag : ℕ) (bytes : List ℕ) (accesses_received : List TaggedSegment) → ((end : ℕ) → end ≤ place → grant_offer (found stag end gs) ≡ None) → AreReceived place accesses_received → contents gs stag bytes accesses_received ≡ bytes
contents_none place gs stag bytes accesses_received none received =
    contents_same place gs [] stag bytes accesses_received (λ end le. none end le) received ∙ contents_empty stag bytes accesses_received

pub holds_registered : (regions : List Region) (accesses_received : List TaggedSegment) (place : ℕ) (m : RegisteredMemory) (r : Region) → AreReceived place accesses_received → region_at regions m.next ≡ None →
    r.stag ≡ m.next → r.from ≡ place → r.until ≡ None → HoldsRegions regions accesses_received place m → HoldsRegions (regions ++ r ∷ []) accesses_received place (after_register m r.right r.bytes)
unfolding region_grants
holds_registered regions accesses_received place m r received fresh is_next from is_open holds stag =
    by (region_at regions stag) refl (holds stag)
  where
    gs : List Grant
    gs = grants_from place regions

    hs : List Grant
    hs = grants_from place (regions ++ r ∷ [])

    after : RegisteredMemory
    after = after_register m r.right r.bytes

    old : stag ≢ m.next → live_region after stag ≡ live_region m stag
    old ne = live_register_other m r.right r.bytes stag ne

    by : (o : Option Region) → region_at regions stag ≡ o → live_region m stag ≡ registered_region gs accesses_received (region_at regions stag) → live_region after stag ≡ registered_region hs accesses_received (region_at (regions ++ r ∷ []) stag)
    by (Some x) is live =
        old (λ e. (let wrong : Some x ≡ None = sym is ∙ ap (λ (s : ℕ). region_at regions s) e ∙ fresh in cc))
        ∙ live
        ∙ ap (λ (o : Option Region). registered_region gs accesses_received o) is
        ∙ ap (λ (b : List ℕ). held_if_open x.until (record { right = x.right; buf = b }))
        (contents_same place gs hs x.stag x.bytes accesses_received (λ end le. append_offers place place x.stag end regions r from le) received)
        ∙ ap (λ (o : Option Region). registered_region hs accesses_received o) (sym (at_append regions r stag (Some x) is))
    by None is live = elim (cases_eq stag m.next) [
      | inl e ↦
          let same : r.stag ≡ stag = is_next ∙ sym e in
          let none : region_at regions r.stag ≡ None = ap (λ (s : ℕ). region_at regions s) same ∙ is in
          ap (λ (s : ℕ). live_region after s) e
          ∙ live_register_here m r.right r.bytes
          ∙ ap (λ (b : List ℕ). Some (record { right = r.right; buf = b })) (sym (contents_none place hs r.stag r.bytes accesses_received (λ end le. none_offered place place end r.stag regions r none from le) received))
          ∙ ap (λ (u : Option ℕ). held_if_open u (record { right = r.right; buf = contents hs r.stag r.bytes accesses_received })) (sym is_open)
          ∙ ap (λ (b : Bool). registered_region hs accesses_received (cond b (Some r) None)) (sym (eq-eqb r.stag stag same))
          ∙ ap (λ (o : Option Region). registered_region hs accesses_received o) (sym (at_append regions r stag None is))
      | inr ne ↦
          old ne
          ∙ live
          ∙ ap (λ (o : Option Region). registered_region gs accesses_received o) is
          ∙ ap (λ (b : Bool). registered_region hs accesses_received (cond b (Some r) None)) (sym (ne_eqb r.stag stag (λ e. ne (sym e ∙ is_next))))
          ∙ ap (λ (o : Option Region). registered_region hs accesses_received o) (sym (at_append regions r stag None is))
    ]

-- ---- Regions and accesses along a stream

pub received_later : (place later : ℕ) (accesses_received : List TaggedSegment) → place ≤ later → AreReceived place accesses_received → AreReceived later accesses_received
received_later place later [] le h = tt
received_later place later (r ∷ accesses_received) le h = ((let a = h.0 in omega (arith, a, le)), received_later place later accesses_received le h.1)

pub received_one : (place : ℕ) (accesses_received : List TaggedSegment) (r : TaggedSegment) → place ≤ r.end → AreReceived place accesses_received → AreReceived r.end (accesses_received ++ r ∷ [])
received_one place [] r le h = (omega arith, tt)
received_one place (x ∷ accesses_received) r le h = ((let a = h.0 in omega (arith, a, le)), received_one place accesses_received r le h.1)

some_later : (u : Option ℕ) (place later : ℕ) → place ≤ later → IfSome u (λ until. until ≤ place) → IfSome u (λ until. until ≤ later)
some_later None place later le h = tt
some_later (Some until) place later le h = omega (arith, h, le)

pub offered_later : (place later : ℕ) (regions : List Region) → place ≤ later → AreOffered place regions → AreOffered later regions
offered_later place later [] le h = tt
offered_later place later (r ∷ regions) le h =
    ((let a = h.0 in omega (arith, a, le)), (some_later r.until place later le h.1.0, (h.1.1.0, offered_later place later regions le h.1.1.1)))

pub offered_closed : (test : Region → Bool) (place later : ℕ) (regions : List Region) → place ≤ later → AreOffered place regions → AreOffered later (regions_closed test later regions)
unfolding regions_closed
offered_closed test place later [] le h = tt
offered_closed test place later (r ∷ regions) le h =
    by (test r) (closed_at test later r.stag regions None h.1.1.0) (offered_closed test place later regions le h.1.1.1)
  where
    until_fits : (u : Option ℕ) → IfSome u (λ until. until ≤ place) → IfSome (until_at later u) (λ until. until ≤ later)
    until_fits None h = omega arith
    until_fits (Some until) h = omega (arith, h, le)

    by : (b : Bool) → region_at (closed_list test later regions) r.stag ≡ None → AreOffered later (closed_list test later regions) → AreOffered later (closed_if b later r ∷ closed_list test later regions)
    by true none rest = ((let a = h.0 in omega (arith, a, le)), (until_fits r.until h.1.0, (none, rest)))
    by false none rest = ((let a = h.0 in omega (arith, a, le)), (some_later r.until place later le h.1.0, (none, rest)))

pub offered_registered : (place : ℕ) (regions : List Region) (r : Region) → r.from ≤ place → r.until ≡ None → region_at regions r.stag ≡ None → AreOffered place regions → AreOffered place (regions ++ r ∷ [])
offered_registered place [] r from is_open fresh h = (from, (subst (λ (u : Option ℕ). IfSome u (λ until. until ≤ place)) (sym is_open) tt, (refl, tt)))
offered_registered place (x ∷ regions) r from is_open fresh h = by (eqb x.stag r.stag) refl fresh (λ none. offered_registered place regions r from is_open none h.1.1.1)
  where
    by : (b : Bool) → eqb x.stag r.stag ≡ b → cond b (Some x) (region_at regions r.stag) ≡ None → (region_at regions r.stag ≡ None → AreOffered place (regions ++ r ∷ [])) → AreOffered place (x ∷ (regions ++ r ∷ []))
    by true is none later = absurd (let wrong : Some x ≡ None = none in cc)
    by false is none later =
        let apart : eqb r.stag x.stag ≡ false = ne_eqb r.stag x.stag (λ e. (let wrong : true ≡ false = sym (eq-eqb x.stag r.stag (sym e)) ∙ is in cc)) in
        (h.0, (h.1.0, (at_append regions r x.stag None h.1.1.0 ∙ ap (λ (b : Bool). cond b (Some r) None) apart, later none)))
