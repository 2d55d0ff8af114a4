-- A region that stays open holds what was registered, with the payload of each allowed tagged segment over it.
use Rattle.std.proofs.Common.{◌≡◌, ◌≢◌, ℕ, zero, suc, ◌+◌, ◌<◌, ◌≤◌, Bool, true, false, cond, eqb, ltb, leb, List, [], ◌∷◌, length, Option, None, Some, refl, sym, ap, ◌∙◌, ◌↔◌, inl, inr, arith}
use Rattle.std.specs.Prelude.{Contains, find, is_none, ◌&&◌, All}
use Rattle.std.proofs.lemmas.List.Elements.{All-head, All-tail}
use Rattle.std.proofs.lemmas.Bool.{ltb-true, leb-true, eqb-true, eq-eqb, ne_eqb, cases_eq, and_parts, and_from, lt-ltb, le-leb, le-ltb, ltb-false}
use Rattle.nr_regions.specs.declared.right.Right.{Right}
use Rattle.nr_regions.specs.declared.right.Right.TheVariants.{Fetch, Fill, Sink}
use Rattle.nr_regions.specs.declared.denied.Denied.{Denied}
use Rattle.nr_regions.specs.declared.denied.Denied.TheVariants.{NoStag, Bounds, Right as WrongRight}
use Rattle.nr_regions.specs.RegisteredMemory.{RegisteredMemory, Access, held_region, live_region, same_right, denial_in, region_offer, denial, after_register, after_release, after_invalidate, bytes_after_write}
use Rattle.nr_regions.specs.Access.{Grant, applies, grant_at, grant_offer, grant_denial, Allowed, HasOwnStag, HaveOwnStags, TaggedSegment, access_of_tagged, after_segment, contents}
use Rattle.nr_regions.specs.Events.{MemoryEvent, after_event, after_events, tagged_segments, IsNoReleaseOf, IsGranted, StaysOpen, DeadUntilReleased}
use Rattle.nr_regions.specs.Events.MemoryEvent.{Register, Release, Invalidate, Arrive}
use Rattle.nr_regions.proofs.Holding.{register_other, release_other, arrive_other, arrive_here, next_arrive, buf_after, length_buf_after, live_register_other, live_release_here, live_release_other, live_invalidate_here, live_invalidate_other, live_arrive_other, none_arrive, invalidate_held, next_invalidate}

-- memory denies what the grants do, if both offer the same
pub same_denial : (grants : List Grant) (m : RegisteredMemory) (access : Access) (end : ℕ) → region_offer (live_region m access.stag) ≡ grant_offer (grant_at grants access.stag end) → denial m access ≡ grant_denial grants access end
unfolding denial grant_denial
same_denial grants m access end e = ap (λ (o : Option (Right × ℕ)). denial_in o access) e

-- what a segment leaves of the bytes is what the grants say
after_by : (d : Option Denied) (buf : List ℕ) (r : TaggedSegment) (stag : ℕ) → r.stag ≡ stag → buf_after d buf r ≡ cond (eqb r.stag stag && is_none d) (bytes_after_write buf r.to r.payload) buf
after_by None buf r stag e = rw (eq-eqb r.stag stag e) refl
after_by (Some denied) buf r stag e = rw (eq-eqb r.stag stag e) refl

after_here : (grants : List Grant) (stag : ℕ) (right : Right) (buf : List ℕ) (r : TaggedSegment) → r.stag ≡ stag → grant_offer (grant_at grants stag r.end) ≡ Some (right, length buf)
    → buf_after (denial_in (Some (right, length buf)) (access_of_tagged r)) buf r ≡ after_segment grants stag buf r
unfolding grant_denial
after_here grants stag right buf r e granted =
    let same : grant_denial grants (access_of_tagged r) r.end ≡ denial_in (Some (right, length buf)) (access_of_tagged r) =
    ap (λ (o : Option (Right × ℕ)). denial_in o (access_of_tagged r)) (ap (λ (s : ℕ). grant_offer (grant_at grants s r.end)) e ∙ granted) in
    after_by (denial_in (Some (right, length buf)) (access_of_tagged r)) buf r stag e
    ∙ ap (λ (d : Option Denied). cond (eqb r.stag stag && is_none d) (bytes_after_write buf r.to r.payload) buf) (sym same)

pub after_other : (grants : List Grant) (stag : ℕ) (buf : List ℕ) (r : TaggedSegment) → (r.stag ≡ stag → ⊥) → after_segment grants stag buf r ≡ buf
after_other grants stag buf r ne = ap (λ (b : Bool). cond (b && is_none (grant_denial grants (access_of_tagged r) r.end)) (bytes_after_write buf r.to r.payload) buf) (ne_eqb r.stag stag ne)

after_one : (grants : List Grant) (stag : ℕ) (right : Right) (len : ℕ) (r : TaggedSegment) (m : RegisteredMemory) (buf : List ℕ) → length buf ≡ len
    → live_region m stag ≡ Some (record { right = right; buf = buf }) → IsGranted grants stag right len (Arrive r)
    → (live_region (after_event m (Arrive r)) stag ≡ Some (record { right = right; buf = after_segment grants stag buf r })) × (length (after_segment grants stag buf r) ≡ len)
after_one grants stag right len r m buf is there granted =
    elim (cases_eq r.stag stag) [
      | inl e ↦
          let offer_is = granted e ∙ ap (λ (n : ℕ). Some (right, n)) (sym is) in
          let bytes = after_here grants stag right buf r e offer_is in
          let here = arrive_here m r right buf (ap (live_region m) e ∙ there) in (
            ap (live_region (after_event m (Arrive r))) (sym e) ∙ here ∙ ap (λ (b : List ℕ). Some (record { right = right; buf = b })) bytes,
            ap length (sym bytes) ∙ length_buf_after right buf r ∙ is,
          )
      | inr ne ↦
          let bytes = after_other grants stag buf r ne in (
            live_arrive_other m r stag (λ e. ne (sym e)) ∙ there ∙ ap (λ (b : List ℕ). Some (record { right = right; buf = b })) (sym bytes),
            ap length bytes ∙ is,
          )
    ]

pub contents_are : (grants : List Grant) (stag : ℕ) (right : Right) (len : ℕ) (events : List MemoryEvent) (m : RegisteredMemory) (buf : List ℕ) → length buf ≡ len → stag < m.next
    → live_region m stag ≡ Some (record { right = right; buf = buf }) → StaysOpen grants stag right len events
    → live_region (after_events m events) stag ≡ Some (record { right = right; buf = contents grants stag buf (tagged_segments events) })
unfolding after_event after_register after_release
contents_are grants stag right len [] m buf is given there open_ = there
contents_are grants stag right len (Register other b ∷ events) m buf is given there open_ =
    contents_are grants stag right len events (after_register m other b) buf is (omega arith) (live_register_other m other b stag (λ e. omega arith) ∙ there) open_.2
contents_are grants stag right len (Release other ∷ events) m buf is given there open_ =
    contents_are grants stag right len events (after_release m other) buf is given (live_release_other m other stag (λ e. open_.0 (sym e)) ∙ there) open_.2
contents_are grants stag right len (Invalidate other ∷ events) m buf is given there open_ =
    contents_are grants stag right len events (after_invalidate m other) buf is (omega (arith, given, next_invalidate m other)) (live_invalidate_other m other stag (λ e. open_.0 (sym e)) ∙ there) open_.2
contents_are grants stag right len (Arrive r ∷ events) m buf is given there open_ =
    let next = after_one grants stag right len r m buf is there open_.1 in
    contents_are grants stag right len events (after_event m (Arrive r)) (after_segment grants stag buf r) next.1 (omega (arith, next_arrive m r)) next.0 open_.2

-- STags only rise
pub next_after_event : (m : RegisteredMemory) (event : MemoryEvent) → m.next ≤ (after_event m event).next
unfolding after_event after_register after_release
next_after_event m (Register right buf) = omega arith
next_after_event m (Release stag) = omega arith
next_after_event m (Invalidate stag) = omega (arith, next_invalidate m stag)
next_after_event m (Arrive r) = omega (arith, next_arrive m r)

pub next_after_events : (events : List MemoryEvent) (m : RegisteredMemory) → m.next ≤ (after_events m events).next
next_after_events [] m = omega arith
next_after_events (event ∷ events) m = omega (arith, next_after_event m event, next_after_events events (after_event m event))

-- one grant that applies, found and allowed
same_right_true : (a b : Right) → same_right a b ≡ true → a ≡ b
same_right_true Fetch Fetch e = refl
same_right_true Fill Fill e = refl
same_right_true Sink Sink e = refl
same_right_true Fetch Fill e = absurd (let wrong : false ≡ true = e in cc)
same_right_true Fetch Sink e = absurd (let wrong : false ≡ true = e in cc)
same_right_true Fill Fetch e = absurd (let wrong : false ≡ true = e in cc)
same_right_true Fill Sink e = absurd (let wrong : false ≡ true = e in cc)
same_right_true Sink Fetch e = absurd (let wrong : false ≡ true = e in cc)
same_right_true Sink Fill e = absurd (let wrong : false ≡ true = e in cc)

same_right_self : (a : Right) → same_right a a ≡ true
same_right_self Fetch = refl
same_right_self Fill = refl
same_right_self Sink = refl

abbrev some : Denied → Option Denied
some denied = Some denied

-- an offer denies nothing if the range is within it and the right is the one needed
record Suffices (right : Right) (len : ℕ) (access : Access) : Type 0 where
  within : access.to + access.len ≤ len
  right_is : right ≡ access.right

suffices_by : (right : Right) (len : ℕ) (access : Access) (short same : Bool) → ltb len (access.to + access.len) ≡ short → same_right right access.right ≡ same
    → cond short (Some Bounds) (cond same None (Some WrongRight)) ≡ None → Suffices right len access
suffices_by right len access true same p q e = absurd (let wrong : some Bounds ≡ None = e in cc)
suffices_by right len access false true p q e = record { within = ltb-false _ _ p; right_is = same_right_true right access.right q }
suffices_by right len access false false p q e = absurd (let wrong : some WrongRight ≡ None = e in cc)

suffices : (right : Right) (len : ℕ) (access : Access) → denial_in (Some (right, len)) access ≡ None → Suffices right len access
suffices right len access e = suffices_by right len access (ltb len (access.to + access.len)) (same_right right access.right) refl refl e

not_denied : (right : Right) (len : ℕ) (access : Access) → Suffices right len access → denial_in (Some (right, len)) access ≡ None
not_denied right len access s =
    λ i. cond (le-ltb len (access.to + access.len) s.within i) (Some Bounds)
    (cond ((ap (same_right right) (sym s.right_is) ∙ same_right_self right) i) None (Some WrongRight))

-- the grant found stands in the list, and applies
record Found (grants : List Grant) (stag end : ℕ) (g : Grant) : Type 0 where
  there : Contains grants g
  applies_is : applies stag end g ≡ true

abbrev one : Grant → Option Grant
one g = Some g

same_one : (g h : Grant) → one g ≡ one h → g ≡ h
same_one g h e = cc

front : (h : Grant) (grants : List Grant) (g : Grant) → h ≡ g → Contains (h ∷ grants) g
front h grants g e = (zero, omega arith, e)

later : (h : Grant) (grants : List Grant) (g : Grant) → Contains grants g → Contains (h ∷ grants) g
later h grants g (k, lt, is) = (suc k, omega arith, is)

found_first : (h : Grant) (grants : List Grant) (stag end : ℕ) (g : Grant) (b : Bool) → applies stag end h ≡ b → cond b (Some h) (find (applies stag end) grants) ≡ Some g
    → (find (applies stag end) grants ≡ Some g → Found grants stag end g) → Found (h ∷ grants) stag end g
found_first h grants stag end g true e is next =
    let same = same_one h g is in
    record { there = front h grants g same; applies_is = ap (applies stag end) (sym same) ∙ e }
found_first h grants stag end g false e is next = let f = next is in record { there = later h grants g f.there; applies_is = f.applies_is }

found : (grants : List Grant) (stag end : ℕ) (g : Grant) → find (applies stag end) grants ≡ Some g → Found grants stag end g
found [] stag end g e = absurd (let wrong : None ≡ one g = e in cc)
found (h ∷ grants) stag end g e = found_first h grants stag end g (applies stag end h) refl e (found grants stag end g)

pub record GrantApplies (stag end : ℕ) (g : Grant) : Type 0 where
  pub stag_is : g.stag ≡ stag
  pub begun : g.from < end
  pub not_ended : end ≤ g.until

pub applies_is : (stag end : ℕ) (g : Grant) → applies stag end g ≡ true → GrantApplies stag end g
applies_is stag end g e =
    let p = and_parts (eqb g.stag stag) (ltb g.from end && leb end g.until) e in
    let q = and_parts (ltb g.from end) (leb end g.until) p.1 in
    record { stag_is = eqb-true _ _ p.0; begun = ltb-true _ _ q.0; not_ended = leb-true _ _ q.1 }

applies_by : (stag end : ℕ) (g : Grant) → GrantApplies stag end g → applies stag end g ≡ true
applies_by stag end g c =
    and_from (eqb g.stag stag) (ltb g.from end && leb end g.until) (eq-eqb _ _ c.stag_is)
    (and_from (ltb g.from end) (leb end g.until) (lt-ltb _ _ c.begun) (le-leb _ _ c.not_ended))

other_stag : (stag end : ℕ) (h : Grant) → (h.stag ≡ stag → ⊥) → applies stag end h ≡ false
other_stag stag end h ne = ap (λ (b : Bool). b && (ltb h.from end && leb end h.until)) (ne_eqb h.stag stag ne)

apart : (h : Grant) (grants : List Grant) (g : Grant) → HasOwnStag h grants → Contains grants g → h.stag ≢ g.stag
apart h [] g a (k, lt, is) = absurd (omega arith)
apart h (x ∷ grants) g a (zero, lt, is) = λ e. a.0 (e ∙ ap (λ (y : Grant). y.stag) (sym is))
apart h (x ∷ grants) g a (suc k, lt, is) = apart h grants g a.1 (k, omega arith, is)

only : (grants : List Grant) (stag end : ℕ) (g : Grant) → HaveOwnStags grants → Contains grants g → GrantApplies stag end g → find (applies stag end) grants ≡ Some g
only [] stag end g own (k, lt, is) c = absurd (omega arith)
only (h ∷ grants) stag end g own (zero, lt, is) c =
    let here : applies stag end h ≡ true = ap (applies stag end) is ∙ applies_by stag end g c in
    ap (λ (b : Bool). cond b (Some h) (find (applies stag end) grants)) here ∙ ap one is
only (h ∷ grants) stag end g own (suc k, lt, is) c =
    let there : Contains grants g = (k, omega arith, is) in
    let other = other_stag stag end h (λ e. apart h grants g own.0 there (e ∙ sym c.stag_is)) in
    ap (λ (b : Bool). cond b (Some h) (find (applies stag end) grants)) other ∙ only grants stag end g own.1 there c

allowed_by : (grants : List Grant) (access : Access) (end : ℕ) (o : Option Grant) → find (applies access.stag end) grants ≡ o → denial_in (grant_offer o) access ≡ None → Allowed grants access end
allowed_by grants access end None e none = absurd (let wrong : some NoStag ≡ None = none in cc)
allowed_by grants access end (Some g) e none =
    let f = found grants access.stag end g e in
    let c = applies_is access.stag end g f.applies_is in
    let s = suffices g.right g.len access none in
    record { grant = g; there = f.there; stag = c.stag_is; begun = c.begun; not_ended = c.not_ended; within = s.within; right = s.right_is }

-- an access is allowed if and only if nothing denies it
pub allowed_iff : (grants : List Grant) (access : Access) (end : ℕ) → HaveOwnStags grants → Allowed grants access end ↔ (grant_denial grants access end ≡ None)
unfolding grant_denial grant_at
allowed_iff grants access end own = (
  λ a.
      let g = a.grant in
      let at = only grants access.stag end g own a.there (record { stag_is = a.stag; begun = a.begun; not_ended = a.not_ended }) in
      ap (λ (o : Option Grant). denial_in (grant_offer o) access) at
      ∙ not_denied g.right g.len access (record { within = a.within; right_is = a.right }),
  λ e. allowed_by grants access end (find (applies access.stag end) grants) refl e,
)

-- ---- An STag that is no longer live

none_placed : (m : RegisteredMemory) (s : TaggedSegment) → live_region m s.stag ≡ None → live_region (after_event m (Arrive s)) s.stag ≡ None
none_placed m s none = ap (λ (n : RegisteredMemory). live_region n s.stag) (none_arrive m s none) ∙ none

dead_by : (m : RegisteredMemory) (stag : ℕ) (event : MemoryEvent) → stag < m.next → live_region m stag ≡ None → live_region (after_event m event) stag ≡ None
unfolding after_event
dead_by m stag (Register right buf) lt none = live_register_other m right buf stag (λ e. omega arith) ∙ none
dead_by m stag (Release other) lt none =
    elim (cases_eq stag other) [
      | inl e ↦ rw e (live_release_here m other)
      | inr ne ↦ live_release_other m other stag ne ∙ none
    ]
dead_by m stag (Invalidate other) lt none =
    elim (cases_eq stag other) [
      | inl e ↦ rw e (live_invalidate_here m other)
      | inr ne ↦ live_invalidate_other m other stag ne ∙ none
    ]
dead_by m stag (Arrive s) lt none =
    elim (cases_eq stag s.stag) [
      | inl e ↦ rw e (none_placed m s (ap (live_region m) (sym e) ∙ none))
      | inr ne ↦ live_arrive_other m s stag ne ∙ none
    ]

-- an STag that was given and is not live never is again
pub stays_closed : (events : List MemoryEvent) (m : RegisteredMemory) (stag : ℕ) → stag < m.next → live_region m stag ≡ None → live_region (after_events m events) stag ≡ None
stays_closed [] m stag lt none = none
stays_closed (event ∷ events) m stag lt none =
    stays_closed events (after_event m event) stag (omega (arith, next_after_event m event)) (dead_by m stag event lt none)

-- ---- A region that is not live keeps its bytes until it is released

bytes_kept : (m : RegisteredMemory) (stag : ℕ) (event : MemoryEvent) → stag < m.next → live_region m stag ≡ None → IsNoReleaseOf stag event → held_region (after_event m event) stag ≡ held_region m stag
unfolding after_event
bytes_kept m stag (Register right buf) lt none s = register_other m right buf stag (λ e. omega arith)
bytes_kept m stag (Release other) lt none s = release_other m other stag (λ e. s (sym e))
bytes_kept m stag (Invalidate other) lt none s = invalidate_held m other stag
bytes_kept m stag (Arrive r) lt none s =
    elim (cases_eq stag r.stag) [
      | inl e ↦ ap (λ (n : RegisteredMemory). held_region n stag) (none_arrive m r (ap (live_region m) (sym e) ∙ none))
      | inr ne ↦ arrive_other m r stag ne
    ]

all_kept : (m : RegisteredMemory) (stag : ℕ) (events : List MemoryEvent) → stag < m.next → live_region m stag ≡ None → All (IsNoReleaseOf stag) events → held_region (after_events m events) stag ≡ held_region m stag
all_kept m stag [] lt none s = refl
all_kept m stag (event ∷ events) lt none s =
    all_kept (after_event m event) stag events (omega (arith, next_after_event m event)) (dead_by m stag event lt none) (All-tail (IsNoReleaseOf stag) event events s)
    ∙ bytes_kept m stag event lt none (All-head (IsNoReleaseOf stag) event events s)

pub dead_until_released : DeadUntilReleased
dead_until_released m stag events lt s =
    let n = after_invalidate m stag in
    let given : stag < n.next = omega (arith, next_invalidate m stag) in
    let none = live_invalidate_here m stag in
    (stays_closed events n stag given none, all_kept n stag events given none s ∙ invalidate_held m stag stag)
