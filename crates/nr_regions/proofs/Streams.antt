-- What a region holds by the tagged segments of the complete stream.
use Rattle.std.proofs.Common.{◌≡◌, ℕ, ◌<◌, ◌≤◌, Bool, true, false, cond, eqb, ltb, leb, List, [], ◌∷◌, ◌++◌, length, All, Option, None, Some, refl, sym, ap, subst, ◌∙◌, inl, inr, arith}
use Rattle.std.specs.Prelude.{find, is_none, ◌&&◌}
use Rattle.std.proofs.lemmas.Bool.{cases_eq, le-leb}
use Rattle.std.proofs.lemmas.List.Elements.{All-head, All-tail}
use Rattle.nr_regions.specs.declared.right.Right.{Right}
use Rattle.nr_regions.specs.declared.denied.Denied.{Denied}
use Rattle.nr_regions.specs.declared.denied.Denied.TheVariants.{NoStag}
use Rattle.nr_regions.specs.RegisteredMemory.{RegisteredMemory, after_register, bytes_after_write, bytes_in, denial_in, held_region, live_region}
use Rattle.nr_regions.specs.Access.{Grant, applies, grant_at, grant_offer, grant_denial, with_ends, TaggedSegment, access_of_tagged, after_segment, contents}
use Rattle.nr_regions.specs.Events.{MemoryEvent, IsRegisteredAt, IsReleasedAt, after_event, after_events, tagged_segments}
use Rattle.nr_regions.specs.Events.MemoryEvent.{Register, Release, Invalidate, Arrive}
use Rattle.nr_regions.proofs.Holding.{live_parts, live_register_here}
use Rattle.nr_regions.proofs.Contents.{after_other, applies_is, contents_are}

-- ---- Streams in parts

tagged_segments_append : (xs ys : List MemoryEvent) → tagged_segments (xs ++ ys) ≡ tagged_segments xs ++ tagged_segments ys
tagged_segments_append [] ys = refl
tagged_segments_append (Register right buf ∷ xs) ys = tagged_segments_append xs ys
tagged_segments_append (Release stag ∷ xs) ys = tagged_segments_append xs ys
tagged_segments_append (Invalidate stag ∷ xs) ys = tagged_segments_append xs ys
tagged_segments_append (Arrive s ∷ xs) ys = ap (λ (segments : List TaggedSegment). s ∷ segments) (tagged_segments_append xs ys)

contents_append : (grants : List Grant) (stag : ℕ) (buf : List ℕ) (xs ys : List TaggedSegment) → contents grants stag buf (xs ++ ys) ≡ contents grants stag (contents grants stag buf xs) ys
contents_append grants stag buf [] ys = refl
contents_append grants stag buf (s ∷ xs) ys = contents_append grants stag (after_segment grants stag buf s) xs ys

after_events_append : (m : RegisteredMemory) (xs ys : List MemoryEvent) → after_events m (xs ++ ys) ≡ after_events (after_events m xs) ys
after_events_append m [] ys = refl
after_events_append m (event ∷ xs) ys = after_events_append (after_event m event) xs ys

-- ---- Segments to which no grant applies

abbrev NoneApplies : List Grant → ℕ → List TaggedSegment → Type 0
NoneApplies grants stag [] = Unit {0}
NoneApplies grants stag (s ∷ segments) = (s.stag ≡ stag → find (applies stag s.end) grants ≡ None) × NoneApplies grants stag segments

denied : (grants : List Grant) (stag : ℕ) (s : TaggedSegment) → s.stag ≡ stag → find (applies stag s.end) grants ≡ None → grant_denial grants (access_of_tagged s) s.end ≡ Some NoStag
unfolding grant_denial grant_at
denied grants stag s e none =
    ap (λ (k : ℕ). denial_in (grant_offer (find (applies k s.end) grants)) (access_of_tagged s)) e
    ∙ ap (λ (o : Option Grant). denial_in (grant_offer o) (access_of_tagged s)) none

not_placed : (b : Bool) (over buf : List ℕ) → cond (b && false) over buf ≡ buf
not_placed true over buf = refl
not_placed false over buf = refl

unchanged : (grants : List Grant) (stag : ℕ) (buf : List ℕ) (s : TaggedSegment) → (s.stag ≡ stag → find (applies stag s.end) grants ≡ None) → after_segment grants stag buf s ≡ buf
unchanged grants stag buf s none =
    elim (cases_eq s.stag stag) [
      | inl e ↦
          ap (λ (d : Option Denied). cond (eqb s.stag stag && is_none d) (bytes_after_write buf s.to s.payload) buf) (denied grants stag s e (none e))
          ∙ not_placed (eqb s.stag stag) (bytes_after_write buf s.to s.payload) buf
      | inr ne ↦ after_other grants stag buf s ne
    ]

stay : (grants : List Grant) (stag : ℕ) (buf : List ℕ) (segments : List TaggedSegment) → NoneApplies grants stag segments → contents grants stag buf segments ≡ buf
stay grants stag buf [] none = refl
stay grants stag buf (s ∷ segments) none =
    ap (λ (b : List ℕ). contents grants stag b segments) (unchanged grants stag buf s none.0) ∙ stay grants stag buf segments none.1

-- a grant doesn't apply to a frame that ends after it, nor to one that ends before it begins
ended_by : (stag end until : ℕ) (g : Grant) (b : Bool) → applies stag end g ≡ b → (g.stag ≡ stag → g.until ≤ until) → until < end → applies stag end g ≡ false
ended_by stag end until g true e ends after =
    let a = applies_is stag end g e in
    let last = ends a.stag_is in
    absurd (omega (arith, a.not_ended, last, after))
ended_by stag end until g false e ends after = e

not_begun_by : (stag end from : ℕ) (g : Grant) (b : Bool) → applies stag end g ≡ b → (g.stag ≡ stag → from ≤ g.from) → end ≤ from → applies stag end g ≡ false
not_begun_by stag end from g true e begins before =
    let a = applies_is stag end g e in
    let first = begins a.stag_is in
    absurd (omega (arith, a.begun, first, before))
not_begun_by stag end from g false e begins before = e

none_by : (stag end : ℕ) (g : Grant) (grants : List Grant) → applies stag end g ≡ false → find (applies stag end) grants ≡ None → find (applies stag end) (g ∷ grants) ≡ None
none_by stag end g grants e none = ap (λ (b : Bool). cond b (Some g) (find (applies stag end) grants)) e ∙ none

all_ended : (grants : List Grant) (stag end until : ℕ) → All (λ g. g.stag ≡ stag → g.until ≤ until) grants → until < end → find (applies stag end) grants ≡ None
all_ended [] stag end until ends after = refl
all_ended (g ∷ grants) stag end until ends after =
    let P : Grant → Type 0 = λ g. g.stag ≡ stag → g.until ≤ until in
    none_by stag end g grants (ended_by stag end until g (applies stag end g) refl (All-head P g grants ends) after) (all_ended grants stag end until (All-tail P g grants ends) after)

none_begun : (grants : List Grant) (stag end from : ℕ) → All (λ g. g.stag ≡ stag → from ≤ g.from) grants → end ≤ from → find (applies stag end) grants ≡ None
none_begun [] stag end from begins before = refl
none_begun (g ∷ grants) stag end from begins before =
    let P : Grant → Type 0 = λ g. g.stag ≡ stag → from ≤ g.from in
    none_by stag end g grants (not_begun_by stag end from g (applies stag end g) refl (All-head P g grants begins) before) (none_begun grants stag end from (All-tail P g grants begins) before)

none_later : (grants : List Grant) (stag until : ℕ) (segments : List TaggedSegment) → All (λ g. g.stag ≡ stag → g.until ≤ until) grants → All (λ s. s.stag ≡ stag → until < s.end) segments → NoneApplies grants stag segments
none_later grants stag until [] ends after = tt
none_later grants stag until (s ∷ segments) ends after =
    let P : TaggedSegment → Type 0 = λ s. s.stag ≡ stag → until < s.end in
    let here = All-head P s segments after in
    (λ e. all_ended grants stag s.end until ends (here e), none_later grants stag until segments ends (All-tail P s segments after))

none_earlier : (grants : List Grant) (stag from : ℕ) (segments : List TaggedSegment) → All (λ g. g.stag ≡ stag → from ≤ g.from) grants → All (λ s. s.stag ≡ stag → s.end ≤ from) segments → NoneApplies grants stag segments
none_earlier grants stag from [] begins before = tt
none_earlier grants stag from (s ∷ segments) begins before =
    let P : TaggedSegment → Type 0 = λ s. s.stag ≡ stag → s.end ≤ from in
    let here = All-head P s segments before in
    (λ e. none_begun grants stag s.end from begins (here e), none_earlier grants stag from segments begins (All-tail P s segments before))

-- ---- The complete stream

-- what comes after the release changes nothing of the contents
pub contents_to_release : (grants : List Grant) (stag until : ℕ) (right : Right) (len : ℕ) (buf : List ℕ) (before after : List MemoryEvent) → IsReleasedAt grants stag right len until before after
    → contents grants stag buf (tagged_segments before) ≡ contents grants stag buf (tagged_segments (before ++ Release stag ∷ after))
contents_to_release grants stag until right len buf before after is =
    sym (stay grants stag (contents grants stag buf (tagged_segments before)) (tagged_segments after) (none_later grants stag until (tagged_segments after) is.grant_ends is.later))
    ∙ sym (contents_append grants stag buf (tagged_segments before) (tagged_segments after))
    ∙ ap (contents grants stag buf) (sym (tagged_segments_append before (Release stag ∷ after)))

-- nor does what came before the registration
contents_from_register : (grants : List Grant) (stag from : ℕ) (buf : List ℕ) (before events : List MemoryEvent) → IsRegisteredAt grants stag from before
    → contents grants stag buf (tagged_segments events) ≡ contents grants stag buf (tagged_segments (before ++ events))
contents_from_register grants stag from buf before events is =
    ap (λ (b : List ℕ). contents grants stag b (tagged_segments events)) (sym (stay grants stag buf (tagged_segments before) (none_earlier grants stag from (tagged_segments before) is.grant_begins is.earlier)))
    ∙ sym (contents_append grants stag buf (tagged_segments before) (tagged_segments events))
    ∙ ap (contents grants stag buf) (sym (tagged_segments_append before events))

given : (m : RegisteredMemory) (right : Right) (buf : List ℕ) → m.next < (after_register m right buf).next
unfolding after_register
given m right buf = omega arith

registers : (m : RegisteredMemory) (right : Right) (buf : List ℕ) → after_event m (Register right buf) ≡ after_register m right buf
unfolding after_event
registers m right buf = refl

region_at_release : (grants : List Grant) (m : RegisteredMemory) (until : ℕ) (right : Right) (buf : List ℕ) (between after : List MemoryEvent) → IsReleasedAt grants m.next right (length buf) until between after
    → live_region (after_events m (Register right buf ∷ between)) m.next ≡ Some (record { right = right; buf = contents grants m.next buf (tagged_segments between) })
region_at_release grants m until right buf between after is =
    ap (λ (k : RegisteredMemory). live_region (after_events k between) m.next) (registers m right buf)
    ∙ contents_are grants m.next right (length buf) between (after_register m right buf) buf refl (given m right buf) (live_register_here m right buf) is.stays_open

pub contents_of_stream : (grants : List Grant) (start : RegisteredMemory) (from until : ℕ) (right : Right) (buf : List ℕ) (before between after : List MemoryEvent)
    → IsRegisteredAt grants (after_events start before).next from before → IsReleasedAt grants (after_events start before).next right (length buf) until between after
    → bytes_in (held_region (after_events start (before ++ Register right buf ∷ between)) (after_events start before).next)
    ≡ contents grants (after_events start before).next buf (tagged_segments (before ++ Register right buf ∷ (between ++ Release (after_events start before).next ∷ after)))
contents_of_stream grants start from until right buf before between after begins ends =
    let m = after_events start before in
    ap (λ (k : RegisteredMemory). bytes_in (held_region k m.next)) (after_events_append start before (Register right buf ∷ between))
    ∙ ap bytes_in (live_parts (after_events m (Register right buf ∷ between)) m.next (record { right = right; buf = contents grants m.next buf (tagged_segments between) }) (region_at_release grants m until right buf between after ends)).1
    ∙ contents_to_release grants m.next until right (length buf) buf between after ends
    ∙ contents_from_register grants m.next from buf before (Register right buf ∷ (between ++ Release m.next ∷ after)) begins

-- ---- The end of a grant, put off

offer_by : (b : Bool) (g h : Grant) (x y : Option Grant) → grant_offer (Some g) ≡ grant_offer (Some h) → grant_offer x ≡ grant_offer y → grant_offer (cond b (Some g) x) ≡ grant_offer (cond b (Some h) y)
offer_by true g h x y here there = here
offer_by false g h x y here there = there

with_end_by : (g : Grant) (stag end until later : ℕ) (grants : List Grant) (b : Bool) → leb end until ≡ true → leb end later ≡ true
    → grant_offer (find (applies stag end) (with_ends stag until grants)) ≡ grant_offer (find (applies stag end) (with_ends stag later grants))
    → grant_offer (find (applies stag end) (cond b (record g { until = until }) g ∷ with_ends stag until grants))
    ≡ grant_offer (find (applies stag end) (cond b (record g { until = later }) g ∷ with_ends stag later grants))
with_end_by g stag end until later grants true p q more =
    let x = find (applies stag end) (with_ends stag until grants) in
    let y = find (applies stag end) (with_ends stag later grants) in
    ap (λ (k : Bool). grant_offer (cond (eqb g.stag stag && (ltb g.from end && k)) (Some (record g { until = until })) x)) p
    ∙ offer_by (eqb g.stag stag && (ltb g.from end && true)) (record g { until = until }) (record g { until = later }) x y refl more
    ∙ ap (λ (k : Bool). grant_offer (cond (eqb g.stag stag && (ltb g.from end && k)) (Some (record g { until = later })) y)) (sym q)
with_end_by g stag end until later grants false p q more =
    offer_by (applies stag end g) g g (find (applies stag end) (with_ends stag until grants)) (find (applies stag end) (with_ends stag later grants)) refl more

same_offer : (grants : List Grant) (stag end until later : ℕ) → end ≤ until → until ≤ later
    → grant_offer (find (applies stag end) (with_ends stag until grants)) ≡ grant_offer (find (applies stag end) (with_ends stag later grants))
same_offer [] stag end until later le more = refl
same_offer (g ∷ grants) stag end until later le more =
    with_end_by g stag end until later grants (eqb g.stag stag) (le-leb end until le) (le-leb end later (omega arith)) (same_offer grants stag end until later le more)

same_denial_by : (grants : List Grant) (s : TaggedSegment) (until later : ℕ) → s.end ≤ until → until ≤ later
    → grant_denial (with_ends s.stag until grants) (access_of_tagged s) s.end ≡ grant_denial (with_ends s.stag later grants) (access_of_tagged s) s.end
unfolding grant_denial grant_at
same_denial_by grants s until later le more = ap (λ (o : Option (Right × ℕ)). denial_in o (access_of_tagged s)) (same_offer grants s.stag s.end until later le more)

same_after : (grants : List Grant) (stag until later : ℕ) (buf : List ℕ) (s : TaggedSegment) → (s.stag ≡ stag → s.end ≤ until) → until ≤ later
    → after_segment (with_ends stag until grants) stag buf s ≡ after_segment (with_ends stag later grants) stag buf s
same_after grants stag until later buf s within more =
    elim (cases_eq s.stag stag) [
      | inl e ↦
          ap (λ (d : Option Denied). cond (eqb s.stag stag && is_none d) (bytes_after_write buf s.to s.payload) buf)
          (subst (λ (k : ℕ). grant_denial (with_ends k until grants) (access_of_tagged s) s.end ≡ grant_denial (with_ends k later grants) (access_of_tagged s) s.end) e
          (same_denial_by grants s until later (within e) more))
      | inr ne ↦ after_other (with_ends stag until grants) stag buf s ne ∙ sym (after_other (with_ends stag later grants) stag buf s ne)
    ]

pub same_contents : (grants : List Grant) (stag until later : ℕ) (buf : List ℕ) (segments : List TaggedSegment) → All (λ s. s.stag ≡ stag → s.end ≤ until) segments → until ≤ later
    → contents (with_ends stag until grants) stag buf segments ≡ contents (with_ends stag later grants) stag buf segments
same_contents grants stag until later buf [] within more = refl
same_contents grants stag until later buf (s ∷ segments) within more =
    let P : TaggedSegment → Type 0 = λ s. s.stag ≡ stag → s.end ≤ until in
    ap (λ (b : List ℕ). contents (with_ends stag until grants) stag b segments) (same_after grants stag until later buf s (All-head P s segments within) more)
    ∙ same_contents grants stag until later (after_segment (with_ends stag later grants) stag buf s) segments (All-tail P s segments within) more
