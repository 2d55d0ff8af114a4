-- Sink regions that are closed once nothing is left to be read for them.
use Rattle.std.proofs.Common.{◌≡◌, ℕ, ◌+◌, Bool, true, false, not, ◌||◌, eqb, cond, List, [], ◌∷◌, Option, Some, None, refl, sym, ap, ◌∙◌, is_some}
use Rattle.std.specs.List.{AllByRecursion, list_any}
use Rattle.std.proofs.lemmas.Bool.{eqb-true, eqb-false}
use Rattle.nr_regions.specs.RegisteredMemory.{Region as HeldRegion, RegisteredMemory, NoneIsDead, live_region, after_release}
use Rattle.nr_regions.specs.Access.{TaggedSegment, contents}
use Rattle.nr_regions.proofs.Holding.{live_release_here, live_release_other, none_dead_release}
use Rattle.nr_reduce.specs.OfferedRegions.{Region, until_at, closed_if, regions_closed, region_grants}
use Rattle.nr_reduce.specs.OfferedMemory.{AreOffered, region_at, registered_region, HoldsRegions, ReleasesClosed, is_closed_by, held_if_open}
use Rattle.nr_reduce.specs.StandingLaws.{StagsFrom}
use Rattle.nr_reduce.specs.ServerState.{PendingCall, PendingRead}
use Rattle.nr_reduce.specs.ServerReads.{is_over}
use Rattle.nr_responder.specs.Fetching.{SinkRegion, sink_of_region, open_if, open_sinks}
use Rattle.nr_responder.specs.private.Reading.{is_sink_over, over_sinks, left_sinks, released}

-- ---- The sinks that are left

abbrev left_one : Bool → Option ℕ → SinkRegion → List SinkRegion → List SinkRegion
left_one b None s rest = cond (not b) (s ∷ rest) rest
left_one b (Some until) s rest = rest

closed_one : (b : Bool) (place : ℕ) (r : Region) (u : Option ℕ) (rest : List SinkRegion) → r.until ≡ u → open_if (closed_if b place r).until (sink_of_region (closed_if b place r)) rest ≡ left_one b u (sink_of_region r) rest
closed_one true place r None rest is = ap (λ (o : Option ℕ). open_if (until_at place o) (sink_of_region r) rest) is
closed_one true place r (Some until) rest is = ap (λ (o : Option ℕ). open_if (until_at place o) (sink_of_region r) rest) is
closed_one false place r None rest is = ap (λ (o : Option ℕ). open_if o (sink_of_region r) rest) is
closed_one false place r (Some until) rest is = ap (λ (o : Option ℕ). open_if o (sink_of_region r) rest) is

left_is : (calls : List PendingCall) (reads : List PendingRead) (u : Option ℕ) (s : SinkRegion) (rest : List SinkRegion) → left_sinks calls reads (open_if u s rest) ≡ left_one (is_sink_over calls reads s) u s (left_sinks calls reads rest)
left_is calls reads None s rest = refl
left_is calls reads (Some until) s rest = refl

-- the open sinks after regions that are over were closed
pub open_left : (calls : List PendingCall) (reads : List PendingRead) (place : ℕ) (regions : List Region) → open_sinks (regions_closed (is_over calls reads) place regions) ≡ left_sinks calls reads (open_sinks regions)
unfolding regions_closed
open_left calls reads place [] = refl
open_left calls reads place (r ∷ regions) =
    closed_one (is_over calls reads r) place r r.until (open_sinks (regions_closed (is_over calls reads) place regions)) refl
    ∙ ap (left_one (is_over calls reads r) r.until (sink_of_region r)) (open_left calls reads place regions)
    ∙ sym (left_is calls reads r.until (sink_of_region r) (open_sinks regions))

-- ---- The memory in which the others were released

abbrev pub is_among : ℕ → List SinkRegion → Bool
is_among stag sinks = list_any (λ s. eqb s.stag stag) sinks

released_live : (sinks : List SinkRegion) (m : RegisteredMemory) (stag : ℕ) → live_region (released sinks m) stag ≡ cond (is_among stag sinks) None (live_region m stag)
released_live [] m stag = refl
released_live (s ∷ sinks) m stag = released_live sinks (after_release m s.stag) stag ∙ by (eqb s.stag stag) refl (is_among stag sinks)
  where
    nothing : Option HeldRegion
    nothing = None

    none_twice : (b : Bool) → cond b nothing nothing ≡ nothing
    none_twice true = refl
    none_twice false = refl

    by : (a : Bool) → eqb s.stag stag ≡ a → (b : Bool) → cond b None (live_region (after_release m s.stag) stag) ≡ cond (eqb s.stag stag || b) None (live_region m stag)
    by true is b =
        let same : s.stag ≡ stag = eqb-true s.stag stag is in
        let gone : live_region (after_release m s.stag) stag ≡ None = ap (λ (x : ℕ). live_region (after_release m s.stag) x) (sym same) ∙ live_release_here m s.stag in
        ap (λ (o : Option HeldRegion). cond b None o) gone ∙ none_twice b ∙ sym (ap (λ (a : Bool). cond (a || b) None (live_region m stag)) is)
    by false is b =
        let stays : live_region (after_release m s.stag) stag ≡ live_region m stag =
        live_release_other m s.stag stag (λ e. eqb-false s.stag stag is (sym e)) in
        ap (λ (o : Option HeldRegion). cond b None o) stays ∙ sym (ap (λ (a : Bool). cond (a || b) None (live_region m stag)) is)

pub none_released : (sinks : List SinkRegion) (m : RegisteredMemory) → NoneIsDead m → NoneIsDead (released sinks m)
none_released [] m h = h
none_released (s ∷ sinks) m h = none_released sinks (after_release m s.stag) (none_dead_release m s.stag h)

abbrev over_one : Bool → Option ℕ → SinkRegion → List SinkRegion → List SinkRegion
over_one b None s rest = cond b (s ∷ rest) rest
over_one b (Some until) s rest = rest

over_are : (calls : List PendingCall) (reads : List PendingRead) (u : Option ℕ) (s : SinkRegion) (rest : List SinkRegion) → over_sinks calls reads (open_if u s rest) ≡ over_one (is_sink_over calls reads s) u s (over_sinks calls reads rest)
over_are calls reads None s rest = refl
over_are calls reads (Some until) s rest = refl

among_other : (b : Bool) (u : Option ℕ) (s : SinkRegion) (rest : List SinkRegion) (stag : ℕ) → eqb s.stag stag ≡ false → is_among stag (over_one b u s rest) ≡ is_among stag rest
among_other true None s rest stag is = ap (λ (a : Bool). a || is_among stag rest) is
among_other false None s rest stag is = refl
among_other b (Some until) s rest stag is = refl

none_among : (calls : List PendingCall) (reads : List PendingRead) (regions : List Region) (stag : ℕ) → region_at regions stag ≡ None → is_among stag (over_sinks calls reads (open_sinks regions)) ≡ false
none_among calls reads [] stag none = refl
none_among calls reads (r ∷ regions) stag none = by (none_among calls reads regions stag) (eqb r.stag stag) refl none
  where
    by : (region_at regions stag ≡ None → is_among stag (over_sinks calls reads (open_sinks regions)) ≡ false) → (b : Bool) → eqb r.stag stag ≡ b → cond b (Some r) (region_at regions stag) ≡ None → is_among stag (over_sinks calls reads (open_sinks (r ∷ regions))) ≡ false
    by rest true is e = absurd cc
    by rest false is e =
        ap (is_among stag) (over_are calls reads r.until (sink_of_region r) (open_sinks regions))
        ∙ among_other (is_over calls reads r) r.until (sink_of_region r) (over_sinks calls reads (open_sinks regions)) stag is
        ∙ rest e

among_here : (b : Bool) (u : Option ℕ) (s : SinkRegion) (rest : List SinkRegion) (stag : ℕ) → u ≡ None → eqb s.stag stag ≡ true → is_among stag rest ≡ false → is_among stag (over_one b u s rest) ≡ b
among_here true None s rest stag opened is none = ap (λ (a : Bool). a || is_among stag rest) is
among_here false None s rest stag opened is none = none
among_here b (Some until) s rest stag opened is none = absurd cc

some_among : (calls : List PendingCall) (reads : List PendingRead) (place : ℕ) (regions : List Region) (stag : ℕ) (r : Region) → AreOffered place regions → region_at regions stag ≡ Some r → r.until ≡ None →
    is_among stag (over_sinks calls reads (open_sinks regions)) ≡ is_over calls reads r
some_among calls reads place [] stag r offered at opened = absurd cc
some_among calls reads place (x ∷ regions) stag r offered at opened = by (λ (e : region_at regions stag ≡ Some r). some_among calls reads place regions stag r offered.1.1.1 e opened) (eqb x.stag stag) refl at
  where
    by : (region_at regions stag ≡ Some r → is_among stag (over_sinks calls reads (open_sinks regions)) ≡ is_over calls reads r) → (b : Bool) → eqb x.stag stag ≡ b → cond b (Some x) (region_at regions stag) ≡ Some r →
        is_among stag (over_sinks calls reads (open_sinks (x ∷ regions))) ≡ is_over calls reads r
    by rest true is e =
        let same : x ≡ r = cc in
        let own : x.stag ≡ stag = eqb-true x.stag stag is in
        let fresh : region_at regions stag ≡ None = ap (region_at regions) (sym own) ∙ offered.1.1.0 in
        ap (is_among stag) (over_are calls reads x.until (sink_of_region x) (open_sinks regions))
        ∙ among_here (is_over calls reads x) x.until (sink_of_region x) (over_sinks calls reads (open_sinks regions)) stag (ap (λ (y : Region). y.until) same ∙ opened) is (none_among calls reads regions stag fresh)
        ∙ ap (is_over calls reads) same
    by rest false is e =
        ap (is_among stag) (over_are calls reads x.until (sink_of_region x) (open_sinks regions))
        ∙ among_other (is_over calls reads x) x.until (sink_of_region x) (over_sinks calls reads (open_sinks regions)) stag is
        ∙ rest e

pub releases : (calls : List PendingCall) (reads : List PendingRead) (place : ℕ) (regions : List Region) (accesses : List TaggedSegment) (m : RegisteredMemory) → AreOffered place regions → HoldsRegions regions accesses place m →
    ReleasesClosed (is_over calls reads) regions m (released (over_sinks calls reads (open_sinks regions)) m)
releases calls reads place regions accesses m offered holds stag = released_live sinks m stag ∙ by (region_at regions stag) refl (holds stag)
  where
    sinks : List SinkRegion
    sinks = over_sinks calls reads (open_sinks regions)

    nothing : Option HeldRegion
    nothing = None

    none_twice : (b c : Bool) → cond b nothing nothing ≡ cond c nothing nothing
    none_twice true true = refl
    none_twice true false = refl
    none_twice false true = refl
    none_twice false false = refl

    by_until : (r : Region) (u : Option ℕ) → r.until ≡ u → region_at regions stag ≡ Some r → live_region m stag ≡ registered_region (region_grants place regions) accesses (Some r) →
        cond (is_among stag sinks) None (live_region m stag) ≡ cond (is_over calls reads r) None (live_region m stag)
    by_until r None opened at live = ap (λ (b : Bool). cond b None (live_region m stag)) (some_among calls reads place regions stag r offered at opened)
    by_until r (Some until) closed at live =
        let none : live_region m stag ≡ None = live ∙ ap (λ (o : Option ℕ). held_if_open o (record { right = r.right; buf = contents (region_grants place regions) r.stag r.bytes accesses })) closed in
        ap (λ (o : Option HeldRegion). cond (is_among stag sinks) None o) none ∙ none_twice (is_among stag sinks) (is_over calls reads r) ∙ sym (ap (λ (o : Option HeldRegion). cond (is_over calls reads r) None o) none)

    by : (o : Option Region) → region_at regions stag ≡ o → live_region m stag ≡ registered_region (region_grants place regions) accesses (region_at regions stag) →
        cond (is_among stag sinks) None (live_region m stag) ≡ cond (is_closed_by (is_over calls reads) (region_at regions stag)) None (live_region m stag)
    by None at live =
        ap (λ (b : Bool). cond b None (live_region m stag)) (none_among calls reads regions stag at)
        ∙ sym (ap (λ (o : Option Region). cond (is_closed_by (is_over calls reads) o) None (live_region m stag)) at)
    by (Some r) at live =
        by_until r r.until refl at (live ∙ ap (registered_region (region_grants place regions) accesses) at)
        ∙ sym (ap (λ (o : Option Region). cond (is_closed_by (is_over calls reads) o) None (live_region m stag)) at)

pub released_next : (sinks : List SinkRegion) (m : RegisteredMemory) → (released sinks m).next ≡ m.next
unfolding after_release
released_next [] m = refl
released_next (s ∷ sinks) m = released_next sinks (after_release m s.stag)

-- ---- What holds of the regions then

pub closed_all : (P : Region → Type 0) (test : Region → Bool) (place : ℕ) (regions : List Region) → ((r : Region) → P r → P (closed_if true place r)) → AllByRecursion P regions → AllByRecursion P (regions_closed test place regions)
unfolding regions_closed
closed_all P test place [] keeps h = tt
closed_all P test place (r ∷ regions) keeps h = (by (test r), closed_all P test place regions keeps h.1)
  where
    by : (b : Bool) → P (closed_if b place r)
    by true = keeps r h.0
    by false = h.0

pub closed_stags : (test : Region → Bool) (place n : ℕ) (regions : List Region) → StagsFrom n regions → StagsFrom n (regions_closed test place regions)
unfolding regions_closed
closed_stags test place n [] h = tt
closed_stags test place n (r ∷ regions) h = (by (test r), closed_stags test place (n + 1) regions h.1)
  where
    by : (b : Bool) → (closed_if b place r).stag ≡ n
    by true = h.0
    by false = h.0

closed_over : (b : Bool) (place : ℕ) (calls : List PendingCall) (reads : List PendingRead) (r : Region) → is_over calls reads (closed_if b place r) ≡ is_over calls reads r
closed_over true place calls reads r = refl
closed_over false place calls reads r = refl

is_until : (place : ℕ) (u : Option ℕ) → is_some (until_at place u) ≡ true
is_until place None = refl
is_until place (Some until) = refl

now_closed : (b : Bool) (place : ℕ) (r : Region) → (is_some r.until ≡ true → b ≡ true) → is_some (closed_if b place r).until ≡ b
now_closed true place r over = is_until place r.until
now_closed false place r over = by (is_some r.until) refl
  where
    by : (c : Bool) → is_some r.until ≡ c → is_some r.until ≡ false
    by true is = absurd (let two : false ≡ true = over is in cc)
    by false is = is

-- regions that are over are closed, and no others, if those that were closed are over
pub closed_now : (calls : List PendingCall) (reads : List PendingRead) (place : ℕ) (regions : List Region) → AllByRecursion (λ r. is_some r.until ≡ true → is_over calls reads r ≡ true) regions →
    AllByRecursion (λ r. is_some r.until ≡ is_over calls reads r) (regions_closed (is_over calls reads) place regions)
unfolding regions_closed
closed_now calls reads place [] h = tt
closed_now calls reads place (r ∷ regions) h =
    (now_closed (is_over calls reads r) place r h.0 ∙ sym (closed_over (is_over calls reads r) place calls reads r), closed_now calls reads place regions h.1)
