-- A Response that is expected reaches a region that is live and has room for it.
use Rattle.std.proofs.Common.{◌≡◌, ◌≢◌, ℕ, zero, suc, ◌+◌, ◌≤◌, ◌<◌, Bool, true, false, not, cond, ◌||◌, ◌&&◌, eqb, ltb, leb, inl, inr, List, [], ◌∷◌, ◌++◌, length, map, take, drop, Option, None, Some, refl, sym, ap, subst, ◌∙◌, arith, eq-eqb, ne_eqb, lt-ltb, le-ltb, le-leb, append_assoc}
use Rattle.std.specs.Prelude.{find}
use Rattle.std.specs.List.{filter, list_any}
use Rattle.nr_regions.specs.declared.right.Right.{Right}
use Rattle.nr_regions.specs.declared.right.Right.TheVariants.{Fetch, Fill, Sink}
use Rattle.nr_regions.specs.declared.denied.Denied.TheVariants.{Bounds, Right as WrongRight}
use Rattle.nr_regions.specs.RegisteredMemory.{Access, same_right, denial_in}
use Rattle.nr_regions.specs.Access.{Grant, applies, grant_at, grant_offer, grant_denial}
use Rattle.nr_reduce.specs.OfferedRegions.{Region, region_grant, region_grants, until_or, regions_closed, closed_if}
use Rattle.nr_reduce.specs.ServerState.{PendingRead, PendingCall}
use Rattle.nr_reduce.specs.ServerReads.{is_read, is_read_at, is_over}
use Rattle.nr_laws.proofs.LinkInvariants.{IsSink, HasSink, HaveSinks}
use Rattle.nr_laws.proofs.Totals.{any_first}
use Rattle.nr_reduce.proofs.OwnStags.{closed_stag}
use Rattle.nr_laws.proofs.DistinctKeys.{or_right_lem}

same_itself : (right : Right) → same_right right right ≡ true
same_itself Fetch = refl
same_itself Fill = refl
same_itself Sink = refl

-- a live region that has the right and the room, after regions of other STags
pub found : (end : ℕ) (right : Right) (stag to n : ℕ) (g : Region) (rest : Option Grant) → g.stag ≡ stag → g.until ≡ None → g.right ≡ right → g.from < end → to + n ≤ length g.bytes
    → denial_in (grant_offer (cond (applies stag end (region_grant end g)) (Some (region_grant end g)) rest)) (record { right = right; stag = stag; to = to; len = n }) ≡ None
found end right stag to n g rest same lives own before room =
    let access : Access = record { right = right; stag = stag; to = to; len = n } in
    let live : applies stag end (region_grant end g) ≡ true =
    (λ i. eq-eqb g.stag stag same i && (lt-ltb g.from end before i && leb end (until_or end (lives i)))) ∙ le-leb end end (omega arith) in
    ap (λ (b : Bool). denial_in (grant_offer (cond b (Some (region_grant end g)) rest)) access) live
    ∙ (λ i. cond (le-ltb (length g.bytes) (to + n) room i) (Some Bounds) (cond (same_right (own i) right) None (Some WrongRight)))
    ∙ ap (λ (b : Bool). cond b None (Some WrongRight)) (same_itself right)

pub skipped : (end : ℕ) (stag : ℕ) (g : Region) (rest : Option Grant) → g.stag ≢ stag → cond (applies stag end (region_grant end g)) (Some (region_grant end g)) rest ≡ rest
skipped end stag g rest ne = ap (λ (b : Bool). cond (b && (ltb g.from end && leb end (until_or end g.until))) (Some (region_grant end g)) rest) (ne_eqb g.stag stag ne)

-- the access is allowed
pub sink_allowed : (place end : ℕ) (r : PendingRead) (regions : List Region) (to n : ℕ) → HasSink place r regions → place < end → to + n ≤ r.at + r.size → grant_denial (region_grants end regions) (record { right = Sink; stag = r.sink; to = to; len = n }) end ≡ None
unfolding grant_denial grant_at region_grants
sink_allowed place end r [] to n h lt room = absurd h
sink_allowed place end r (g ∷ regions) to n (inl s) lt room =
    found end Sink r.sink to n g (find (applies r.sink end) (map (region_grant end) regions)) s.stag s.lives s.right (omega (arith, s.before, lt)) (omega (arith, s.room, room))
sink_allowed place end r (g ∷ regions) to n (inr s) lt room =
    ap (λ (found : Option Grant). denial_in (grant_offer found) (record { right = Sink; stag = r.sink; to = to; len = n })) (skipped end r.sink g (find (applies r.sink end) (map (region_grant end) regions)) s.0)
    ∙ sink_allowed place end r regions to n s.1 lt room

-- ---- It is kept

later : (place end : ℕ) (r : PendingRead) (g : Region) → place ≤ end → IsSink place r g → IsSink end r g
later place end r g le s = record { stag = s.stag; call = s.call; position = s.position; right = s.right; lives = s.lives; before = omega (arith, s.before, le); room = s.room }

pub sink_later : (place end : ℕ) (r : PendingRead) (regions : List Region) → place ≤ end → HasSink place r regions → HasSink end r regions
sink_later place end r [] le h = absurd h
sink_later place end r (g ∷ regions) le (inl s) = inl (later place end r g le s)
sink_later place end r (g ∷ regions) le (inr s) = inr (s.0, sink_later place end r regions le s.1)

pub sink_append : (place : ℕ) (r : PendingRead) (regions more : List Region) → HasSink place r regions → HasSink place r (regions ++ more)
sink_append place r [] more h = absurd h
sink_append place r (g ∷ regions) more (inl s) = inl s
sink_append place r (g ∷ regions) more (inr s) = inr (s.0, sink_append place r regions more s.1)

-- a read that is left keeps its region from being over
not_over : (calls : List PendingCall) (reads : List PendingRead) (r : PendingRead) (g : Region) → g.call ≡ r.number → g.position ≡ r.position
    → list_any (λ (x : PendingRead). eqb x.number r.number && eqb x.position r.position) reads ≡ true → is_over calls reads g ≡ false
not_over calls reads r g call position there = by (list_any (λ (c : PendingCall). eqb c.number g.call) calls)
  where
    at : list_any (λ (x : PendingRead). eqb x.number g.call && eqb x.position g.position) reads ≡ true
    at = (λ i. list_any (λ (x : PendingRead). eqb x.number (call i) && eqb x.position (position i)) reads) ∙ there

    by : (b : Bool) → cond b (is_read reads g.call) (is_read_at reads g.call g.position) ≡ false
    by true = ap (λ (b : Bool). not b) (any_first (λ (x : PendingRead). eqb x.number g.call) (λ (x : PendingRead). eqb x.position g.position) reads at)
    by false = ap (λ (b : Bool). not b) at

pub sink_closed : (place end : ℕ) (calls : List PendingCall) (reads : List PendingRead) (r : PendingRead) (regions : List Region) → place ≤ end
    → list_any (λ (x : PendingRead). eqb x.number r.number && eqb x.position r.position) reads ≡ true → HasSink place r regions → HasSink end r (regions_closed (is_over calls reads) end regions)
unfolding regions_closed
sink_closed place end calls reads r [] le there h = absurd h
sink_closed place end calls reads r (g ∷ regions) le there (inl s) =
    inl (subst (λ (b : Bool). IsSink end r (closed_if b end g)) (sym (not_over calls reads r g s.call s.position there)) (later place end r g le s))
sink_closed place end calls reads r (g ∷ regions) le there (inr s) =
    inr ((λ e. s.0 (sym (closed_stag (is_over calls reads g) end g) ∙ e)), sink_closed place end calls reads r regions le there s.1)

-- all that are left keep theirs
abbrev pub AreIn : List PendingRead → List PendingRead → Type 0
AreIn all [] = Unit {0}
AreIn all (r ∷ reads) = (list_any (λ (x : PendingRead). eqb x.number r.number && eqb x.position r.position) all ≡ true) × AreIn all reads

here : (r : PendingRead) (front others : List PendingRead) → list_any (λ (x : PendingRead). eqb x.number r.number && eqb x.position r.position) (front ++ r ∷ others) ≡ true
here r [] others = λ i. (eq-eqb r.number r.number refl i && eq-eqb r.position r.position refl i) || list_any (λ (x : PendingRead). eqb x.number r.number && eqb x.position r.position) others
here r (x ∷ front) others = or_right_lem (eqb x.number r.number && eqb x.position r.position) _ (here r front others)

are_in : (front reads : List PendingRead) → AreIn (front ++ reads) reads
are_in front [] = tt
are_in front (r ∷ reads) = (here r front reads, subst (λ (all : List PendingRead). AreIn all reads) (append_assoc front (r ∷ []) reads) (are_in (front ++ r ∷ []) reads))

closed_each : (place end : ℕ) (calls : List PendingCall) (all reads : List PendingRead) (regions : List Region) → place ≤ end → AreIn all reads → HaveSinks place regions reads → HaveSinks end (regions_closed (is_over calls all) end regions) reads
closed_each place end calls all [] regions le there h = tt
closed_each place end calls all (r ∷ reads) regions le there h = (sink_closed place end calls all r regions le there.0 h.0, closed_each place end calls all reads regions le there.1 h.1)

pub sinks_closed : (place end : ℕ) (calls : List PendingCall) (reads : List PendingRead) (regions : List Region) → place ≤ end → HaveSinks place regions reads → HaveSinks end (regions_closed (is_over calls reads) end regions) reads
sinks_closed place end calls reads regions le h = closed_each place end calls reads reads regions le (are_in [] reads) h

pub sinks_more : (place : ℕ) (regions more : List Region) (reads : List PendingRead) → HaveSinks place regions reads → HaveSinks place (regions ++ more) reads
sinks_more place regions more [] h = tt
sinks_more place regions more (r ∷ reads) h = (sink_append place r regions more h.0, sinks_more place regions more reads h.1)

pub sinks_append : (place : ℕ) (regions : List Region) (reads others : List PendingRead) → HaveSinks place regions reads → HaveSinks place regions others → HaveSinks place regions (reads ++ others)
sinks_append place regions [] others h k = k
sinks_append place regions (r ∷ reads) others h k = (h.0, sinks_append place regions reads others h.1 k)

pub sinks_taken : (place n : ℕ) (regions : List Region) (reads : List PendingRead) → HaveSinks place regions reads → HaveSinks place regions (take n reads)
sinks_taken place zero regions reads h = tt
sinks_taken place (suc n) regions [] h = tt
sinks_taken place (suc n) regions (r ∷ reads) h = (h.0, sinks_taken place n regions reads h.1)

pub sinks_dropped : (place n : ℕ) (regions : List Region) (reads : List PendingRead) → HaveSinks place regions reads → HaveSinks place regions (drop n reads)
sinks_dropped place zero regions reads h = h
sinks_dropped place (suc n) regions [] h = tt
sinks_dropped place (suc n) regions (r ∷ reads) h = sinks_dropped place n regions reads h.1

pub sinks_kept : (place : ℕ) (p : PendingRead → Bool) (regions : List Region) (reads : List PendingRead) → HaveSinks place regions reads → HaveSinks place regions (filter p reads)
sinks_kept place p regions [] h = tt
sinks_kept place p regions (r ∷ reads) h = by (p r) (sinks_kept place p regions reads h.1)
  where
    by : (b : Bool) → HaveSinks place regions (filter p reads) → HaveSinks place regions (cond b (r ∷ filter p reads) (filter p reads))
    by true rest = (h.0, rest)
    by false rest = rest
