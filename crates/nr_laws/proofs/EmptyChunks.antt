-- A read chunk without bytes has no sink, whatever the client sends.
use Rattle.std.proofs.Common.{◌≡◌, ◌≢◌, ℕ, ◌+◌, ◌≤◌, ◌<◌, Bool, true, false, cond, ◌&&◌, not, eqb, List, [], ◌∷◌, ◌++◌, replicate, Option, None, Some, Result, refl, sym, ap, subst, ◌∙◌, arith, append-nil, ne_eqb}
use Rattle.std.specs.List.{filter, find}
use Rattle.nr_header.specs.declared.header.ChunkLists.{ChunkLists}
use Rattle.nr_wire.specs.Segment.{Segment}
use Rattle.nr_regions.specs.declared.right.Right.TheVariants.{Sink}
use Rattle.nr_link.specs.Frames.{Frame, is_hello}
use Rattle.nr_link.specs.Ending.{frame_segment}
use Rattle.nr_reduce.specs.declared.mark.LinkParameters.{LinkParameters}
use Rattle.nr_reduce.specs.Chunks.{total_at, positions}
use Rattle.nr_reduce.specs.OfferedRegions.{Region, region_grants, region_bytes, region_bytes_by, regions_closed}
use Rattle.nr_reduce.specs.Events.{RunEvent}
use Rattle.nr_reduce.specs.Events.RunEvent.{FrameReceived, CallSubmitted, MemoryRevoked, CallExecuted, QueueWritten, ServerTold}
use Rattle.nr_reduce.specs.ServerState.{ServerState, PendingCall, next_stag}
use Rattle.nr_reduce.specs.ServerReads.{chunks_of, regions_from, regions_of, stag_by, sink_of, is_over}
use Rattle.nr_reduce.specs.ServerMessages.{chunk_bytes, Verdict, verdict}
use Rattle.nr_reduce.specs.ServerMessages.Verdict.{MakesPending}
use Rattle.nr_reduce.specs.ServerFrames.{FrameEffect, call_of_number, with_access, frame_effect}
use Rattle.nr_reduce.specs.Server.{server_rules, server_state_after, initial_server, received_by, with_effect, with_own_hello}
use Rattle.nr_reduce.specs.RunLaws.{server_by}
use Rattle.nr_reduce.proofs.Once.{NumberIs, verdict_number, whole_with, Goes, after_goes}
use Rattle.nr_reduce.proofs.OwnStags.{AreNumbered, server_numbers, kept_after}
use Rattle.nr_laws.proofs.PendingSinks.{sink_closed, OwnersBelow, owners_more, owners_append, owners_closed, sink_none}
use Rattle.nr_laws.proofs.Basics.{and_false, and_second}
use Rattle.nr_laws.proofs.EachEffect.{each_effect, held_messages, held_responses}
use Rattle.nr_laws.proofs.RegionLengths.{none_before}

-- ---- The sink of a chunk among some regions

-- no chunk without bytes of this call has a sink
abbrev HasNoSink : List Region → PendingCall → Type 0
HasNoSink regions c = (position : ℕ) → total_at position c.lists.read ≡ 0 → sink_of regions c.number position ≡ 0

-- so of each of these calls, which are those of some Sends up to this one
abbrev HaveNoSinks : ℕ → List Region → List PendingCall → Type 0
HaveNoSinks n regions [] = Unit {0}
HaveNoSinks n regions (c ∷ calls) = (c.number ≤ n) × HasNoSink regions c × HaveNoSinks n regions calls

abbrev sink_region : (number position stag place : ℕ) → ChunkLists → Region
sink_region number position stag place lists = record { call = number; position = position; stag = stag; right = Sink; bytes = replicate (total_at position lists.read) 0; from = place; until = None }

-- the new regions of another call
other_sink : (number other position place : ℕ) (lists : ChunkLists) → other ≢ number → (stag : ℕ) (ps : List ℕ) → sink_of (regions_from other place stag lists ps) number position ≡ 0
other_sink number other position place lists ne stag [] = refl
other_sink number other position place lists ne stag (p ∷ ps) =
    let r : Region = sink_region other p stag place lists in
    ap (λ (b : Bool). stag_by (cond b (Some r) (find (λ x. eqb x.call number && eqb x.position position) (regions_from other place (stag + 1) lists ps)))) (and_false (eqb other number) (eqb p position) (ne_eqb other number ne))
    ∙ other_sink number other position place lists ne (stag + 1) ps

sink_before : (xs ys : List Region) (number position : ℕ) → sink_of xs number position ≡ 0 → sink_of ys number position ≡ 0 → sink_of (xs ++ ys) number position ≡ 0
sink_before [] ys number position h g = g
sink_before (x ∷ xs) ys number position h g = by (eqb x.call number && eqb x.position position) h (λ f. sink_before xs ys number position f g)
  where
    by : (b : Bool) → stag_by (cond b (Some x) (find (λ x. eqb x.call number && eqb x.position position) xs)) ≡ 0 → (sink_of xs number position ≡ 0 → sink_of (xs ++ ys) number position ≡ 0)
        → stag_by (cond b (Some x) (find (λ x. eqb x.call number && eqb x.position position) (xs ++ ys))) ≡ 0
    by true h rest = h
    by false h rest = rest h

-- its own new regions have other positions
own_sink : (number position place : ℕ) (lists : ChunkLists) → total_at position lists.read ≡ 0 → (stag : ℕ) (qs : List ℕ) → sink_of (regions_from number place stag lists (filter (λ p. not (eqb (total_at p lists.read) 0)) qs)) number position ≡ 0
own_sink number position place lists none stag [] = refl
own_sink number position place lists none stag (q ∷ qs) = by (eqb (total_at q lists.read) 0) refl (λ next. own_sink number position place lists none next qs)
  where
    others : List ℕ
    others = filter (λ p. not (eqb (total_at p lists.read) 0)) qs

    by : (b : Bool) → eqb (total_at q lists.read) 0 ≡ b → ((next : ℕ) → sink_of (regions_from number place next lists others) number position ≡ 0) → sink_of (regions_from number place stag lists (cond (not b) (q ∷ others) others)) number position ≡ 0
    by true is rest = rest stag
    by false is rest =
        let apart : q ≢ position = λ e. (let t : true ≡ false = sym (ap (λ (n : ℕ). eqb n 0) (ap (λ (p : ℕ). total_at p lists.read) e ∙ none)) ∙ is in absurd cc) in
        let r : Region = sink_region number q stag place lists in
        ap (λ (b : Bool). stag_by (cond b (Some r) (find (λ x. eqb x.call number && eqb x.position position) (regions_from number place (stag + 1) lists others)))) (and_second (eqb number number) (eqb q position) (ne_eqb q position apart))
        ∙ rest (stag + 1)

-- ---- They are kept

none_later_lem : (n m : ℕ) (regions : List Region) (calls : List PendingCall) → n ≤ m → HaveNoSinks n regions calls → HaveNoSinks m regions calls
none_later_lem n m regions [] le h = tt
none_later_lem n m regions (c ∷ calls) le h = ((let a = h.0 in omega (arith, a, le)), h.1, none_later_lem n m regions calls le h.2)

none_closed : (test : Region → Bool) (place n : ℕ) (regions : List Region) (calls : List PendingCall) → HaveNoSinks n regions calls → HaveNoSinks n (regions_closed test place regions) calls
none_closed test place n regions [] h = tt
none_closed test place n regions (c ∷ calls) h = (h.0, (λ position none. sink_closed test place regions c.number position ∙ h.1 position none), none_closed test place n regions calls h.2)

none_more : (n other place stag : ℕ) (lists : ChunkLists) (ps : List ℕ) (regions : List Region) (calls : List PendingCall) → n < other → HaveNoSinks n regions calls → HaveNoSinks n (regions ++ regions_from other place stag lists ps) calls
none_more n other place stag lists ps regions [] lt h = tt
none_more n other place stag lists ps regions (c ∷ calls) lt h =
    let le = h.0 in (
      le,
      (λ position none. sink_before regions (regions_from other place stag lists ps) c.number position (h.1 position none) (other_sink c.number other position place lists (λ e. omega (arith, e, le, lt)) stag ps)),
      none_more n other place stag lists ps regions calls lt h.2,
    )

none_append_lem : (n : ℕ) (regions : List Region) (xs ys : List PendingCall) → HaveNoSinks n regions xs → HaveNoSinks n regions ys → HaveNoSinks n regions (xs ++ ys)
none_append_lem n regions [] ys h g = g
none_append_lem n regions (x ∷ xs) ys h g = (h.0, h.1, none_append_lem n regions xs ys h.2 g)

none_kept : (n : ℕ) (regions : List Region) (p : PendingCall → Bool) (calls : List PendingCall) → HaveNoSinks n regions calls → HaveNoSinks n regions (filter p calls)
none_kept n regions p [] h = tt
none_kept n regions p (c ∷ calls) h = by (p c) (none_kept n regions p calls h.2)
  where
    by : (b : Bool) → HaveNoSinks n regions (filter p calls) → HaveNoSinks n regions (cond b (c ∷ filter p calls) (filter p calls))
    by true rest = (h.0, h.1, rest)
    by false rest = rest

none_found_lem : (n number : ℕ) (regions : List Region) (calls : List PendingCall) (c : PendingCall) → HaveNoSinks n regions calls → find (λ c. eqb c.number number) calls ≡ Some c → HasNoSink regions c
none_found_lem n number regions [] c h e = absurd cc
none_found_lem n number regions (d ∷ calls) c h e = by (eqb d.number number) e (λ f. none_found_lem n number regions calls c h.2 f)
  where
    by : (b : Bool) → cond b (Some d) (find (λ c. eqb c.number number) calls) ≡ Some c → (find (λ c. eqb c.number number) calls ≡ Some c → HasNoSink regions c) → HasNoSink regions c
    by true e more = (let same : d ≡ c = (let t : Some d ≡ Some c = e in cc) in subst (λ (x : PendingCall). HasNoSink regions x) same h.1)
    by false e more = more e

-- ---- From frame to frame

record SinksAreKnown (n : ℕ) (regions : List Region) (calls : List PendingCall) : Type 0 where
  owners : OwnersBelow n regions
  none : HaveNoSinks n regions calls

later : (n m : ℕ) (regions : List Region) (calls : List PendingCall) → n ≤ m → SinksAreKnown n regions calls → SinksAreKnown m regions calls
later n m regions calls le h = record { owners = owners_more n m regions le h.owners; none = none_later_lem n m regions calls le h.none }

owners_from : (number place stag : ℕ) (lists : ChunkLists) (ps : List ℕ) → OwnersBelow number (regions_from number place stag lists ps)
owners_from number place stag lists [] = tt
owners_from number place stag lists (p ∷ ps) = (omega arith, owners_from number place (stag + 1) lists ps)

new_known : (k : ServerState) (place : ℕ) (c : PendingCall) → c.number ≡ k.received.sends + 1 → SinksAreKnown k.received.sends k.regions k.calls → SinksAreKnown (k.received.sends + 1) (k.regions ++ regions_of k place c) (k.calls ++ c ∷ [])
new_known k place c number h =
    let n : ℕ = k.received.sends in
    let news : List Region = regions_of k place c in
    record {
      owners = owners_append (n + 1) k.regions news (owners_more n (n + 1) k.regions (omega arith) h.owners) (owners_more c.number (n + 1) news (omega (arith, number)) (owners_from c.number place (next_stag k) c.lists (chunks_of c.lists)));
      none = none_append_lem (n + 1) (k.regions ++ news) k.calls (c ∷ [])
          (none_later_lem n (n + 1) (k.regions ++ news) k.calls (omega arith) (none_more n c.number place (next_stag k) c.lists (chunks_of c.lists) k.regions k.calls (omega (arith, number)) h.none))
          ((omega (arith, number)), (λ position none. sink_none k.regions news n c.number position (omega (arith, number)) h.owners ∙ own_sink c.number position place c.lists none (next_stag k) (positions c.lists.read)), tt);
    }

effect_known : (k : ServerState) (f : Frame) → k.received.sends ≤ (received_by k.received (frame_segment f)).sends → SinksAreKnown k.received.sends k.regions k.calls
    → SinksAreKnown (received_by k.received (frame_segment f)).sends (frame_effect k f).regions (frame_effect k f).calls
effect_known k f le h =
    each_effect k (λ m. n ≡ k.received.sends + 1) (λ s. SinksAreKnown n s.regions s.calls) (held_messages k (λ m. n ≡ k.received.sends + 1) (λ calls reads regions. SinksAreKnown n regions calls) same pending)
    (held_responses k (λ calls reads regions. SinksAreKnown n regions calls) same
    (λ c s g. record { owners = g.owners; none = none_kept n s.regions (λ other. not (eqb other.number c.number)) s.calls g.none }) (λ r reads is. same)) f
    (λ s m is whole. ap (λ (r : Result Segment ℕ). (received_by k.received r).sends) is ∙ whole_with k.received s m whole)
  where
    n : ℕ
    n = (received_by k.received (frame_segment f)).sends

    same : SinksAreKnown n k.regions k.calls
    same = later k.received.sends n k.regions k.calls le h

    pending : (place : ℕ) (message : List ℕ) (c : PendingCall) → n ≡ k.received.sends + 1 → verdict k message ≡ MakesPending c → SinksAreKnown n (k.regions ++ regions_of k place c) (k.calls ++ c ∷ [])
    pending place message c next is =
        subst (λ (m : ℕ). SinksAreKnown m (k.regions ++ regions_of k place c) (k.calls ++ c ∷ [])) (sym next) (new_known k place c (subst (λ (v : Verdict). NumberIs (k.received.sends + 1) v) is (verdict_number k message)) h)

abbrev KnowsSinks : ServerState → Type 0
KnowsSinks k = SinksAreKnown k.received.sends k.regions k.calls

frame_known : (k : ServerState) (f : Frame) → k.received.sends ≤ (received_by k.received (frame_segment f)).sends → KnowsSinks k → KnowsSinks (with_effect k f (frame_effect k f))
frame_known k f le h =
    let s : FrameEffect = frame_effect k f in
    let n : ℕ = (received_by k.received (frame_segment f)).sends in
    let u = effect_known k f le h in
    record { owners = owners_closed (is_over s.calls s.reads) f.end n s.regions u.owners; none = none_closed (is_over s.calls s.reads) f.end n s.regions s.calls u.none }

after_known : (opened : LinkParameters) (k : ServerState) (event : RunEvent) → KnowsSinks k → KnowsSinks (server_state_after opened k event)
unfolding server_state_after
after_known opened k (FrameReceived f) h = by (is_hello f) (after_goes opened k (FrameReceived f))
  where
    by : (b : Bool) → Goes k (cond b (with_own_hello opened k f) (with_effect k f (frame_effect k f))) → KnowsSinks (cond b (with_own_hello opened k f) (with_effect k f (frame_effect k f)))
    by true g = record { owners = h.owners; none = h.none }
    by false g = frame_known k f g.rises h
after_known opened k (CallSubmitted place a) h = h
after_known opened k (MemoryRevoked place xid) h = h
after_known opened k (CallExecuted e) h = record { owners = h.owners; none = none_kept k.received.sends k.regions (λ c. not (eqb c.xid e.xid)) k.calls h.none }
after_known opened k (QueueWritten taken) h = record { owners = h.owners; none = h.none }
after_known opened k (ServerTold what) h = record { owners = h.owners; none = h.none }

known_along : (opened : LinkParameters) (es : List RunEvent) → KnowsSinks (server_by opened es)
known_along opened es = kept_after (server_rules opened) KnowsSinks (after_known opened) (initial_server opened) es (record { owners = tt; none = tt })

-- ---- What such a chunk brings

no_bytes_lem : (t : ServerState) (place : ℕ) (c : PendingCall) (position : ℕ) → AreNumbered 1 t.regions → sink_of t.regions c.number position ≡ 0 → chunk_bytes t place c position ≡ []
unfolding region_bytes
no_bytes_lem t place c position numbered none =
    ap (λ (s : ℕ). region_bytes_by (region_grants place t.regions) t.accesses_received (find (λ r. eqb r.stag s) t.regions)) none
    ∙ ap (λ (o : Option Region). region_bytes_by (region_grants place t.regions) t.accesses_received o) (none_before 1 0 t.regions (omega arith) numbered)

-- of a call that a message makes pending, before it is pending; and of one that is
pub new_empty : (opened : LinkParameters) (es : List RunEvent) (place : ℕ) (c : PendingCall) (position : ℕ) → c.number ≡ (server_by opened es).received.sends + 1 → chunk_bytes (server_by opened es) place c position ≡ []
new_empty opened es place c position number =
    let k : ServerState = server_by opened es in
    no_bytes_lem k place c position (server_numbers opened es)
    (ap (λ (rs : List Region). sink_of rs c.number position) (sym (append-nil k.regions)) ∙ sink_none k.regions [] k.received.sends c.number position (omega (arith, number)) (known_along opened es).owners)

pub pending_empty : (opened : LinkParameters) (es : List RunEvent) (f : Frame) (segment : Segment) (number : ℕ) (c : PendingCall) (position : ℕ) → call_of_number (server_by opened es) number ≡ Some c → total_at position c.lists.read ≡ 0
    → chunk_bytes (with_access (server_by opened es) f segment) f.end c position ≡ []
pending_empty opened es f segment number c position found none =
    let k : ServerState = server_by opened es in
    let u = known_along opened es in
    no_bytes_lem (with_access k f segment) f.end c position (server_numbers opened es) (none_found_lem k.received.sends number k.regions k.calls c u.none found position none)
