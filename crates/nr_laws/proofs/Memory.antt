-- What the memory of an end holds: the bytes of a region, with the tagged segments that were received laid over them.
use Rattle.std.proofs.Common.{◌≡◌, ℕ, ◌≤◌, Bool, true, false, cond, ◌&&◌, eqb, leb, List, [], ◌∷◌, ◌++◌, map, Option, None, Some, is_none, refl, sym, ap, ◌∙◌, arith, append_assoc, append-nil}
use Rattle.std.proofs.lemmas.Bool.{le-leb}
use Rattle.std.specs.List.{find}
use Rattle.nr_wire.specs.Segment.{Segment, segment_of}
use Rattle.nr_wire.specs.Segment.Segment.{Tagged, Untagged}
use Rattle.nr_regions.specs.declared.right.Right.{Right}
use Rattle.nr_regions.specs.declared.denied.Denied.{Denied}
use Rattle.nr_regions.specs.RegisteredMemory.{Access, denial_in, bytes_after_write}
use Rattle.nr_regions.specs.Access.{Grant, TaggedSegment, access_of_tagged, applies, grant_at, grant_offer, grant_denial, after_segment, contents}
use Rattle.nr_link.specs.declared.end.End.{End as Stop}
use Rattle.nr_link.specs.Frames.{Frame, is_hello}
use Rattle.nr_link.specs.Ending.{tagged_access}
use Rattle.nr_reduce.specs.Events.{RunEvent}
use Rattle.nr_reduce.specs.Events.RunEvent.{FrameReceived, CallSubmitted, MemoryRevoked, CallExecuted, QueueWritten, ServerTold}
use Rattle.nr_reduce.specs.EndRules.{EndMachine, EndState, next_end_state, next_end_state_by, next_end_state_in, end_state_after}
use Rattle.nr_reduce.specs.OfferedRegions.{Region, until_or, region_grant, region_grants, closed_if, regions_closed, region_bytes, region_bytes_by}
use Rattle.nr_reduce.specs.Server.{tagged_accesses}
use Rattle.nr_reduce.specs.ChunkBytes.{bytes_after_segments}
use Rattle.nr_reduce.proofs.OfferedMemory.{grants_from, found, AreAlike, alike_offers}
use Rattle.nr_laws.proofs.Outputs.{Output}
use Rattle.nr_laws.proofs.Outputs.Output.{AHello, ASegment}
use Rattle.nr_laws.proofs.Brought.{Brought, Brings}
use Rattle.nr_laws.proofs.ReceivedMessages.{was_live_lem}
use Rattle.std.proofs.lemmas.List.{map-append}

-- ---- Parts: the address of a tagged segment, and its payload

pub record Part : Type 0 where
  pub stag : ℕ
  pub to : ℕ
  pub payload : List ℕ

abbrev pub part_of : TaggedSegment → Part
part_of s = record { stag = s.stag; to = s.to; payload = s.payload }

abbrev pub parts_of : List TaggedSegment → List Part
parts_of segments = map part_of segments

abbrev pub segment_parts : Segment → List Part
segment_parts (Tagged last opcode stag to payload) = record { stag = stag; to = to; payload = payload } ∷ []
segment_parts (Untagged last opcode w queue msn offset payload) = []

abbrev pub parts_out : List Output → List Part
parts_out [] = []
parts_out (AHello bytes ∷ outs) = parts_out outs
parts_out (ASegment s ∷ outs) = segment_parts s ++ parts_out outs

abbrev pub after_part : ℕ → List ℕ → Part → List ℕ
after_part stag bytes p = cond (eqb p.stag stag) (bytes_after_write bytes p.to p.payload) bytes

abbrev pub after_parts : ℕ → List ℕ → List Part → List ℕ
after_parts stag bytes [] = bytes
after_parts stag bytes (p ∷ ps) = after_parts stag (after_part stag bytes p) ps

pub after_append : (stag : ℕ) (bytes : List ℕ) (xs ys : List Part) → after_parts stag bytes (xs ++ ys) ≡ after_parts stag (after_parts stag bytes xs) ys
after_append stag bytes [] ys = refl
after_append stag bytes (x ∷ xs) ys = after_append stag (after_part stag bytes x) xs ys

pub out_append : (xs ys : List Output) → parts_out (xs ++ ys) ≡ parts_out xs ++ parts_out ys
out_append [] ys = refl
out_append (AHello bytes ∷ xs) ys = out_append xs ys
out_append (ASegment s ∷ xs) ys = ap (λ (ps : List Part). segment_parts s ++ ps) (out_append xs ys) ∙ sym (append_assoc (segment_parts s) (parts_out xs) (parts_out ys))

pub laid_parts : (stag : ℕ) (bytes : List ℕ) (segments : List Segment) → bytes_after_segments stag bytes segments ≡ after_parts stag bytes (parts_out (map ASegment segments))
laid_parts stag bytes [] = refl
laid_parts stag bytes (Tagged last opcode s to payload ∷ segments) = laid_parts stag (cond (eqb s stag) (bytes_after_write bytes to payload) bytes) segments
laid_parts stag bytes (Untagged last opcode w queue msn offset payload ∷ segments) = laid_parts stag bytes segments

pub parts_append : (xs ys : List TaggedSegment) → parts_of (xs ++ ys) ≡ parts_of xs ++ parts_of ys
parts_append [] ys = refl
parts_append (x ∷ xs) ys = ap (λ (ps : List Part). part_of x ∷ ps) (parts_append xs ys)

-- ---- What is received is what was brought

abbrev pub accesses_event : List TaggedSegment → RunEvent → List TaggedSegment
accesses_event a (FrameReceived f) = cond (is_hello f) a (a ++ tagged_accesses f (segment_of f.bytes))
accesses_event a (CallSubmitted p c) = a
accesses_event a (MemoryRevoked p xid) = a
accesses_event a (CallExecuted e) = a
accesses_event a (QueueWritten taken) = a
accesses_event a (ServerTold what) = a

abbrev pub Gathering : {S : Type 0} → EndMachine S → (S → List TaggedSegment) → Type 0
Gathering rules accesses = (s : _) (e : RunEvent) → rules.end_at s e ≡ None → accesses (rules.state_after s e) ≡ accesses_event (accesses s) e

pub access_parts : (f : Frame) (s : Segment) → parts_of (tagged_access f s) ≡ segment_parts s
access_parts f (Tagged last opcode stag to payload) = refl
access_parts f (Untagged last opcode w queue msn offset payload) = refl

frame_parts : (a : List TaggedSegment) (o : Output) (f : Frame) (outs : List Output) → Brought o f → parts_of (accesses_event a (FrameReceived f)) ++ parts_out outs ≡ parts_of a ++ parts_out (o ∷ outs)
frame_parts a (AHello bytes) f outs b = ap (λ (x : Bool). parts_of (cond x a (a ++ tagged_accesses f (segment_of f.bytes))) ++ parts_out outs) b.0
frame_parts a (ASegment s) f outs b =
    (λ i. parts_of (cond (b.0 i) a (a ++ tagged_accesses f (b.1 i))) ++ parts_out outs)
    ∙ ap (λ (ps : List Part). ps ++ parts_out outs) (parts_append a (tagged_access f s) ∙ ap (λ (ps : List Part). parts_of a ++ ps) (access_parts f s))
    ∙ append_assoc (parts_of a) (segment_parts s) (parts_out outs)

one_gather : {S : Type 0} (rules : EndMachine S) (accesses : S → List TaggedSegment) → Gathering rules accesses → (r : EndState S) (e : RunEvent) → (next_end_state rules r e).ended ≡ None → accesses (next_end_state rules r e).state ≡ accesses_event (accesses r.state) e
one_gather {S} rules accesses goes r e live = by_end r.state r.ended live
  where
    by_why : (s : S) (o : Option Stop) → rules.end_at s e ≡ o → (next_end_state_by rules s e o).ended ≡ None → accesses (next_end_state_by rules s e o).state ≡ accesses_event (accesses s) e
    by_why s None is h = goes s e is
    by_why s (Some end) is h = absurd cc

    by_end : (s : S) (o : Option Stop) → (next_end_state_in rules s e o).ended ≡ None → accesses (next_end_state_in rules s e o).state ≡ accesses_event (accesses s) e
    by_end s None h = by_why s (rules.end_at s e) refl h
    by_end s (Some end) h = absurd cc

pub gathers : {S : Type 0} (rules : EndMachine S) (accesses : S → List TaggedSegment) → Gathering rules accesses → (r : EndState S) (es : List RunEvent) (outs : List Output) → Brings es outs
    → (end_state_after rules r es).ended ≡ None → parts_of (accesses (end_state_after rules r es).state) ≡ parts_of (accesses r.state) ++ parts_out outs
gathers rules accesses goes r [] outs b live = sym (append-nil (parts_of (accesses r.state))) ∙ ap (λ (xs : List Output). parts_of (accesses r.state) ++ parts_out xs) (sym b)
gathers rules accesses goes r (FrameReceived f ∷ es) [] b live = absurd b
gathers rules accesses goes r (FrameReceived f ∷ es) (o ∷ outs) b live =
    let t = next_end_state rules r (FrameReceived f) in
    gathers rules accesses goes t es outs b.1 live
    ∙ ap (λ (a : List TaggedSegment). parts_of a ++ parts_out outs) (one_gather rules accesses goes r (FrameReceived f) (was_live_lem rules t es live))
    ∙ frame_parts (accesses r.state) o f outs b.0
gathers rules accesses goes r (CallSubmitted p a ∷ es) outs b live =
    let t = next_end_state rules r (CallSubmitted p a) in
    gathers rules accesses goes t es outs b live ∙ ap (λ (a : List TaggedSegment). parts_of a ++ parts_out outs) (one_gather rules accesses goes r (CallSubmitted p a) (was_live_lem rules t es live))
gathers rules accesses goes r (MemoryRevoked p xid ∷ es) outs b live =
    let t = next_end_state rules r (MemoryRevoked p xid) in
    gathers rules accesses goes t es outs b live ∙ ap (λ (a : List TaggedSegment). parts_of a ++ parts_out outs) (one_gather rules accesses goes r (MemoryRevoked p xid) (was_live_lem rules t es live))
gathers rules accesses goes r (CallExecuted e ∷ es) outs b live =
    let t = next_end_state rules r (CallExecuted e) in
    gathers rules accesses goes t es outs b live ∙ ap (λ (a : List TaggedSegment). parts_of a ++ parts_out outs) (one_gather rules accesses goes r (CallExecuted e) (was_live_lem rules t es live))
gathers rules accesses goes r (QueueWritten taken ∷ es) outs b live =
    let t = next_end_state rules r (QueueWritten taken) in
    gathers rules accesses goes t es outs b live ∙ ap (λ (a : List TaggedSegment). parts_of a ++ parts_out outs) (one_gather rules accesses goes r (QueueWritten taken) (was_live_lem rules t es live))
gathers rules accesses goes r (ServerTold what ∷ es) outs b live =
    let t = next_end_state rules r (ServerTold what) in
    gathers rules accesses goes t es outs b live ∙ ap (λ (a : List TaggedSegment). parts_of a ++ parts_out outs) (one_gather rules accesses goes r (ServerTold what) (was_live_lem rules t es live))

-- ---- Accesses that are allowed

-- each access lacks nothing of the regions, by their lifetimes so far
abbrev pub Settled : ℕ → List Region → List TaggedSegment → Type 0
Settled place regions [] = Unit {0}
Settled place regions (a ∷ accesses) = (a.end ≤ place) × (grant_denial (region_grants place regions) (access_of_tagged a) a.end ≡ None) × Settled place regions accesses

denial_same : (gs hs : List Grant) (a : Access) (end : ℕ) → grant_offer (found a.stag end gs) ≡ grant_offer (found a.stag end hs) → grant_denial gs a end ≡ grant_denial hs a end
unfolding grant_denial grant_at
denial_same gs hs a end e = ap (λ (o : Option (Right × ℕ)). denial_in o a) e

alike_settled : (place one two : ℕ) (rs ss : List Region) (accesses : List TaggedSegment) → one ≡ place → place ≤ two → AreAlike place one two rs ss → Settled place rs accesses → Settled two ss accesses
unfolding region_grants
alike_settled place one two rs ss [] is le h s = tt
alike_settled place one two rs ss (a ∷ accesses) is le h s = (
  let e = s.0 in omega (arith, e, le),
  denial_same (grants_from two ss) (grants_from place rs) (access_of_tagged a) a.end
      (sym (alike_offers place one two a.stag a.end rs ss h s.0) ∙ ap (λ (n : ℕ). grant_offer (found a.stag a.end (grants_from n rs))) is) ∙ s.1,
  alike_settled place one two rs ss accesses is le h s.2,
)

self_alike : (place later : ℕ) (regions : List Region) → place ≤ later → AreAlike place place later regions regions
self_alike place later [] le = tt
self_alike place later (r ∷ regions) le = (record { stag = refl; right = refl; bytes = refl; from = refl; until = λ end low. by r.until end low }, self_alike place later regions le)
  where
    by : (u : Option ℕ) (end : ℕ) → end ≤ place → leb end (until_or place u) ≡ leb end (until_or later u)
    by None end low = le-leb end place low ∙ sym (le-leb end later (omega (arith, low, le)))
    by (Some until) end low = refl

pub settled_later : (place later : ℕ) (regions : List Region) (accesses : List TaggedSegment) → place ≤ later → Settled place regions accesses → Settled later regions accesses
settled_later place later regions accesses le s = alike_settled place place later regions regions accesses refl le (self_alike place later regions le) s

closed_alike : (test : Region → Bool) (place later : ℕ) (regions : List Region) → place ≤ later → AreAlike place place later regions (regions_closed test later regions)
unfolding regions_closed
closed_alike test place later [] le = tt
closed_alike test place later (r ∷ regions) le = (one (test r), closed_alike test place later regions le)
  where
    by : (u : Option ℕ) (end : ℕ) → end ≤ place → leb end (until_or place u) ≡ leb end (until_or later u)
    by None end low = le-leb end place low ∙ sym (le-leb end later (omega (arith, low, le)))
    by (Some until) end low = refl

    by_closed : (u : Option ℕ) (end : ℕ) → end ≤ place → leb end (until_or place u) ≡ leb end (until_or later (Rattle.nr_reduce.specs.OfferedRegions.until_at later u))
    by_closed None end low = le-leb end place low ∙ sym (le-leb end later (omega (arith, low, le)))
    by_closed (Some until) end low = refl

    one : (b : Bool) → Rattle.nr_reduce.proofs.OfferedMemory.IsAlike place place later r (closed_if b later r)
    one true = record { stag = refl; right = refl; bytes = refl; from = refl; until = λ end low. by_closed r.until end low }
    one false = record { stag = refl; right = refl; bytes = refl; from = refl; until = λ end low. by r.until end low }

pub settled_closed : (test : Region → Bool) (place later : ℕ) (regions : List Region) (accesses : List TaggedSegment) → place ≤ later → Settled place regions accesses → Settled later (regions_closed test later regions) accesses
settled_closed test place later regions accesses le s = alike_settled place place later regions (regions_closed test later regions) accesses refl le (closed_alike test place later regions le) s

-- regions that are closed at a later offset, by the lifetimes up to this one
revoked_alike : (test : Region → Bool) (place later : ℕ) (regions : List Region) → place ≤ later → AreAlike place place place regions (regions_closed test later regions)
unfolding regions_closed
revoked_alike test place later [] le = tt
revoked_alike test place later (r ∷ regions) le = (one (test r), revoked_alike test place later regions le)
  where
    by_closed : (u : Option ℕ) (end : ℕ) → end ≤ place → leb end (until_or place u) ≡ leb end (until_or place (Rattle.nr_reduce.specs.OfferedRegions.until_at later u))
    by_closed None end low = le-leb end place low ∙ sym (le-leb end later (omega (arith, low, le)))
    by_closed (Some until) end low = refl

    one : (b : Bool) → Rattle.nr_reduce.proofs.OfferedMemory.IsAlike place place place r (closed_if b later r)
    one true = record { stag = refl; right = refl; bytes = refl; from = refl; until = λ end low. by_closed r.until end low }
    one false = record { stag = refl; right = refl; bytes = refl; from = refl; until = λ end low. refl }

pub revoked_settled : (place later : ℕ) (regions : List Region) (accesses : List TaggedSegment) (test : Region → Bool) → place ≤ later → Settled place regions accesses → Settled place (regions_closed test later regions) accesses
revoked_settled place later regions accesses test le s = alike_settled place place place regions (regions_closed test later regions) accesses refl (omega arith) (revoked_alike test place later regions le) s

found_append : (stag end : ℕ) (xs ys : List Grant) (a : Access) → denial_in (grant_offer (found stag end xs)) a ≡ None → found stag end (xs ++ ys) ≡ found stag end xs
found_append stag end [] ys a e = absurd cc
found_append stag end (x ∷ xs) ys a e = by (applies stag end x) e (λ h. found_append stag end xs ys a h)
  where
    by : (b : Bool) → denial_in (grant_offer (cond b (Some x) (found stag end xs))) a ≡ None → (denial_in (grant_offer (found stag end xs)) a ≡ None → found stag end (xs ++ ys) ≡ found stag end xs)
        → cond b (Some x) (found stag end (xs ++ ys)) ≡ cond b (Some x) (found stag end xs)
    by true e rest = refl
    by false e rest = rest e

pub settled_append : (place : ℕ) (xs ys : List Region) (accesses : List TaggedSegment) → Settled place xs accesses → Settled place (xs ++ ys) accesses
unfolding grant_denial grant_at region_grants
settled_append place xs ys [] s = tt
settled_append place xs ys (a ∷ accesses) s = (
  s.0,
  ap (λ (gs : List Grant). denial_in (grant_offer (found a.stag a.end gs)) (access_of_tagged a)) (map-append (region_grant place) xs ys)
      ∙ ap (λ (o : Option Grant). denial_in (grant_offer o) (access_of_tagged a)) (found_append a.stag a.end (grants_from place xs) (grants_from place ys) (access_of_tagged a) s.1) ∙ s.1,
  settled_append place xs ys accesses s.2,
)

pub settled_more : (place : ℕ) (regions : List Region) (xs ys : List TaggedSegment) → Settled place regions xs → Settled place regions ys → Settled place regions (xs ++ ys)
settled_more place regions [] ys s t = t
settled_more place regions (x ∷ xs) ys s t = (s.0, s.1, settled_more place regions xs ys s.2 t)

-- the contents of a region are laid by them
pub contents_parts : (place stag : ℕ) (regions : List Region) (bytes : List ℕ) (accesses : List TaggedSegment) → Settled place regions accesses → contents (region_grants place regions) stag bytes accesses ≡ after_parts stag bytes (parts_of accesses)
contents_parts place stag regions bytes [] s = refl
contents_parts place stag regions bytes (a ∷ accesses) s =
    ap (λ (b : List ℕ). contents (region_grants place regions) stag b accesses) one ∙ contents_parts place stag regions (after_part stag bytes (part_of a)) accesses s.2
  where
    one : after_segment (region_grants place regions) stag bytes a ≡ after_part stag bytes (part_of a)
    one = ap (λ (d : Option Denied). cond (eqb a.stag stag && is_none d) (bytes_after_write bytes a.to a.payload) bytes) s.1 ∙ by (eqb a.stag stag)
      where
        by : (b : Bool) → cond (b && true) (bytes_after_write bytes a.to a.payload) bytes ≡ cond b (bytes_after_write bytes a.to a.payload) bytes
        by true = refl
        by false = refl

-- what a memory holds under an STag with a region
pub held_parts : (place stag : ℕ) (regions : List Region) (accesses : List TaggedSegment) (r : Region) → Settled place regions accesses → find (λ x. eqb x.stag stag) regions ≡ Some r → r.stag ≡ stag
    → region_bytes (region_grants place regions) regions accesses stag ≡ after_parts stag r.bytes (parts_of accesses)
unfolding region_bytes
held_parts place stag regions accesses r s there own =
    ap (λ (o : Option Region). region_bytes_by (region_grants place regions) accesses o) there
    ∙ contents_parts place r.stag regions r.bytes accesses s ∙ ap (λ (n : ℕ). after_parts n r.bytes (parts_of accesses)) own
