-- What each event leaves of a region.
use Rattle.std.proofs.Common.{◌≡◌, ◌≢◌, ℕ, ◌+◌, ◌≤◌, Bool, true, false, cond, ltb, List, ◌++◌, length, take, drop, Option, None, Some, refl, sym, ap, subst, ◌∙◌, inl, inr, arith, Result, Ok, Err, OnOk, OnErr, IfOk, unwrap_or}
use Rattle.std.proofs.lemmas.Bool.{ltb-false, eq-eqb, ne_eqb, cases_eq}
use Rattle.std.proofs.lemmas.List.{length-append, length-take-le, length-drop}
use Rattle.std.specs.Result.{result_err}
use Rattle.std.specs.Ordering.{nat_cmp}
use Rattle.std.specs.Cmp.{nat_cmp_total, unsigned_tied}
use Rattle.std.specs.FinMap.{FinMap, get, insert, remove, get-insert, get-remove}
use Rattle.nr_regions.specs.declared.right.Right.{Right}
use Rattle.nr_regions.specs.declared.right.Kind.{Kind}
use Rattle.nr_regions.specs.declared.denied.Denied.{Denied}
use Rattle.nr_regions.specs.declared.denied.Denied.TheVariants.{NoStag, Bounds, Right as WrongRight}
use Rattle.nr_regions.specs.RegisteredMemory.{Region, RegisteredMemory, Claim, IsHeld, NoneIsDead, is_dead, held_region, live_region, right_for, same_right, denial_in, region_offer, denial, bytes_after_write, after_place, after_place_in, after_register, after_release, after_invalidate, after_invalidate_by, claim_of}
use Rattle.nr_regions.specs.Access.{TaggedSegment, access_of_tagged}
use Rattle.nr_regions.specs.Events.{MemoryEvent, after_arrival, after_event, IsNoReleaseOf}
use Rattle.nr_regions.specs.Events.MemoryEvent.{Register, Release, Invalidate, Arrive}

-- a map at the key of a change, and at any other
pub get_insert_here : {X : Type 0} (m : FinMap nat_cmp X) (k : ℕ) (v : X) → get (insert m k v) k ≡ Some v
get_insert_here m k v =
    get-insert nat_cmp_total m k v k ∙ ap (λ (b : Bool). cond b (Some v) (get m k)) (unsigned_tied k k ∙ eq-eqb k k refl)

pub get_insert_other : {X : Type 0} (m : FinMap nat_cmp X) (k : ℕ) (v : X) (q : ℕ) → q ≢ k → get (insert m k v) q ≡ get m q
get_insert_other m k v q ne =
    get-insert nat_cmp_total m k v q ∙ ap (λ (b : Bool). cond b (Some v) (get m q)) (unsigned_tied q k ∙ ne_eqb q k ne)

pub get_remove_here : {X : Type 0} (m : FinMap nat_cmp X) (k : ℕ) → get (remove m k) k ≡ None
get_remove_here m k =
    get-remove nat_cmp_total m k k ∙ ap (λ (b : Bool). cond b None (get m k)) (unsigned_tied k k ∙ eq-eqb k k refl)

pub get_remove_other : {X : Type 0} (m : FinMap nat_cmp X) (k q : ℕ) → q ≢ k → get (remove m k) q ≡ get m q
get_remove_other m k q ne =
    get-remove nat_cmp_total m k q ∙ ap (λ (b : Bool). cond b None (get m q)) (unsigned_tied q k ∙ ne_eqb q k ne)

pub length_bytes_after_write : (bytes : List ℕ) (at : ℕ) (over : List ℕ) → at + length over ≤ length bytes → length (bytes_after_write bytes at over) ≡ length bytes
length_bytes_after_write bytes at over le =
    omega (arith, length-append (take at bytes) (over ++ drop (at + length over) bytes), length-append over (drop (at + length over) bytes), length-take-le at bytes (omega arith), length-drop (at + length over) bytes)

abbrev some : Denied → Option Denied
some denied = Some denied

abbrev none_of_them : Option Region
none_of_them = None

-- an access that lacks nothing stays within the region
within_by : (short same : Bool) → cond short (Some Bounds) (cond same None (Some WrongRight)) ≡ None → short ≡ false
within_by true same e = absurd (let wrong : some Bounds ≡ None = e in cc)
within_by false same e = refl

pub within : (right : Right) (buf : List ℕ) (r : TaggedSegment) → denial_in (Some (right, length buf)) (access_of_tagged r) ≡ None → r.to + length r.payload ≤ length buf
within right buf r e = ltb-false _ _ (within_by (ltb (length buf) (r.to + length r.payload)) (same_right right (right_for r.kind)) e)

-- ---- Live regions are those that are held and aren't dead

pub live_held : (m : RegisteredMemory) (stag : ℕ) → is_dead m stag ≡ false → live_region m stag ≡ held_region m stag
unfolding live_region
live_held m stag alive = ap (λ (b : Bool). cond b None (held_region m stag)) alive

pub none_live : (m : RegisteredMemory) (stag : ℕ) → is_dead m stag ≡ true → live_region m stag ≡ None
unfolding live_region
none_live m stag dead = ap (λ (b : Bool). cond b None (held_region m stag)) dead

-- a region that is live is held
alive_by : (b : Bool) (o : Option Region) (region : Region) → cond b None o ≡ Some region → (b ≡ false) × (o ≡ Some region)
alive_by true o region e = absurd (let wrong : none_of_them ≡ Some region = e in cc)
alive_by false o region e = (refl, e)

pub live_parts : (m : RegisteredMemory) (stag : ℕ) (region : Region) → live_region m stag ≡ Some region → (is_dead m stag ≡ false) × (held_region m stag ≡ Some region)
unfolding live_region
live_parts m stag region e = alive_by (is_dead m stag) (held_region m stag) region e

-- memory in which an STag has the same region and the same flag
live_by : (m n : RegisteredMemory) (stag : ℕ) → get n.dead stag ≡ get m.dead stag → held_region n stag ≡ held_region m stag → live_region n stag ≡ live_region m stag
unfolding live_region
live_by m n stag flag region = λ i. cond (unwrap_or (flag i) false) None (region i)

-- nothing is held, so nothing is live
none_held_by : (b : Bool) (o : Option Region) → o ≡ None → cond b None o ≡ None
none_held_by true o e = refl
none_held_by false o e = e

pub none_held : (m : RegisteredMemory) (stag : ℕ) → held_region m stag ≡ None → live_region m stag ≡ None
unfolding live_region
none_held m stag e = none_held_by (is_dead m stag) (held_region m stag) e

pub register_here : (m : RegisteredMemory) (right : Right) (buf : List ℕ) → held_region (after_register m right buf) m.next ≡ Some (record { right = right; buf = buf })
unfolding held_region after_register
register_here m right buf = get_insert_here m.held m.next (record { right = right; buf = buf })

pub register_other : (m : RegisteredMemory) (right : Right) (buf : List ℕ) (stag : ℕ) → stag ≢ m.next → held_region (after_register m right buf) stag ≡ held_region m stag
unfolding held_region after_register
register_other m right buf stag ne = get_insert_other m.held m.next (record { right = right; buf = buf }) stag ne

pub release_here : (m : RegisteredMemory) (stag : ℕ) → held_region (after_release m stag) stag ≡ None
unfolding held_region after_release
release_here m stag = get_remove_here m.held stag

pub release_other : (m : RegisteredMemory) (other stag : ℕ) → stag ≢ other → held_region (after_release m other) stag ≡ held_region m stag
unfolding held_region after_release
release_other m other stag ne = get_remove_other m.held other stag ne

-- the same of what is live
pub live_register_here : (m : RegisteredMemory) (right : Right) (buf : List ℕ) → live_region (after_register m right buf) m.next ≡ Some (record { right = right; buf = buf })
unfolding after_register
live_register_here m right buf =
    live_held (after_register m right buf) m.next (ap (λ (o : Option Bool). unwrap_or o false) (get_insert_here m.dead m.next false)) ∙ register_here m right buf

pub live_register_other : (m : RegisteredMemory) (right : Right) (buf : List ℕ) (stag : ℕ) → stag ≢ m.next → live_region (after_register m right buf) stag ≡ live_region m stag
unfolding after_register
live_register_other m right buf stag ne = live_by m (after_register m right buf) stag (get_insert_other m.dead m.next false stag ne) (register_other m right buf stag ne)

pub live_release_here : (m : RegisteredMemory) (stag : ℕ) → live_region (after_release m stag) stag ≡ None
live_release_here m stag = none_held (after_release m stag) stag (release_here m stag)

pub live_release_other : (m : RegisteredMemory) (other stag : ℕ) → stag ≢ other → live_region (after_release m other) stag ≡ live_region m stag
unfolding after_release
live_release_other m other stag ne = live_by m (after_release m other) stag (get_remove_other m.dead other stag ne) (release_other m other stag ne)

-- ---- An Invalidate

died_held : (m : RegisteredMemory) (other stag : ℕ) (o : Option Region) → held_region (after_invalidate_by o m other) stag ≡ held_region m stag
unfolding held_region
died_held m other stag None = refl
died_held m other stag (Some region) = refl

-- every region is held as before
pub invalidate_held : (m : RegisteredMemory) (other stag : ℕ) → held_region (after_invalidate m other) stag ≡ held_region m stag
unfolding after_invalidate
invalidate_held m other stag = died_held m other stag (live_region m other)

died_next : (m : RegisteredMemory) (stag : ℕ) (o : Option Region) → (after_invalidate_by o m stag).next ≡ m.next
died_next m stag None = refl
died_next m stag (Some region) = refl

pub next_invalidate : (m : RegisteredMemory) (stag : ℕ) → (after_invalidate m stag).next ≡ m.next
unfolding after_invalidate
next_invalidate m stag = died_next m stag (live_region m stag)

died_other : (m : RegisteredMemory) (other stag : ℕ) (o : Option Region) → stag ≢ other → get (after_invalidate_by o m other).dead stag ≡ get m.dead stag
died_other m other stag None ne = refl
died_other m other stag (Some region) ne = get_insert_other m.dead other true stag ne

pub live_invalidate_other : (m : RegisteredMemory) (other stag : ℕ) → stag ≢ other → live_region (after_invalidate m other) stag ≡ live_region m stag
unfolding after_invalidate
live_invalidate_other m other stag ne =
    live_by m (after_invalidate m other) stag (died_other m other stag (live_region m other) ne) (invalidate_held m other stag)

died_here : (m : RegisteredMemory) (stag : ℕ) (o : Option Region) → live_region m stag ≡ o → live_region (after_invalidate_by o m stag) stag ≡ None
died_here m stag None e = e
died_here m stag (Some region) e =
    none_live (after_invalidate_by (Some region) m stag) stag (ap (λ (o : Option Bool). unwrap_or o false) (get_insert_here m.dead stag true))

-- its own STag is live no more
pub live_invalidate_here : (m : RegisteredMemory) (stag : ℕ) → live_region (after_invalidate m stag) stag ≡ None
unfolding after_invalidate
live_invalidate_here m stag = died_here m stag (live_region m stag) refl

-- ---- A payload that is placed

place_by_live : (m : RegisteredMemory) (stag to : ℕ) (bytes : List ℕ) (region : Region) → live_region m stag ≡ Some region → held_region (after_place m stag to bytes) stag ≡ Some (record { right = region.right; buf = bytes_after_write region.buf to bytes })
unfolding after_place held_region
place_by_live m stag to bytes region e =
    ap (λ (o : Option Region). get (after_place_in o m stag to bytes).held stag) e
    ∙ get_insert_here m.held stag (record { right = region.right; buf = bytes_after_write region.buf to bytes })

place_other_by : (m : RegisteredMemory) (other to : ℕ) (bytes : List ℕ) (stag : ℕ) (o : Option Region) → stag ≢ other → get (after_place_in o m other to bytes).held stag ≡ get m.held stag
place_other_by m other to bytes stag None ne = refl
place_other_by m other to bytes stag (Some region) ne =
    get_insert_other m.held other (record { right = region.right; buf = bytes_after_write region.buf to bytes }) stag ne

pub place_other : (m : RegisteredMemory) (other to : ℕ) (bytes : List ℕ) (stag : ℕ) → stag ≢ other → held_region (after_place m other to bytes) stag ≡ held_region m stag
unfolding after_place held_region
place_other m other to bytes stag ne = place_other_by m other to bytes stag (live_region m other) ne

same_flags_by : (m : RegisteredMemory) (stag to : ℕ) (bytes : List ℕ) (o : Option Region) → (after_place_in o m stag to bytes).dead ≡ m.dead
same_flags_by m stag to bytes None = refl
same_flags_by m stag to bytes (Some region) = refl

-- nothing dies by it
pub same_flags : (m : RegisteredMemory) (stag to : ℕ) (bytes : List ℕ) → (after_place m stag to bytes).dead ≡ m.dead
unfolding after_place
same_flags m stag to bytes = same_flags_by m stag to bytes (live_region m stag)

pub place_here : (m : RegisteredMemory) (stag to : ℕ) (bytes : List ℕ) (region : Region) → live_region m stag ≡ Some region → live_region (after_place m stag to bytes) stag ≡ Some (record { right = region.right; buf = bytes_after_write region.buf to bytes })
place_here m stag to bytes region e =
    live_held (after_place m stag to bytes) stag (ap (λ (d : FinMap nat_cmp Bool). unwrap_or (get d stag) false) (same_flags m stag to bytes) ∙ (live_parts m stag region e).0)
    ∙ place_by_live m stag to bytes region e

pub live_place_other : (m : RegisteredMemory) (other to : ℕ) (bytes : List ℕ) (stag : ℕ) → stag ≢ other → live_region (after_place m other to bytes) stag ≡ live_region m stag
live_place_other m other to bytes stag ne =
    live_by m (after_place m other to bytes) stag (ap (λ (d : FinMap nat_cmp Bool). get d stag) (same_flags m other to bytes)) (place_other m other to bytes stag ne)

next_by : (m : RegisteredMemory) (stag to : ℕ) (bytes : List ℕ) (o : Option Region) → (after_place_in o m stag to bytes).next ≡ m.next
next_by m stag to bytes None = refl
next_by m stag to bytes (Some region) = refl

pub next_after_place : (m : RegisteredMemory) (stag to : ℕ) (bytes : List ℕ) → (after_place m stag to bytes).next ≡ m.next
unfolding after_place
next_after_place m stag to bytes = next_by m stag to bytes (live_region m stag)

-- a tagged segment for another region
arrive_other_by : (m : RegisteredMemory) (r : TaggedSegment) (stag : ℕ) (d : Option Denied) → stag ≢ r.stag → held_region (after_arrival d m r) stag ≡ held_region m stag
arrive_other_by m r stag None ne = place_other m r.stag r.to r.payload stag ne
arrive_other_by m r stag (Some denied) ne = refl

pub arrive_other : (m : RegisteredMemory) (r : TaggedSegment) (stag : ℕ) → stag ≢ r.stag → held_region (after_event m (Arrive r)) stag ≡ held_region m stag
unfolding after_event
arrive_other m r stag ne = arrive_other_by m r stag (denial m (access_of_tagged r)) ne

live_arrive_other_by : (m : RegisteredMemory) (r : TaggedSegment) (stag : ℕ) (d : Option Denied) → stag ≢ r.stag → live_region (after_arrival d m r) stag ≡ live_region m stag
live_arrive_other_by m r stag None ne = live_place_other m r.stag r.to r.payload stag ne
live_arrive_other_by m r stag (Some denied) ne = refl

pub live_arrive_other : (m : RegisteredMemory) (r : TaggedSegment) (stag : ℕ) → stag ≢ r.stag → live_region (after_event m (Arrive r)) stag ≡ live_region m stag
unfolding after_event
live_arrive_other m r stag ne = live_arrive_other_by m r stag (denial m (access_of_tagged r)) ne

-- a tagged segment for an STag that isn't live
denied_none : (m : RegisteredMemory) (r : TaggedSegment) → live_region m r.stag ≡ None → denial m (access_of_tagged r) ≡ Some NoStag
unfolding denial
denied_none m r none = ap (λ (o : Option Region). denial_in (region_offer o) (access_of_tagged r)) none

pub none_arrive : (m : RegisteredMemory) (r : TaggedSegment) → live_region m r.stag ≡ None → after_event m (Arrive r) ≡ m
unfolding after_event
none_arrive m r none = ap (λ (d : Option Denied). after_arrival d m r) (denied_none m r none)

next_arrived : (m : RegisteredMemory) (r : TaggedSegment) (d : Option Denied) → (after_arrival d m r).next ≡ m.next
next_arrived m r None = next_after_place m r.stag r.to r.payload
next_arrived m r (Some denied) = refl

pub next_arrive : (m : RegisteredMemory) (r : TaggedSegment) → (after_event m (Arrive r)).next ≡ m.next
unfolding after_event
next_arrive m r = next_arrived m r (denial m (access_of_tagged r))

-- a tagged segment for this region: its bytes after it
abbrev pub buf_after : Option Denied → List ℕ → TaggedSegment → List ℕ
buf_after None buf r = bytes_after_write buf r.to r.payload
buf_after (Some denied) buf r = buf

arrive_here_by : (m : RegisteredMemory) (r : TaggedSegment) (right : Right) (buf : List ℕ) (d : Option Denied) → live_region m r.stag ≡ Some (record { right = right; buf = buf }) → live_region (after_arrival d m r) r.stag ≡ Some (record { right = right; buf = buf_after d buf r })
arrive_here_by m r right buf None e = place_here m r.stag r.to r.payload (record { right = right; buf = buf }) e
arrive_here_by m r right buf (Some denied) e = e

denial_region : (m : RegisteredMemory) (r : TaggedSegment) (right : Right) (buf : List ℕ) → live_region m r.stag ≡ Some (record { right = right; buf = buf }) → denial m (access_of_tagged r) ≡ denial_in (Some (right, length buf)) (access_of_tagged r)
unfolding denial
denial_region m r right buf e = ap (λ (o : Option Region). denial_in (region_offer o) (access_of_tagged r)) e

pub arrive_here : (m : RegisteredMemory) (r : TaggedSegment) (right : Right) (buf : List ℕ) → live_region m r.stag ≡ Some (record { right = right; buf = buf })
    → live_region (after_event m (Arrive r)) r.stag ≡ Some (record { right = right; buf = buf_after (denial_in (Some (right, length buf)) (access_of_tagged r)) buf r })
unfolding after_event
arrive_here m r right buf e =
    ap (λ (d : Option Denied). live_region (after_arrival d m r) r.stag) (denial_region m r right buf e)
    ∙ arrive_here_by m r right buf (denial_in (Some (right, length buf)) (access_of_tagged r)) e

length_after_by : (d : Option Denied) (right : Right) (buf : List ℕ) (r : TaggedSegment) → denial_in (Some (right, length buf)) (access_of_tagged r) ≡ d → length (buf_after d buf r) ≡ length buf
length_after_by None right buf r e = length_bytes_after_write buf r.to r.payload (within right buf r e)
length_after_by (Some denied) right buf r e = refl

pub length_buf_after : (right : Right) (buf : List ℕ) (r : TaggedSegment) → length (buf_after (denial_in (Some (right, length buf)) (access_of_tagged r)) buf r) ≡ length buf
length_buf_after right buf r = length_after_by (denial_in (Some (right, length buf)) (access_of_tagged r)) right buf r refl

-- a region is held from its registration on
pub held_after_register : (m : RegisteredMemory) (right : Right) (buf : List ℕ) → IsHeld (after_register m right buf) (claim_of m buf)
unfolding after_register
held_after_register m right buf = record { region = record { right = right; buf = buf }; there = register_here m right buf; len = refl; given = omega arith }

-- a claim on what is held in m is one on what is held in n, if n has the region's length and gave its STag
still : (m n : RegisteredMemory) (claim : Claim) (h : IsHeld m claim) (region : Region) → held_region n claim.stag ≡ Some region → length region.buf ≡ claim.len → m.next ≤ n.next → IsHeld n claim
still m n claim h region there len le = record { region = region; there = there; len = len; given = omega (arith, h.given) }

arrive_still_by : (m : RegisteredMemory) (claim : Claim) (r : TaggedSegment) (b : Bool) → is_dead m r.stag ≡ b → IsHeld m claim → r.stag ≡ claim.stag → IsHeld (after_event m (Arrive r)) claim
arrive_still_by m claim r true dead h e =
    subst (λ (n : RegisteredMemory). IsHeld n claim) (sym (none_arrive m r (none_live m r.stag dead))) h
arrive_still_by m claim r false alive h e =
    let right = h.region.right in
    let buf = h.region.buf in
    let after = buf_after (denial_in (Some (right, length buf)) (access_of_tagged r)) buf r in
    let there : live_region m r.stag ≡ Some (record { right = right; buf = buf }) = live_held m r.stag alive ∙ ap (held_region m) e ∙ h.there in
    let placed = live_parts (after_event m (Arrive r)) r.stag (record { right = right; buf = after }) (arrive_here m r right buf there) in
    still m (after_event m (Arrive r)) claim h (record { right = right; buf = after })
    (ap (held_region (after_event m (Arrive r))) (sym e) ∙ placed.1)
    (length_buf_after right buf r ∙ h.len) (omega (arith, next_arrive m r))

arrive_still : (m : RegisteredMemory) (claim : Claim) (r : TaggedSegment) → IsHeld m claim → r.stag ≡ claim.stag → IsHeld (after_event m (Arrive r)) claim
arrive_still m claim r h e = arrive_still_by m claim r (is_dead m r.stag) refl h e

-- and stays held until it is released
pub held_after_event : (m : RegisteredMemory) (claim : Claim) (event : MemoryEvent) → IsHeld m claim → IsNoReleaseOf claim.stag event → IsHeld (after_event m event) claim
unfolding after_event after_register after_release
held_after_event m claim (Register right buf) h s =
    still m (after_register m right buf) claim h h.region (register_other m right buf claim.stag (λ e. omega (arith, h.given, e)) ∙ h.there) h.len (omega arith)
held_after_event m claim (Release other) h s =
    still m (after_release m other) claim h h.region (release_other m other claim.stag (λ e. s (sym e)) ∙ h.there) h.len (omega arith)
held_after_event m claim (Invalidate other) h s =
    still m (after_invalidate m other) claim h h.region (invalidate_held m other claim.stag ∙ h.there) h.len (omega (arith, next_invalidate m other))
held_after_event m claim (Arrive r) h s =
    elim (cases_eq r.stag claim.stag) [
      | inl e ↦ arrive_still m claim r h e
      | inr ne ↦ still m (after_event m (Arrive r)) claim h h.region (arrive_other m r claim.stag (λ e. ne (sym e)) ∙ h.there) h.len (omega (arith, next_arrive m r))
    ]

-- what each call leaves of a claim
pub held_after_place : (m : RegisteredMemory) (claim : Claim) (kind : Kind) (stag to : ℕ) (bytes : List ℕ) → denial m (record { right = right_for kind; stag = stag; to = to; len = length bytes }) ≡ None
    → IsHeld m claim → IsHeld (after_place m stag to bytes) claim
unfolding after_event
held_after_place m claim kind stag to bytes e h =
    let r : TaggedSegment = record { kind = kind; stag = stag; to = to; payload = bytes; end = 0 } in
    let is : after_event m (Arrive r) ≡ after_place m stag to bytes = ap (λ (d : Option Denied). after_arrival d m r) e in
    subst (λ (n : RegisteredMemory). IsHeld n claim) is (held_after_event m claim (Arrive r) h tt)

pub keeps_place : (r : Result Unit Denied) (m n : RegisteredMemory) (kind : Kind) (stag to : ℕ) (bytes : List ℕ) → result_err r ≡ denial m (record { right = right_for kind; stag = stag; to = to; len = length bytes })
    → OnOk r (n ≡ after_place m stag to bytes) → OnErr r (n ≡ m) → (claim : Claim) → IsHeld m claim → IsHeld n claim
keeps_place (Ok x) m n kind stag to bytes e ok err claim h = subst (λ (k : RegisteredMemory). IsHeld k claim) (sym ok) (held_after_place m claim kind stag to bytes (sym e) h)
keeps_place (Err denied) m n kind stag to bytes e ok err claim h = subst (λ (k : RegisteredMemory). IsHeld k claim) (sym err) h

pub held_register : {E : Type 0} (r : Result Claim E) (m n : RegisteredMemory) (right : Right) (buf : List ℕ) → IfOk r (λ claim. (claim ≡ claim_of m buf) × (n ≡ after_register m right buf)) → IfOk r (λ claim. IsHeld n claim)
held_register (Ok claim) m n right buf ok =
    subst (λ (k : RegisteredMemory). IsHeld k claim) (sym ok.1) (subst (λ (c : Claim). IsHeld (after_register m right buf) c) (sym ok.0) (held_after_register m right buf))
held_register (Err e) m n right buf ok = tt

pub keeps_register : {E : Type 0} (r : Result Claim E) (m n : RegisteredMemory) (right : Right) (buf : List ℕ) → IfOk r (λ claim. (claim ≡ claim_of m buf) × (n ≡ after_register m right buf)) → OnErr r (n ≡ m)
    → (claim : Claim) → IsHeld m claim → IsHeld n claim
unfolding after_event
keeps_register (Ok _) m n right buf ok err claim h = subst (λ (k : RegisteredMemory). IsHeld k claim) (sym ok.1) (held_after_event m claim (Register right buf) h tt)
keeps_register (Err _) m n right buf ok err claim h = subst (λ (k : RegisteredMemory). IsHeld k claim) (sym err) h

pub keeps_release : (m : RegisteredMemory) (stag : ℕ) (claim : Claim) → claim.stag ≢ stag → IsHeld m claim → IsHeld (after_release m stag) claim
unfolding after_event
keeps_release m stag claim ne h = held_after_event m claim (Release stag) h (λ e. ne (sym e))

pub keeps_invalidate : (r : Result Unit Denied) (m n : RegisteredMemory) (stag : ℕ) → OnOk r (n ≡ after_invalidate m stag) → OnErr r (n ≡ m) → (claim : Claim) → IsHeld m claim → IsHeld n claim
unfolding after_event
keeps_invalidate (Ok x) m n stag ok err claim h = subst (λ (k : RegisteredMemory). IsHeld k claim) (sym ok) (held_after_event m claim (Invalidate stag) h tt)
keeps_invalidate (Err denied) m n stag ok err claim h = subst (λ (k : RegisteredMemory). IsHeld k claim) (sym err) h

-- ---- Memory in which no region is dead stays so but for an Invalidate

pub none_dead_register : (m : RegisteredMemory) (right : Right) (buf : List ℕ) → NoneIsDead m → NoneIsDead (after_register m right buf)
unfolding after_register
none_dead_register m right buf none stag =
    elim (cases_eq stag m.next) [
      | inl e ↦ ap (λ (o : Option Bool). unwrap_or o false) (ap (λ (q : ℕ). get (insert m.dead m.next false) q) e ∙ get_insert_here m.dead m.next false)
      | inr ne ↦ ap (λ (o : Option Bool). unwrap_or o false) (get_insert_other m.dead m.next false stag ne) ∙ none stag
    ]

pub none_dead_release : (m : RegisteredMemory) (other : ℕ) → NoneIsDead m → NoneIsDead (after_release m other)
unfolding after_release
none_dead_release m other none stag =
    elim (cases_eq stag other) [
      | inl e ↦ ap (λ (o : Option Bool). unwrap_or o false) (ap (λ (q : ℕ). get (remove m.dead other) q) e ∙ get_remove_here m.dead other)
      | inr ne ↦ ap (λ (o : Option Bool). unwrap_or o false) (get_remove_other m.dead other stag ne) ∙ none stag
    ]

arrived_flags : (m : RegisteredMemory) (r : TaggedSegment) (d : Option Denied) → (after_arrival d m r).dead ≡ m.dead
arrived_flags m r None = same_flags m r.stag r.to r.payload
arrived_flags m r (Some denied) = refl

pub none_dead_arrive : (m : RegisteredMemory) (r : TaggedSegment) → NoneIsDead m → NoneIsDead (after_event m (Arrive r))
unfolding after_event
none_dead_arrive m r none stag =
    ap (λ (d : FinMap nat_cmp Bool). unwrap_or (get d stag) false) (arrived_flags m r (denial m (access_of_tagged r))) ∙ none stag

pub none_dead_place : (m : RegisteredMemory) (stag to : ℕ) (bytes : List ℕ) → NoneIsDead m → NoneIsDead (after_place m stag to bytes)
none_dead_place m stag to bytes none other =
    ap (λ (d : FinMap nat_cmp Bool). unwrap_or (get d other) false) (same_flags m stag to bytes) ∙ none other
