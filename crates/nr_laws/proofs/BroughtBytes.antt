-- Each byte of a region is the one that was registered, or that of an allowed tagged segment of a frame that was received.
use Rattle.std.proofs.Common.{◌≡◌, ℕ, zero, suc, ◌+◌, ◌-◌, ◌≤◌, Bool, true, false, cond, ◌&&◌, eqb, List, [], ◌∷◌, ◌++◌, length, take, drop, Option, None, Some, is_none, Result, Ok, Err, refl, sym, ap, subst, ◌∙◌, arith, append_assoc, inl, inr, ◌⊎◌, eqb-true}
use Rattle.std.specs.Prelude.{slice_get}
use Rattle.nr_wire.specs.Segment.{Segment, segment_of}
use Rattle.nr_wire.specs.Segment.Segment.{Tagged, Untagged}
use Rattle.nr_regions.specs.declared.denied.Denied.{Denied}
use Rattle.nr_regions.specs.RegisteredMemory.{bytes_after_write}
use Rattle.nr_regions.specs.Access.{Grant, TaggedSegment, access_of_tagged, grant_denial, after_segment, contents}
use Rattle.nr_regions.proofs.Holding.{length_bytes_after_write}
use Rattle.nr_link.specs.declared.end.End.{End as Stop}
use Rattle.nr_link.specs.Frames.{Frame, is_hello}
use Rattle.nr_link.specs.Ending.{frame_segment, tagged_access}
use Rattle.nr_link.proofs.TakenSegments.{tagged_taken}
use Rattle.nr_reduce.specs.Events.{RunEvent}
use Rattle.nr_reduce.specs.Events.RunEvent.{FrameReceived, CallSubmitted, MemoryRevoked, CallExecuted, QueueWritten, ServerTold}
use Rattle.nr_reduce.specs.EndRules.{EndMachine, EndState, next_end_state, next_end_state_by, next_end_state_in, end_state_after}
use Rattle.nr_reduce.specs.Server.{tagged_accesses}
use Rattle.nr_reduce.proofs.Steps.{end_state_after_append}
use Rattle.nr_laws.proofs.Memory.{Gathering, accesses_event}

-- ---- One byte of what was written over

front_byte : (payload bytes : List ℕ) (i b : ℕ) → length payload ≤ length bytes → slice_get (payload ++ drop (length payload) bytes) i ≡ Some b → (slice_get bytes i ≡ Some b) ⊎ (slice_get payload i ≡ Some b)
front_byte [] bytes i b le e = inl e
front_byte (p ∷ payload) [] i b le e = absurd (omega (arith, le))
front_byte (p ∷ payload) (x ∷ bytes) zero b le e = inr e
front_byte (p ∷ payload) (x ∷ bytes) (suc i) b le e = front_byte payload bytes i b (omega (arith, le)) e

-- a byte of what was written over is an old one, or one of the payload
pub written_byte : (at : ℕ) (bytes payload : List ℕ) (i b : ℕ) → at + length payload ≤ length bytes → slice_get (bytes_after_write bytes at payload) i ≡ Some b → (slice_get bytes i ≡ Some b) ⊎ ((at ≤ i) × (slice_get payload (i - at) ≡ Some b))
written_byte zero bytes payload i b le e = by (front_byte payload bytes i b (omega (arith, le)) (ap (λ (n : ℕ). slice_get (payload ++ drop n bytes) i) none ∙ e))
  where
    none : length payload ≡ 0 + length payload
    none = omega arith

    by : (slice_get bytes i ≡ Some b) ⊎ (slice_get payload i ≡ Some b) → (slice_get bytes i ≡ Some b) ⊎ ((0 ≤ i) × (slice_get payload (i - 0) ≡ Some b))
    by (inl old) = inl old
    by (inr new) = inr (omega arith, ap (slice_get payload) (let s : i - 0 ≡ i = omega arith in s) ∙ new)
written_byte (suc at) [] payload i b le e = absurd (omega (arith, le))
written_byte (suc at) (x ∷ bytes) payload zero b le e = inl e
written_byte (suc at) (x ∷ bytes) payload (suc i) b le e = by (written_byte at bytes payload i b (omega (arith, le)) (ap (λ (n : ℕ). slice_get (take at bytes ++ (payload ++ drop n (x ∷ bytes))) i) (sym one) ∙ e))
  where
    one : suc at + length payload ≡ suc (at + length payload)
    one = omega arith

    by : (slice_get bytes i ≡ Some b) ⊎ ((at ≤ i) × (slice_get payload (i - at) ≡ Some b)) → (slice_get bytes i ≡ Some b) ⊎ ((suc at ≤ suc i) × (slice_get payload (suc i - suc at) ≡ Some b))
    by (inl old) = inl old
    by (inr (le, new)) = inr (omega (arith, le), ap (slice_get payload) (let s : suc i - suc at ≡ i - at = omega arith in s) ∙ new)

-- ---- One byte of what a region holds

abbrev pub Has : List TaggedSegment → TaggedSegment → Type 0
Has [] s = ⊥
Has (a ∷ accesses) s = (a ≡ s) ⊎ Has accesses s

has_append : (xs ys : List TaggedSegment) (s : TaggedSegment) → Has (xs ++ ys) s → Has xs s ⊎ Has ys s
has_append [] ys s h = inr h
has_append (x ∷ xs) ys s (inl here) = inl (inl here)
has_append (x ∷ xs) ys s (inr there) = by (has_append xs ys s there)
  where
    by : Has xs s ⊎ Has ys s → Has (x ∷ xs) s ⊎ Has ys s
    by (inl h) = inl (inr h)
    by (inr h) = inr h

-- the allowed segments for the region under an STag lie within the first len bytes
abbrev pub LieWithin : List Grant → (stag len : ℕ) → List TaggedSegment → Type 0
LieWithin grants stag len [] = Unit {0}
LieWithin grants stag len (a ∷ accesses) = (a.stag ≡ stag → grant_denial grants (access_of_tagged a) a.end ≡ None → a.to + length a.payload ≤ len) × LieWithin grants stag len accesses

pub record FromSegment (grants : List Grant) (stag : ℕ) (accesses : List TaggedSegment) (at byte : ℕ) : Type 0 where
  pub tagged : TaggedSegment
  pub there : Has accesses tagged
  pub own : tagged.stag ≡ stag
  pub allowed : grant_denial grants (access_of_tagged tagged) tagged.end ≡ None
  pub begins : tagged.to ≤ at
  pub byte_is : slice_get tagged.payload (at - tagged.to) ≡ Some byte

record AfterOne (grants : List Grant) (stag : ℕ) (bytes : List ℕ) (a : TaggedSegment) : Type 0 where
  len : length (after_segment grants stag bytes a) ≡ length bytes
  each : (at byte : ℕ) → slice_get (after_segment grants stag bytes a) at ≡ Some byte → (slice_get bytes at ≡ Some byte) ⊎ FromSegment grants stag (a ∷ []) at byte

after_one_lem : (grants : List Grant) (stag : ℕ) (bytes : List ℕ) (a : TaggedSegment) → (a.stag ≡ stag → grant_denial grants (access_of_tagged a) a.end ≡ None → a.to + length a.payload ≤ length bytes) → AfterOne grants stag bytes a
after_one_lem grants stag bytes a fits = by (eqb a.stag stag) (grant_denial grants (access_of_tagged a) a.end) refl refl
  where
    by : (b : Bool) (d : Option Denied) → eqb a.stag stag ≡ b → grant_denial grants (access_of_tagged a) a.end ≡ d → AfterOne grants stag bytes a
    by true None same none =
        let is : after_segment grants stag bytes a ≡ bytes_after_write bytes a.to a.payload = (λ i. cond (same i && is_none (none i)) (bytes_after_write bytes a.to a.payload) bytes) in
        let own = eqb-true a.stag stag same in
        record {
          len = ap length is ∙ length_bytes_after_write bytes a.to a.payload (fits own none);
          each = λ at byte e. of_byte own none at byte (written_byte a.to bytes a.payload at byte (fits own none) (ap (λ (xs : List ℕ). slice_get xs at) (sym is) ∙ e));
        }
      where
        of_byte : a.stag ≡ stag → grant_denial grants (access_of_tagged a) a.end ≡ None → (at byte : ℕ) → (slice_get bytes at ≡ Some byte) ⊎ ((a.to ≤ at) × (slice_get a.payload (at - a.to) ≡ Some byte)) → (slice_get bytes at ≡ Some byte) ⊎ FromSegment grants stag (a ∷ []) at byte
        of_byte own none at byte (inl old) = inl old
        of_byte own none at byte (inr new) = inr (record { tagged = a; there = inl refl; own = own; allowed = none; begins = new.0; byte_is = new.1 })
    by true (Some why) same none =
        let is : after_segment grants stag bytes a ≡ bytes = (λ i. cond (same i && is_none (none i)) (bytes_after_write bytes a.to a.payload) bytes) in
        record { len = ap length is; each = λ at byte e. inl (ap (λ (xs : List ℕ). slice_get xs at) (sym is) ∙ e) }
    by false d same none =
        let is : after_segment grants stag bytes a ≡ bytes = (λ i. cond (same i && is_none (none i)) (bytes_after_write bytes a.to a.payload) bytes) in
        record { len = ap length is; each = λ at byte e. inl (ap (λ (xs : List ℕ). slice_get xs at) (sym is) ∙ e) }

pub record HoldsSegments (grants : List Grant) (stag : ℕ) (bytes : List ℕ) (accesses : List TaggedSegment) : Type 0 where
  pub len : length (contents grants stag bytes accesses) ≡ length bytes
  pub each : (at byte : ℕ) → slice_get (contents grants stag bytes accesses) at ≡ Some byte → (slice_get bytes at ≡ Some byte) ⊎ FromSegment grants stag accesses at byte

-- what a region holds has its length, and each byte is a registered one or an allowed segment's
pub holds_segments : (grants : List Grant) (stag n : ℕ) (bytes : List ℕ) (accesses : List TaggedSegment) → length bytes ≡ n → LieWithin grants stag n accesses → HoldsSegments grants stag bytes accesses
holds_segments grants stag n bytes [] len within = record { len = refl; each = λ at byte e. inl e }
holds_segments grants stag n bytes (a ∷ accesses) len within =
    let one : AfterOne grants stag bytes a = after_one_lem grants stag bytes a (λ own none. let w = within.0 own none in omega (arith, w, len)) in
    let rest : HoldsSegments grants stag (after_segment grants stag bytes a) accesses = holds_segments grants stag n (after_segment grants stag bytes a) accesses (one.len ∙ len) within.1 in
    record { len = rest.len ∙ one.len; each = λ at byte e. by one at byte (rest.each at byte e) }
  where
    more : (at byte : ℕ) → (xs : List TaggedSegment) → ((s : TaggedSegment) → Has xs s → Has (a ∷ accesses) s) → FromSegment grants stag xs at byte → FromSegment grants stag (a ∷ accesses) at byte
    more at byte xs there f = record { tagged = f.tagged; there = there f.tagged f.there; own = f.own; allowed = f.allowed; begins = f.begins; byte_is = f.byte_is }

    here : (s : TaggedSegment) → Has (a ∷ []) s → Has (a ∷ accesses) s
    here s (inl e) = inl e
    here s (inr none) = absurd none

    old : (at byte : ℕ) → (slice_get bytes at ≡ Some byte) ⊎ FromSegment grants stag (a ∷ []) at byte → (slice_get bytes at ≡ Some byte) ⊎ FromSegment grants stag (a ∷ accesses) at byte
    old at byte (inl e) = inl e
    old at byte (inr f) = inr (more at byte (a ∷ []) here f)

    by : AfterOne grants stag bytes a → (at byte : ℕ) → (slice_get (after_segment grants stag bytes a) at ≡ Some byte) ⊎ FromSegment grants stag accesses at byte → (slice_get bytes at ≡ Some byte) ⊎ FromSegment grants stag (a ∷ accesses) at byte
    by one at byte (inl e) = old at byte (one.each at byte e)
    by one at byte (inr f) = inr (more at byte accesses (λ s h. inr h) f)

-- ---- The frames that brought the segments

pub record FromFrame {S : Type 0} (rules : EndMachine S) (initial : EndState S) (received : List RunEvent) (s : TaggedSegment) : Type 0 where
  pub earlier : List RunEvent
  pub later : List RunEvent
  pub frame : Frame
  pub segment : Segment
  pub is_received : received ≡ earlier ++ FrameReceived frame ∷ later
  pub stays : (next_end_state rules (end_state_after rules initial earlier) (FrameReceived frame)).ended ≡ None
  pub behind_hello : is_hello frame ≡ false
  pub is_segment : frame_segment frame ≡ Ok segment
  pub is_tagged : tagged_access frame segment ≡ s ∷ []
  pub end_is : s.end ≡ frame.end

record NewAccess (f : Frame) (s : TaggedSegment) : Type 0 where
  behind : is_hello f ≡ false
  segment : Segment
  is_segment : frame_segment f ≡ Ok segment
  is_tagged : tagged_access f segment ≡ s ∷ []
  end_is : s.end ≡ f.end

tagged_frame : (f : Frame) (last : Bool) (opcode stag to : ℕ) (payload : List ℕ) → segment_of f.bytes ≡ Ok (Tagged last opcode stag to payload) → frame_segment f ≡ Ok (Tagged last opcode stag to payload)
unfolding frame_segment
tagged_frame f last opcode stag to payload is = tagged_taken false f.bytes last opcode stag to payload is

new_access : (f : Frame) (s : TaggedSegment) → is_hello f ≡ false → (r : Result Segment ℕ) → segment_of f.bytes ≡ r → Has (tagged_accesses f r) s → NewAccess f s
new_access f s behind (Ok (Tagged last opcode stag to payload)) is (inl same) =
    record { behind = behind; segment = Tagged last opcode stag to payload; is_segment = tagged_frame f last opcode stag to payload is; is_tagged = ap (λ (x : TaggedSegment). x ∷ []) same; end_is = ap (λ (x : TaggedSegment). x.end) (sym same) }
new_access f s behind (Ok (Tagged last opcode stag to payload)) is (inr none) = absurd none
new_access f s behind (Ok (Untagged last opcode w queue msn offset payload)) is none = absurd none
new_access f s behind (Err reason) is none = absurd none

-- an access that is there after an event was there before, or came with a frame
data FromEvent {S : Type 0} (rules : EndMachine S) (accesses : S → List TaggedSegment) (r : EndState S) (e : RunEvent) (s : TaggedSegment) : Type 0 where
  Old : Has (accesses r.state) s → FromEvent rules accesses r e s
  New : (f : Frame) → e ≡ FrameReceived f → (next_end_state rules r (FrameReceived f)).ended ≡ None → NewAccess f s → FromEvent rules accesses r e s

from_event : {S : Type 0} (rules : EndMachine S) (accesses : S → List TaggedSegment) → Gathering rules accesses → (r : EndState S) (e : RunEvent) (s : TaggedSegment) → Has (accesses (next_end_state rules r e).state) s → FromEvent rules accesses r e s
from_event {S} rules accesses goes r e s h = by_end r.ended refl h
  where
    live : r.ended ≡ None → rules.end_at r.state e ≡ None → (next_end_state rules r e).ended ≡ None
    live is none = ap (λ (o : Option Stop). (next_end_state_in rules r.state e o).ended) is ∙ ap (λ (o : Option Stop). (next_end_state_by rules r.state e o).ended) none

    by_event : (x : RunEvent) → e ≡ x → (next_end_state rules r e).ended ≡ None → Has (accesses_event (accesses r.state) x) s → FromEvent rules accesses r e s
    by_event (FrameReceived f) is stays h = by_hello (is_hello f) refl h
      where
        by_new : is_hello f ≡ false → Has (accesses r.state) s ⊎ Has (tagged_accesses f (segment_of f.bytes)) s → FromEvent rules accesses r e s
        by_new behind (inl old) = Old old
        by_new behind (inr new) = New f is (ap (λ (y : RunEvent). (next_end_state rules r y).ended) (sym is) ∙ stays) (new_access f s behind (segment_of f.bytes) refl new)

        by_hello : (b : Bool) → is_hello f ≡ b → Has (cond b (accesses r.state) (accesses r.state ++ tagged_accesses f (segment_of f.bytes))) s → FromEvent rules accesses r e s
        by_hello true own h = Old h
        by_hello false own h = by_new own (has_append (accesses r.state) (tagged_accesses f (segment_of f.bytes)) s h)
    by_event (CallSubmitted p a) is stays h = Old h
    by_event (MemoryRevoked p xid) is stays h = Old h
    by_event (CallExecuted x) is stays h = Old h
    by_event (QueueWritten taken) is stays h = Old h
    by_event (ServerTold what) is stays h = Old h

    by_why : (o : Option Stop) → r.ended ≡ None → rules.end_at r.state e ≡ o → Has (accesses (next_end_state_by rules r.state e o).state) s → FromEvent rules accesses r e s
    by_why None is none h = by_event e refl (live is none) (subst (λ (xs : List TaggedSegment). Has xs s) (goes r.state e none) h)
    by_why (Some end) is why h = Old h

    by_end : (o : Option Stop) → r.ended ≡ o → Has (accesses (next_end_state_in rules r.state e o).state) s → FromEvent rules accesses r e s
    by_end None is h = by_why (rules.end_at r.state e) is refl h
    by_end (Some end) is h = Old h

-- what an end keeps as accesses came with frames of its events
pub from_frames : {S : Type 0} (rules : EndMachine S) (accesses : S → List TaggedSegment) → Gathering rules accesses → (initial : EndState S) (done es : List RunEvent) (s : TaggedSegment)
    → Has (accesses (end_state_after rules (end_state_after rules initial done) es).state) s → Has (accesses (end_state_after rules initial done).state) s ⊎ FromFrame rules initial (done ++ es) s
from_frames rules accesses goes initial done [] s h = inl h
from_frames {S} rules accesses goes initial done (e ∷ es) s h =
    by (from_frames rules accesses goes initial (done ++ e ∷ []) es s (subst (λ (x : EndState S). Has (accesses (end_state_after rules x es).state) s) (sym one) h))
  where
    r : EndState S
    r = end_state_after rules initial done

    one : end_state_after rules initial (done ++ e ∷ []) ≡ next_end_state rules r e
    one = end_state_after_append rules initial done (e ∷ [])

    all : (done ++ e ∷ []) ++ es ≡ done ++ e ∷ es
    all = append_assoc done (e ∷ []) es

    by_event : FromEvent rules accesses r e s → Has (accesses r.state) s ⊎ FromFrame rules initial (done ++ e ∷ es) s
    by_event (Old old) = inl old
    by_event (New f is stays n) = inr (record {
      earlier = done;
      later = es;
      frame = f;
      segment = n.segment;
      is_received = ap (λ (x : RunEvent). done ++ x ∷ es) is;
      stays = stays;
      behind_hello = n.behind;
      is_segment = n.is_segment;
      is_tagged = n.is_tagged;
      end_is = n.end_is;
    })

    by : Has (accesses (end_state_after rules initial (done ++ e ∷ [])).state) s ⊎ FromFrame rules initial ((done ++ e ∷ []) ++ es) s → Has (accesses r.state) s ⊎ FromFrame rules initial (done ++ e ∷ es) s
    by (inl there) = by_event (from_event rules accesses goes r e s (subst (λ (x : EndState S). Has (accesses x.state) s) one there))
    by (inr f) = inr (subst (λ (xs : List RunEvent). FromFrame rules initial xs s) all f)
