-- Over a run that is of its types, what an end writes are bytes: a fact of its states goes along with its events.
use Rattle.std.specs.Prelude.{◌&&◌, is_none}
use Rattle.std.specs.List.{AllByRecursion, find}
use Rattle.std.proofs.Common.{◌≡◌, ℕ, ◌+◌, Bool, true, false, cond, eqb, List, [], ◌∷◌, ◌++◌, length, map, take, drop, Option, None, Some, refl, subst}
use Rattle.nr_xdr.specs.Item.{IsBytes}
use Rattle.nr_xdr.proofs.WordBytes.{IsBytes_take, IsBytes_drop}
use Rattle.nr_wire.specs.declared.hello.Side.{Side}
use Rattle.nr_link.specs.declared.end.End.{End}
use Rattle.nr_link.specs.Frames.{Frame, frames_completed}
use Rattle.nr_regions.specs.Access.{Grant, TaggedSegment, grant_denial, access_of_tagged, after_segment, contents}
use Rattle.nr_regions.specs.RegisteredMemory.{bytes_after_write}
use Rattle.nr_reduce.specs.declared.call.Submission.TheVariants as submissions
use Rattle.nr_reduce.specs.declared.mark.Mark.{Mark}
use Rattle.nr_reduce.specs.declared.mark.Mark.TheVariants as marks
use Rattle.nr_wire.specs.Hello.{peer}
use Rattle.nr_reduce.specs.History.{bytes_received}
use Rattle.nr_reduce.specs.Events.{RunEvent, events, events_at, if_own}
use Rattle.nr_reduce.specs.Events.RunEvent.{FrameReceived, CallSubmitted, MemoryRevoked, CallExecuted, QueueWritten, ServerTold}
use Rattle.nr_reduce.specs.EndRules.{EndMachine, EndState, next_end_state, next_end_state_by, next_end_state_in, end_state_after, output_for_by, output_for_in, output_for_all}
use Rattle.nr_reduce.specs.ClientState.{call_payload}
use Rattle.nr_reduce.specs.OfferedRegions.{Region, region_bytes_by, region_bytes, closed_if, regions_closed}
use Rattle.nr_laws.specs.Typed.{TypedMark, IsTyped}
use Rattle.nr_laws.proofs.EventOutputs.{IsNext, place_after, GoesOn, FirstGood, each_preserves, nothing_preserves}
use Rattle.nr_laws.proofs.Bytes.{bytes_both}
use Rattle.nr_script.proofs.ByteLists.{no_bytes_lem}

-- ===== regions and what is placed in them

abbrev pub RegionOfBytes : Region → Type 0
RegionOfBytes r = IsBytes r.bytes

abbrev pub AccessOfBytes : TaggedSegment → Type 0
AccessOfBytes a = IsBytes a.payload

written_bytes_lem : (bytes : List ℕ) (at : ℕ) (payload : List ℕ) → IsBytes bytes → IsBytes payload → IsBytes (bytes_after_write bytes at payload)
written_bytes_lem bytes at payload h p =
    bytes_both (take at bytes) (payload ++ drop (at + length payload) bytes) (IsBytes_take at bytes h) (bytes_both payload (drop (at + length payload) bytes) p (IsBytes_drop (at + length payload) bytes h))

segment_after : (grants : List Grant) (stag : ℕ) (bytes : List ℕ) (a : TaggedSegment) → IsBytes bytes → AccessOfBytes a → IsBytes (after_segment grants stag bytes a)
segment_after grants stag bytes a h p = by (eqb a.stag stag && is_none (grant_denial grants (access_of_tagged a) a.end))
  where
    by : (b : Bool) → IsBytes (cond b (bytes_after_write bytes a.to a.payload) bytes)
    by true = written_bytes_lem bytes a.to a.payload h p
    by false = h

contents_bytes : (grants : List Grant) (stag : ℕ) (bytes : List ℕ) (accesses : List TaggedSegment) → IsBytes bytes → AllByRecursion AccessOfBytes accesses → IsBytes (contents grants stag bytes accesses)
contents_bytes grants stag bytes [] h p = h
contents_bytes grants stag bytes (a ∷ accesses) h p = contents_bytes grants stag (after_segment grants stag bytes a) accesses (segment_after grants stag bytes a h p.0) p.1

pub found_each : {X : Type 0} (P : X → Type 0) (test : X → Bool) (xs : List X) (x : X) → find test xs ≡ Some x → AllByRecursion P xs → P x
found_each P test [] x e h = absurd cc
found_each {X = X} P test (y ∷ xs) x e h = by (test y) e (λ more. found_each P test xs x more h.1)
  where
    by : (b : Bool) → cond b (Some y) (find test xs) ≡ Some x → (find test xs ≡ Some x → P x) → P x
    by true e more = (let is : y ≡ x = cc in subst P is h.0)
    by false e more = more e

pub memory_bytes : (grants : List Grant) (regions : List Region) (accesses : List TaggedSegment) (stag : ℕ) → AllByRecursion RegionOfBytes regions → AllByRecursion AccessOfBytes accesses →
    IsBytes (region_bytes grants regions accesses stag)
unfolding region_bytes
memory_bytes grants regions accesses stag h p = by (find (λ r. eqb r.stag stag) regions) refl
  where
    by : (o : Option Region) → find (λ r. eqb r.stag stag) regions ≡ o → IsBytes (region_bytes_by grants accesses o)
    by None is = no_bytes_lem
    by (Some r) is = contents_bytes grants r.stag r.bytes accesses (found_each RegionOfBytes (λ r. eqb r.stag stag) regions r is h) p

closed_bytes : (b : Bool) (place : ℕ) (r : Region) → RegionOfBytes r → RegionOfBytes (closed_if b place r)
closed_bytes true place r h = h
closed_bytes false place r h = h

pub regions_closed_lem : (test : Region → Bool) (place : ℕ) (regions : List Region) → AllByRecursion RegionOfBytes regions → AllByRecursion RegionOfBytes (regions_closed test place regions)
unfolding regions_closed
regions_closed_lem test place [] h = tt
regions_closed_lem test place (r ∷ regions) h = (closed_bytes (test r) place r h.0, regions_closed_lem test place regions h.1)

-- ===== events that carry bytes

abbrev pub CarriesBytes : {S : Type 0} → EndState S → RunEvent → Type 0
CarriesBytes r (FrameReceived f) = Unit {0}
CarriesBytes r (CallSubmitted place a) = IsBytes (call_payload a.xid a.call)
CarriesBytes r (MemoryRevoked place xid) = Unit {0}
CarriesBytes r (CallExecuted e) = IsBytes e.reply
CarriesBytes r (QueueWritten taken) = Unit {0}
CarriesBytes r (ServerTold what) = Unit {0}

first_if : {S : Type 0} (r : EndState S) (b : Bool) (es : List RunEvent) → FirstGood CarriesBytes r es → FirstGood CarriesBytes r (if_own b es)
first_if r true es h = h
first_if r false es h = tt

first_frames : {S : Type 0} (r : EndState S) (fs : List Frame) → FirstGood CarriesBytes r (map FrameReceived fs)
first_frames r [] = tt
first_frames r (f ∷ fs) = tt

mark_carries : {S : Type 0} (r : EndState S) (link : ℕ) (side : Side) (before : List Mark) (mark : Mark) → TypedMark before mark → FirstGood CarriesBytes r (events_at link side before mark)
mark_carries r link side before (marks.Submit l call form (submissions.Accepted xid)) h =
    first_if r _ (CallSubmitted (length (bytes_received link side before)) (record { xid = xid; call = call; form = form }) ∷ []) h.0
mark_carries r link side before (marks.Submit l call form (submissions.Refused why)) h = tt
mark_carries r link side before (marks.Submit l call form submissions.Dropped) h = tt
mark_carries r link side before (marks.Wrote l s bytes) h = first_if r _ (QueueWritten (length bytes) ∷ []) tt
mark_carries r link side before (marks.Fed l s bytes) h =
    first_if r _ (map FrameReceived (frames_completed (peer side) (bytes_received link side before) bytes)) (first_frames r (frames_completed (peer side) (bytes_received link side before) bytes))
mark_carries r link side before (marks.Execute l xid moment payload place reply) h =
    first_if r _ (CallExecuted (record { xid = xid; moment = moment; payload = payload; place = place; reply = reply }) ∷ []) h
mark_carries r link side before (marks.Done l xid outcome) h = tt
mark_carries r link side before (marks.Lost l xid) h = tt
mark_carries r link side before (marks.Forget l xid) h = tt
mark_carries r link side before (marks.Revoke l xid bytes) h = first_if r _ (MemoryRevoked (length (bytes_received link side before)) xid ∷ []) tt
mark_carries r link side before (marks.Drop l) h = tt
mark_carries r link side before (marks.Told l what) h = first_if r _ (ServerTold what ∷ []) tt

-- ===== a fact of states that goes along

-- with each event, and what is written for it are bytes
pub record KeepsBytes {S : Type 0} (rules : EndMachine S) (Q : S → Type 0) : Type 0 where
  pub written : (place : ℕ) (k : S) (e : RunEvent) → IsNext place e → CarriesBytes (record { state = k; ended = None }) e → Q k → IsBytes (rules.output_at k e)
  pub after : (place : ℕ) (k : S) (e : RunEvent) → IsNext place e → CarriesBytes (record { state = k; ended = None }) e → Q k → Q (rules.state_after k e)
  pub last : (end : End) → IsBytes (rules.final_output end)

same_carries : {S : Type 0} (r t : EndState S) (e : RunEvent) → CarriesBytes r e → CarriesBytes t e
same_carries r t (FrameReceived f) h = h
same_carries r t (CallSubmitted place a) h = h
same_carries r t (MemoryRevoked place xid) h = h
same_carries r t (CallExecuted e) h = h
same_carries r t (QueueWritten taken) h = h
same_carries r t (ServerTold what) h = h

one_event : {S : Type 0} (rules : EndMachine S) (Q : S → Type 0) → KeepsBytes rules Q → (place : ℕ) (k : S) (ended : Option End) (e : RunEvent) → IsNext place e → CarriesBytes (record { state = k; ended = None }) e → Q k →
    IsBytes (output_for_in rules k e ended) × Q (next_end_state_in rules k e ended).state
one_event rules Q keeps place k (Some end) e next carries h = (no_bytes_lem, h)
one_event rules Q keeps place k None e next carries h = by (rules.end_at k e)
  where
    by : (o : Option End) → IsBytes (output_for_by rules k e o) × Q (next_end_state_by rules k e o).state
    by None = (keeps.written place k e next carries h, keeps.after place k e next carries h)
    by (Some end) = (keeps.last end, h)

walk : {S : Type 0} (rules : EndMachine S) (Q : S → Type 0) → KeepsBytes rules Q → (place : ℕ) (r : EndState S) (es : List RunEvent) → GoesOn rules CarriesBytes place r es → Q r.state →
    IsBytes (output_for_all rules r es) × Q (end_state_after rules r es).state
walk rules Q keeps place r [] goes h = (no_bytes_lem, h)
walk rules Q keeps place r (e ∷ es) goes h =
    let one = one_event rules Q keeps place r.state r.ended e goes.0 (same_carries r (record { state = r.state; ended = None }) e goes.1) h in
    let rest = walk rules Q keeps (place_after place e) (next_end_state rules r e) es goes.2 one.1 in
    (bytes_both (output_for_in rules r.state e r.ended) (output_for_all rules (next_end_state rules r e) es) one.0 rest.0, rest.1)

pub run_bytes : {S : Type 0} (rules : EndMachine S) (Q : S → Type 0) → KeepsBytes rules Q → (start : EndState S) (link : ℕ) (side : Side) (run : List Mark) → IsTyped run → Q start.state →
    IsBytes (output_for_all rules start (events link side run)) × Q (end_state_after rules start (events link side run)).state
run_bytes rules Q keeps start link side run typed h =
    let goes = each_preserves rules CarriesBytes (λ r f b. tt) start link side TypedMark
    (λ before mark t. mark_carries (end_state_after rules start (events link side before)) link side before mark t) [] run typed typed (nothing_preserves rules CarriesBytes start link side) in
    walk rules Q keeps 0 start (events link side run) goes.goes h
