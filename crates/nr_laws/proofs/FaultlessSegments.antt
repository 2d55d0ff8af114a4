-- Of the segments of a matched link none breaks a rule of the link, apart from the access to memory and the expected response.
use Rattle.std.proofs.Common.{◌≡◌, ℕ, ◌+◌, ◌≤◌, ◌<◌, ◌^◌, Bool, true, not, cond, ◌||◌, eqb, ltb, List, [], ◌∷◌, length, Option, None, Some, Result, Ok, refl, sym, ap, ◌∙◌, eq-eqb, le-ltb}
use Rattle.std.proofs.lemmas.Bool.{lt-leb}
use Rattle.std.proofs.lemmas.Option.{same_Some}
use Rattle.nr_wire.specs.Constants.{OPCODE_WRITE, OPCODE_READ_REQUEST, OPCODE_READ_RESPONSE, QUEUE_READ_REQUEST}
use Rattle.nr_wire.specs.Segment.{Segment}
use Rattle.nr_wire.specs.Segment.Segment.{Tagged, Untagged}
use Rattle.nr_regions.specs.declared.denied.Denied.{Denied}
use Rattle.nr_regions.specs.Access.{Grant}
use Rattle.nr_link.specs.Limits.{open_reads_max}
use Rattle.nr_link.specs.Reasons.{REASON_MSN, REASON_OFFSET, REASON_FORM, REASON_RESPONSE, REASON_REQUESTS, REASON_SHORT, REASON_LONG}
use Rattle.nr_link.specs.Output.{msn_word}
use Rattle.nr_link.specs.Frames.{Frame}
use Rattle.nr_link.specs.SegmentFaults.{Readiness, SegmentReason, segment_reason, first_fault, reason_if, missing_fault, is_begun, is_expected}
use Rattle.nr_link.specs.ReceiveState.{begun_bytes, read_request_in}
use Rattle.nr_link.specs.SegmentFaults.SegmentReason.{NoBuffer}
use Rattle.nr_link.specs.Ending.{frame_end_by, end_of_fault, frame_segment_with}
use Rattle.nr_laws.proofs.FrameContents.{Carries, SentMessage, CompletesMessage, part_segment, last_segment}
use Rattle.nr_laws.proofs.FrameContents.FrameContent.{PartFrame, SendFrame}
use Rattle.nr_laws.proofs.PlainSegments.{plain_frame_end, plain_result}

itself : (n : ℕ) → eqb n n ≡ true
itself n = eq-eqb n n refl

pub send_flaw : {D : Type 0} (r : Readiness D) (m : SentMessage) → m.offset ≡ length (begun_bytes r.received.begun) → CompletesMessage r.received m → (is_begun r.received.begun || r.has_receive) ≡ true → r.missing ≡ None → 16 ≤ length m.bytes → length m.bytes ≤ r.message_max
    → segment_reason r (last_segment r.received.sends m) ≡ None
unfolding segment_reason
send_flaw r m starts whole h l long short =
    (λ i. first_fault (reason_if REASON_MSN (not (itself (msn_word (r.received.sends + 1)) i))
    ∷ reason_if REASON_OFFSET (not (eq-eqb m.offset (length (begun_bytes r.received.begun)) starts i))
    ∷ cond (h i) None (Some (NoBuffer (msn_word (r.received.sends + 1))))
    ∷ None
    ∷ missing_fault (l i)
    ∷ None
    ∷ reason_if REASON_LONG (ltb r.message_max (length (whole i)))
    ∷ reason_if REASON_SHORT (ltb (length (whole i)) 16)
    ∷ None ∷ []))
    ∙ (λ i. first_fault (None ∷ None ∷ None ∷ None ∷ None ∷ None
    ∷ reason_if REASON_LONG (le-ltb r.message_max (length m.bytes) short i)
    ∷ reason_if REASON_SHORT (le-ltb (length m.bytes) 16 long i)
    ∷ None ∷ []))

pub part_flaw : {D : Type 0} (r : Readiness D) (offset : ℕ) (payload : List ℕ) → offset ≡ length (begun_bytes r.received.begun) → (is_begun r.received.begun || r.has_receive) ≡ true → r.missing ≡ None → segment_reason r (part_segment r.received.sends offset payload) ≡ None
unfolding segment_reason
part_flaw r offset payload starts h l =
    λ i. first_fault (reason_if REASON_MSN (not (itself (msn_word (r.received.sends + 1)) i))
    ∷ reason_if REASON_OFFSET (not (eq-eqb offset (length (begun_bytes r.received.begun)) starts i))
    ∷ cond (h i) None (Some (NoBuffer (msn_word (r.received.sends + 1))))
    ∷ None
    ∷ missing_fault (l i)
    ∷ None ∷ None ∷ None ∷ None ∷ [])

skip_one : {D : Type 0} (l : Option D) → first_fault (missing_fault l ∷ None ∷ []) ≡ first_fault (missing_fault l ∷ [])
skip_one None = refl
skip_one (Some why) = refl

skip_six : {D : Type 0} (l : Option D) → first_fault (None ∷ None ∷ None ∷ None ∷ missing_fault l ∷ None ∷ None ∷ None ∷ None ∷ []) ≡ first_fault (missing_fault l ∷ [])
skip_six None = refl
skip_six (Some why) = refl

-- a Read Request: what its access lacks alone
pub request_flaw : {D : Type 0} (r : Readiness D) (payload : List ℕ) → length payload ≡ 28 → (read_request_in payload).sink_to + (read_request_in payload).size ≤ 2 ^ 64 → r.responses < open_reads_max
    → segment_reason r (Untagged true OPCODE_READ_REQUEST 0 QUEUE_READ_REQUEST (msn_word (r.received.requests + 1)) 0 payload) ≡ first_fault (missing_fault r.missing ∷ [])
unfolding segment_reason
request_flaw r payload len fits few =
    (λ i. first_fault (reason_if REASON_MSN (not (itself (msn_word (r.received.requests + 1)) i))
    ∷ None
    ∷ None
    ∷ reason_if REASON_FORM (not (eq-eqb (length payload) 28 len i) || le-ltb (2 ^ 64) ((read_request_in payload).sink_to + (read_request_in payload).size) fits i)
    ∷ missing_fault r.missing
    ∷ reason_if REASON_REQUESTS (lt-leb open_reads_max r.responses few i)
    ∷ None ∷ None ∷ None ∷ []))
    ∙ skip_six r.missing

-- a Write likewise
pub write_flaw : {D : Type 0} (r : Readiness D) (last : Bool) (stag to : ℕ) (payload : List ℕ) → segment_reason r (Tagged last OPCODE_WRITE stag to payload) ≡ first_fault (missing_fault r.missing ∷ [])
unfolding segment_reason
write_flaw r last stag to payload = skip_one r.missing

-- and a Response that is expected
pub response_flaw : {D : Type 0} (r : Readiness D) (last : Bool) (stag to : ℕ) (payload : List ℕ) → is_expected r.expected last stag to (length payload) ≡ true
    → segment_reason r (Tagged last OPCODE_READ_RESPONSE stag to payload) ≡ first_fault (missing_fault r.missing ∷ [])
unfolding segment_reason
response_flaw r last stag to payload e =
    (λ i. first_fault (missing_fault r.missing ∷ reason_if REASON_RESPONSE (not (e i)) ∷ [])) ∙ skip_one r.missing

-- a frame of a Send ends no side whose receive is there
pub send_frame : (b : Bool) (ready : Option Denied → Readiness Denied) (grants : List Grant) (n req : ℕ) (f : Frame) (m : SentMessage) → Carries b n req f (SendFrame m)
    → (ready None).received.sends ≡ n → m.offset ≡ length (begun_bytes (ready None).received.begun) → CompletesMessage (ready None).received m → (is_begun (ready None).received.begun || (ready None).has_receive) ≡ true → (ready None).missing ≡ None
    → 16 ≤ length m.bytes → length m.bytes ≤ (ready None).message_max → frame_end_by ready grants f (frame_segment_with b f) ≡ None
send_frame b ready grants n req f m p same starts whole h l long short =
    let segment : Segment = last_segment (ready None).received.sends m in
    let is : plain_result (frame_segment_with b f) ≡ Ok segment = p.reads ∙ ap (λ (s : Segment). Ok s) (same_Some _ _ (sym p.is_segment)) ∙ ap (λ (k : ℕ). Ok (last_segment k m)) (sym same) in
    sym (plain_frame_end ready grants f (frame_segment_with b f)) ∙ ap (λ (r : Result Segment ℕ). frame_end_by ready grants f r) is
    ∙ ap (λ (x : Option (SegmentReason Denied)). end_of_fault f segment x) (send_flaw (ready None) m starts whole h l long short)

pub part_frame_end : (b : Bool) (ready : Option Denied → Readiness Denied) (grants : List Grant) (n req : ℕ) (f : Frame) (named : Bool) (offset : ℕ) (payload : List ℕ) → Carries b n req f (PartFrame named offset payload)
    → (ready None).received.sends ≡ n → offset ≡ length (begun_bytes (ready None).received.begun) → (is_begun (ready None).received.begun || (ready None).has_receive) ≡ true → (ready None).missing ≡ None → frame_end_by ready grants f (frame_segment_with b f) ≡ None
part_frame_end b ready grants n req f named offset payload p same starts h l =
    let segment : Segment = part_segment (ready None).received.sends offset payload in
    let is : plain_result (frame_segment_with b f) ≡ Ok segment = p.reads ∙ ap (λ (s : Segment). Ok s) (same_Some _ _ (sym p.is_segment)) ∙ ap (λ (k : ℕ). Ok (part_segment k offset payload)) (sym same) in
    sym (plain_frame_end ready grants f (frame_segment_with b f)) ∙ ap (λ (r : Result Segment ℕ). frame_end_by ready grants f r) is
    ∙ ap (λ (x : Option (SegmentReason Denied)). end_of_fault f segment x) (part_flaw (ready None) offset payload starts h l)
