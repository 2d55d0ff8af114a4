-- A segment of a Send with Invalidate, without the STag that it names: it is received as one of a plain Send.
use Rattle.std.proofs.Common.{◌≡◌, ℕ, Bool, true, false, eqb, List, Option, None, Some, Result, Ok, Err, refl, sym, ap, ◌∙◌}
use Rattle.std.proofs.lemmas.Bool.{eqb-true}
use Rattle.nr_wire.specs.Constants.{OPCODE_SEND, OPCODE_SEND_INVALIDATE}
use Rattle.nr_wire.specs.Segment.{Segment, opcode_in}
use Rattle.nr_wire.specs.Segment.Segment.{Tagged, Untagged}
use Rattle.nr_regions.specs.declared.denied.Denied.{Denied}
use Rattle.nr_regions.specs.Access.{Grant}
use Rattle.nr_link.specs.Frames.{Frame}
use Rattle.nr_link.specs.ReceiveState.{ReceiveState, received_after, message_completed, read_request_of}
use Rattle.nr_link.specs.SegmentFaults.{Readiness, SegmentReason, segment_reason}
use Rattle.nr_link.specs.SegmentFaults.SegmentReason.{Reason, NoBuffer, AccessDenied, PeerTerminated}
use Rattle.nr_link.specs.Ending.{tagged_access, missing_access, end_of_fault, frame_end_by}
use Rattle.nr_reduce.specs.ClientState.{ClientState}
use Rattle.nr_reduce.specs.Client.{client_segment, segment_message, segment_request, with_segment}

abbrev plain_if : Bool → (last : Bool) → (opcode w queue msn offset : ℕ) → List ℕ → Segment
plain_if true last opcode w queue msn offset payload = Untagged last OPCODE_SEND 0 queue msn offset payload
plain_if false last opcode w queue msn offset payload = Untagged last opcode w queue msn offset payload

abbrev pub plain : Segment → Segment
plain (Tagged last opcode stag to payload) = Tagged last opcode stag to payload
plain (Untagged last opcode w queue msn offset payload) = plain_if (eqb opcode OPCODE_SEND_INVALIDATE) last opcode w queue msn offset payload

abbrev pub plain_result : Result Segment ℕ → Result Segment ℕ
plain_result (Ok segment) = Ok (plain segment)
plain_result (Err reason) = Err reason

-- what a client makes of a frame, but for the STag that it names
abbrev pub plain_segment : ClientState → Frame → Result Segment ℕ
plain_segment k f = plain_result (client_segment k f)

-- what is the same for a plain Send and for one with Invalidate is the same of each segment
abbrev Alike : {X : Type 0} → (Segment → X) → Type 0
Alike g = (last : Bool) (w queue msn offset : ℕ) (payload : List ℕ) → g (Untagged last OPCODE_SEND 0 queue msn offset payload) ≡ g (Untagged last OPCODE_SEND_INVALIDATE w queue msn offset payload)

alike : {X : Type 0} (g : Segment → X) → Alike g → (s : Segment) → g (plain s) ≡ g s
alike g same (Tagged last opcode stag to payload) = refl
alike g same (Untagged last opcode w queue msn offset payload) = by (eqb opcode OPCODE_SEND_INVALIDATE) refl
  where
    by : (b : Bool) → eqb opcode OPCODE_SEND_INVALIDATE ≡ b → g (plain_if b last opcode w queue msn offset payload) ≡ g (Untagged last opcode w queue msn offset payload)
    by true e = same last w queue msn offset payload ∙ ap (λ (n : ℕ). g (Untagged last n w queue msn offset payload)) (sym (eqb-true opcode OPCODE_SEND_INVALIDATE e))
    by false e = refl

pub plain_received : (h : ReceiveState) (s : Segment) → received_after h (plain s) ≡ received_after h s
plain_received h s = alike (received_after h) (λ last w queue msn offset payload. refl) s

pub plain_completed : (h : ReceiveState) (s : Segment) → message_completed h (plain s) ≡ message_completed h s
plain_completed h s = alike (message_completed h) (λ last w queue msn offset payload. refl) s

pub plain_request : (s : Segment) → read_request_of (plain s) ≡ read_request_of s
plain_request s = alike read_request_of (λ last w queue msn offset payload. refl) s

pub plain_access : (f : Frame) (s : Segment) → tagged_access f (plain s) ≡ tagged_access f s
plain_access f s = alike (tagged_access f) (λ last w queue msn offset payload. refl) s

pub plain_lack : (grants : List Grant) (f : Frame) (s : Segment) → missing_access grants f (plain s) ≡ missing_access grants f s
plain_lack grants f s = alike (missing_access grants f) (λ last w queue msn offset payload. refl) s

pub plain_reason : {D : Type 0} (r : Readiness D) (s : Segment) → segment_reason r (plain s) ≡ segment_reason r s
unfolding segment_reason
plain_reason r s = alike (segment_reason r) (λ last w queue msn offset payload. refl) s

-- a fault ends the side for the same reason
pub plain_end : (f : Frame) (s : Segment) (fault : Option (SegmentReason Denied)) → end_of_fault f (plain s) fault ≡ end_of_fault f s fault
plain_end f s fault = alike (λ (x : Segment). end_of_fault f x fault) (λ last w queue msn offset payload. by last w queue msn offset payload fault) s
  where
    by : (last : Bool) (w queue msn offset : ℕ) (payload : List ℕ) (x : Option (SegmentReason Denied)) → end_of_fault f (Untagged last OPCODE_SEND 0 queue msn offset payload) x ≡ end_of_fault f (Untagged last OPCODE_SEND_INVALIDATE w queue msn offset payload) x
    by last w queue msn offset payload None = refl
    by last w queue msn offset payload (Some (Reason reason)) = refl
    by last w queue msn offset payload (Some (NoBuffer number)) = refl
    by last w queue msn offset payload (Some (AccessDenied why)) = refl
    by last w queue msn offset payload (Some (PeerTerminated word)) = refl

pub plain_frame_end : (ready : Option Denied → Readiness Denied) (grants : List Grant) (f : Frame) (r : Result Segment ℕ) → frame_end_by ready grants f (plain_result r) ≡ frame_end_by ready grants f r
plain_frame_end ready grants f (Ok s) =
    plain_end f s (segment_reason (ready (missing_access grants f (plain s))) (plain s))
    ∙ ap (λ (d : Option Denied). end_of_fault f s (segment_reason (ready d) (plain s))) (plain_lack grants f s)
    ∙ ap (λ (x : Option (SegmentReason Denied)). end_of_fault f s x) (plain_reason (ready (missing_access grants f s)) s)
plain_frame_end ready grants f (Err reason) = refl

-- a client knows the same after it
pub plain_with : (k : ClientState) (f : Frame) (r : Result Segment ℕ) → with_segment k f (plain_result r) ≡ with_segment k f r
plain_with k f (Ok s) = alike (λ (x : Segment). with_segment k f (Ok x)) (λ last w queue msn offset payload. refl) s
plain_with k f (Err reason) = refl

-- it completes the same message, and asks for the same
pub plain_message : (k : ClientState) (r : Result Segment ℕ) → segment_message k (plain_result r) ≡ segment_message k r
plain_message k (Ok s) = plain_completed k.received s
plain_message k (Err reason) = refl

pub plain_asks : (r : Result Segment ℕ) → segment_request (plain_result r) ≡ segment_request r
plain_asks (Ok s) = plain_request s
plain_asks (Err reason) = refl

-- a segment of another opcode is as it is
pub plain_other : (s : Segment) → eqb (opcode_in s) OPCODE_SEND_INVALIDATE ≡ false → plain s ≡ s
plain_other (Tagged last opcode stag to payload) other = refl
plain_other (Untagged last opcode w queue msn offset payload) other = ap (λ (b : Bool). plain_if b last opcode w queue msn offset payload) other

-- whether it is of a plain Send, or of none
abbrev pub is_plain_send : Segment → Bool
is_plain_send (Tagged last opcode stag to payload) = false
is_plain_send (Untagged last opcode w queue msn offset payload) = eqb opcode OPCODE_SEND

abbrev plain_send_in : Result Segment ℕ → Bool
plain_send_in (Ok s) = is_plain_send s
plain_send_in (Err reason) = false

-- what is of no Send is as it was read
pub other_read : (r : Result Segment ℕ) (s : Segment) → plain_result r ≡ Ok s → is_plain_send s ≡ false → r ≡ Ok s
other_read (Err reason) s is other = absurd cc
other_read (Ok (Tagged last opcode stag to payload)) s is other = is
other_read (Ok (Untagged last opcode w queue msn offset payload)) s is other = by (eqb opcode OPCODE_SEND_INVALIDATE) is
  where
    by : (b : Bool) → ◌≡◌ {A = Result Segment ℕ} (Ok (plain_if b last opcode w queue msn offset payload)) (Ok s) → ◌≡◌ {A = Result Segment ℕ} (Ok (Untagged last opcode w queue msn offset payload)) (Ok s)
    by true e = absurd (let wrong : true ≡ false = ap plain_send_in e ∙ other in cc)
    by false e = e
