-- What a frame of a matched link may end a side for: an access that is denied, and what a message is.
use Rattle.std.proofs.Common.{◌≡◌, ℕ, ◌≤◌, ◌<◌, Bool, false, cond, List, [], ◌∷◌, ◌++◌, length, take, drop, Option, None, Result, Ok, refl, sym, ap, subst, ◌∙◌, arith, append_assoc, take-append-drop, true, ◌||◌}
use Rattle.nr_wire.specs.Constants.{OPCODE_READ_RESPONSE}
use Rattle.nr_wire.specs.declared.hello.Side.TheVariants.{Initiator, Responder}
use Rattle.nr_wire.specs.Hello.{hello_of}
use Rattle.nr_wire.specs.Segment.{Segment}
use Rattle.nr_wire.specs.Segment.Segment.{Tagged}
use Rattle.nr_regions.specs.declared.denied.Denied.{Denied}
use Rattle.nr_link.specs.declared.end.End.{End}
use Rattle.nr_reduce.specs.declared.mark.LinkParameters.{LinkParameters}
use Rattle.nr_link.specs.Limits.{open_reads_max}
use Rattle.nr_link.specs.Frames.{Frame, is_hello}
use Rattle.nr_link.specs.SegmentFaults.{SegmentReason, first_fault, missing_fault, is_begun}
use Rattle.nr_link.specs.Ending.{frame_end, frame_end_by, missing_access, end_of_fault, frame_segment, hello_end}
use Rattle.nr_reduce.specs.OfferedRegions.{region_grants}
use Rattle.nr_reduce.specs.Events.RunEvent.{FrameReceived}
use Rattle.nr_reduce.specs.ClientState.{ClientState}
use Rattle.nr_reduce.specs.Client.{client_segment, client_readiness, client_end, or_message_end, or_other_sizes}
use Rattle.nr_reduce.specs.ServerState.{ServerState, PendingRead}
use Rattle.nr_reduce.specs.Server.{server_readiness, server_end, or_refusal, refusal_end}
use Rattle.nr_reduce.specs.ServerFrames.{frame_effect}
use Rattle.nr_laws.proofs.FrameContents.{FrameContent, Carries, total_of, sends_in, SentMessage, part_segment}
use Rattle.nr_laws.proofs.FrameContents.FrameContent.{PartFrame, SendFrame, TaggedFrame}
use Rattle.nr_laws.proofs.LinkInvariants.{Transit, TotalsAgree, ReadsAgree, AreResponses, WithinWindow}
use Rattle.nr_laws.proofs.FreeReceives.{receives}
use Rattle.nr_laws.proofs.FaultlessSegments.{send_frame, response_flaw, part_frame_end}
use Rattle.nr_laws.proofs.ReadContents.{segment_is, plain_is, message_end_is}
use Rattle.nr_laws.proofs.ExpectedResponses.{is_expected_lem}
use Rattle.nr_laws.proofs.SendFrames.{at_front, send_goes_on}
use Rattle.nr_link.specs.ReceiveState.{begun_bytes}
use Rattle.nr_laws.proofs.NamedReplies.{message_end_in}
use Rattle.nr_laws.proofs.PlainSegments.{plain_segment, plain_frame_end}

-- ---- The server

server_by_lem : (opened : LinkParameters) (s : ServerState) (f : Frame) (first_fault : Option End) → is_hello f ≡ false → frame_end (server_readiness opened s) (region_grants f.end s.regions) f ≡ first_fault → server_end opened s (FrameReceived f) ≡ or_refusal s f first_fault
unfolding server_end
server_by_lem opened s f first_fault behind is = λ i. cond (behind i) (hello_end (hello_of Initiator f.bytes)) (or_refusal s f (is i))

-- a Send: none of the link's reasons, and never a missing receive
pub server_send : (opened : LinkParameters) (k : ClientState) (s : ServerState) (w : Transit) (f : Frame) (message : SentMessage) (rest : List FrameContent) → TotalsAgree k s w → WithinWindow opened k → w.up ≡ SendFrame message ∷ rest
    → Carries false s.received.sends s.received.requests f (SendFrame message) → 16 ≤ length message.bytes → length message.bytes ≤ s.up_max → server_end opened s (FrameReceived f) ≡ refusal_end f (frame_effect s f).refusal
unfolding frame_end frame_segment
server_send opened k s w f message rest c g head p long short =
    let some : 0 < total_of sends_in (w.up ++ w.queued_up) = omega (arith, ap (λ (ps : List FrameContent). total_of sends_in (ps ++ w.queued_up)) head) in
    let front = at_front s.received.begun w.up w.queued_up (SendFrame message) rest head c.whole_up in
    server_by_lem opened s f None p.behind
    (send_frame false (server_readiness opened s) (region_grants f.end s.regions) s.received.sends s.received.requests f message p refl front.0 front.1 (receives opened k s w c g some) refl long (omega (arith, short)))

-- a segment of a Send that isn't its last: nothing
pub server_part : (opened : LinkParameters) (k : ClientState) (s : ServerState) (w : Transit) (f : Frame) (named : Bool) (offset : ℕ) (payload : List ℕ) (rest : List FrameContent) → TotalsAgree k s w → WithinWindow opened k → w.up ≡ PartFrame named offset payload ∷ rest
    → Carries false s.received.sends s.received.requests f (PartFrame named offset payload) → server_end opened s (FrameReceived f) ≡ refusal_end f (frame_effect s f).refusal
unfolding frame_end frame_segment
server_part opened k s w f named offset payload rest c g head p =
    let front = at_front s.received.begun w.up w.queued_up (PartFrame named offset payload) rest head c.whole_up in
    let some : 0 < total_of sends_in (w.up ++ w.queued_up) =
    omega (arith, ap (λ (ps : List FrameContent). total_of sends_in (ps ++ w.queued_up)) head, send_goes_on (begun_bytes s.received.begun ++ payload) (rest ++ w.queued_up) front.1) in
    server_by_lem opened s f None p.behind
    (part_frame_end false (server_readiness opened s) (region_grants f.end s.regions) s.received.sends s.received.requests f named offset payload p refl front.0 (receives opened k s w c g some) refl)

-- a segment of a Response: only what its access lacks
lacks_none : (f : Frame) (segment : Segment) (lack : Option Denied) → lack ≡ None → end_of_fault f segment (first_fault (missing_fault lack ∷ [])) ≡ None
lacks_none f segment lack e = ap (λ (l : Option Denied). end_of_fault f segment (first_fault (missing_fault l ∷ []))) e

pub server_response : (opened : LinkParameters) (s : ServerState) (w : Transit) (f : Frame) (last : Bool) (stag to : ℕ) (payload : List ℕ) (rest : List FrameContent) → ReadsAgree s w → w.up ≡ TaggedFrame last OPCODE_READ_RESPONSE stag to payload ∷ rest
    → Carries false s.received.sends s.received.requests f (TaggedFrame last OPCODE_READ_RESPONSE stag to payload) → missing_access (region_grants f.end s.regions) f (Tagged last OPCODE_READ_RESPONSE stag to payload) ≡ None
    → server_end opened s (FrameReceived f) ≡ refusal_end f (frame_effect s f).refusal
unfolding frame_end
server_response opened s w f last stag to payload rest c head p allowed =
    let segment : Segment = Tagged last OPCODE_READ_RESPONSE stag to payload in
    let grants = region_grants f.end s.regions in
    let is : frame_segment f ≡ Ok segment = segment_is s.received.sends s.received.requests f (TaggedFrame last OPCODE_READ_RESPONSE stag to payload) segment p refl in
    let answers = subst (λ (ps : List FrameContent). AreResponses s.response_bytes c.answered (ps ++ w.queued_up)) head c.answers in
    let reads = all_reads s.reads c.answered c.asked c.parts in
    let expected = is_expected_lem s c.answered last OPCODE_READ_RESPONSE stag to payload (rest ++ w.queued_up) (c.asked ++ drop open_reads_max s.reads) reads answers in
    let flaw = response_flaw (server_readiness opened s (missing_access grants f segment)) last stag to payload expected in
    server_by_lem opened s f None p.behind
    (ap (λ (r : Result Segment ℕ). frame_end_by (server_readiness opened s) grants f r) is
    ∙ ap (λ (x : Option (SegmentReason Denied)). end_of_fault f segment x) flaw
    ∙ lacks_none f segment (missing_access grants f segment) allowed)
  where
    all_reads : (reads answered asked : List PendingRead) → take open_reads_max reads ≡ answered ++ asked → reads ≡ answered ++ (asked ++ drop open_reads_max reads)
    all_reads reads answered asked e = sym (take-append-drop open_reads_max reads) ∙ ap (λ (xs : List PendingRead). xs ++ drop open_reads_max reads) e ∙ append_assoc answered asked (drop open_reads_max reads)

-- ---- The client

pub client_by_lem : (k : ClientState) (f : Frame) (found : Option End) → is_hello f ≡ false → frame_end_by (client_readiness k) (region_grants f.end k.regions) f (client_segment k f) ≡ found → client_end k (FrameReceived f) ≡ or_message_end k f found
unfolding client_end
client_by_lem k f found behind is = λ i. cond (behind i) (or_other_sizes k f (hello_end (hello_of Responder f.bytes))) (or_message_end k f (is i))

or_true : (b : Bool) → (b || true) ≡ true
or_true true = refl
or_true false = refl

-- a segment ends it as a plain one
pub plain_end_by : (k : ClientState) (f : Frame) (segment : Segment) → plain_segment k f ≡ Ok segment → frame_end_by (client_readiness k) (region_grants f.end k.regions) f (client_segment k f) ≡ frame_end_by (client_readiness k) (region_grants f.end k.regions) f (Ok segment)
plain_end_by k f segment is =
    sym (plain_frame_end (client_readiness k) (region_grants f.end k.regions) f (client_segment k f))
    ∙ ap (λ (r : Result Segment ℕ). frame_end_by (client_readiness k) (region_grants f.end k.regions) f r) is

-- a message: its verdict alone
pub client_send : (opened : LinkParameters) (k : ClientState) (s : ServerState) (w : Transit) (f : Frame) (message : SentMessage) (rest : List FrameContent) → TotalsAgree k s w → w.down ≡ SendFrame message ∷ rest
    → Carries k.invalidates k.received.sends k.received.requests f (SendFrame message) → 16 ≤ length message.bytes → length message.bytes ≤ k.down_max → client_end k (FrameReceived f) ≡ message_end_in k f (client_segment k f)
client_send opened k s w f message rest c head p long short =
    let front = at_front k.received.begun w.down w.queued_down (SendFrame message) rest head c.whole_down in
    client_by_lem k f None p.behind
    (send_frame k.invalidates (client_readiness k) (region_grants f.end k.regions) k.received.sends k.received.requests f message p refl front.0 front.1 (or_true (is_begun k.received.begun)) refl long (omega (arith, short)))

-- a segment of a Send that isn't its last: nothing
pub client_part : (k : ClientState) (s : ServerState) (w : Transit) (f : Frame) (named : Bool) (offset : ℕ) (payload : List ℕ) (rest : List FrameContent) → TotalsAgree k s w → w.down ≡ PartFrame named offset payload ∷ rest
    → Carries k.invalidates k.received.sends k.received.requests f (PartFrame named offset payload) → client_end k (FrameReceived f) ≡ None
client_part k s w f named offset payload rest c head p =
    let segment : Segment = part_segment k.received.sends offset payload in
    let is : plain_segment k f ≡ Ok segment = plain_is k f (PartFrame named offset payload) segment p refl in
    let front = at_front k.received.begun w.down w.queued_down (PartFrame named offset payload) rest head c.whole_down in
    client_by_lem k f None p.behind
    (part_frame_end k.invalidates (client_readiness k) (region_grants f.end k.regions) k.received.sends k.received.requests f named offset payload p refl front.0 (or_true (is_begun k.received.begun)) refl)
    ∙ message_end_is k f segment is
