-- Laws of an endpoint, over the calls that it stands for.
use Rattle.std.specs.Prelude.{◌≡◌, ◌≢◌, ℕ, ◌+◌, ◌<◌, Bool, true, false, if◌then◌else◌, List, [], ◌∷◌, ◌++◌, length, take, drop, map, Option, None, Some, Result, Ok, Err, ◌⊎◌, ◌≤◌, IfSome, Contains, All}
use Rattle.nr_wire.specs.Constants.{REASON_KEY, REASON_PRIVATE, REASON_LENGTH}
use Rattle.nr_wire.specs.declared.hello.Side.{Side}
use Rattle.nr_wire.specs.declared.hello.Side.TheVariants.{Initiator, Responder}
use Rattle.nr_wire.specs.declared.stream.Awaited.{Awaited}
use Rattle.nr_wire.specs.declared.stream.Awaited.TheVariants.{Hello as HelloFrom, Fpdu}
use Rattle.nr_wire.specs.Stream.{IsPartial, split}
use Rattle.nr_wire.specs.Feeding.{bytes_taken}
use Rattle.nr_wire.specs.Segment.{Segment}
use Rattle.nr_regions.specs.declared.right.Right.{Right}
use Rattle.nr_regions.specs.RegisteredMemory.{RegisteredMemory, Access, Claim, IsHeld, denial, live_region, region_offer, held_region, bytes_in, bytes_at}
use Rattle.nr_regions.specs.Access.{Grant, access_of_tagged, contents, TaggedSegment, grant_at, grant_denial, grant_offer}
use Rattle.nr_regions.specs.Events.{MemoryEvent, after_event, after_events, tagged_segments, StaysOpen, IsRegisteredAt, IsReleasedAt}
use Rattle.nr_regions.specs.Events.MemoryEvent.{Register as RegisterRegion, Release as ReleaseRegion, Invalidate as InvalidateRegion, Arrive}
use Rattle.nr_link.specs.declared.end.End.{End}
use Rattle.nr_link.specs.declared.end.End.TheVariants as ends
use Rattle.nr_link.specs.Reasons.{REASON_SHORT, REASON_LONG, REASON_SIZES}
use Rattle.nr_link.specs.Frames.{Frame}
use Rattle.nr_link.specs.Input.{InputState, input_of}
use Rattle.nr_link.specs.ReceiveState.{ReadRequest, read_request_of}
use Rattle.nr_link.specs.Ending.{tagged_access, final_output, frame_end_by}
use Rattle.nr_link.specs.Output.{hello_with, refusing_hello, terminate_message}
use Rattle.nr_link.specs.declared.agreement.SideTerms.{SideTerms}
use Rattle.nr_link.specs.declared.agreement.Agreement.{Agreement}
use Rattle.nr_endpoint.specs.SendQueue.{SendQueue, with_response, writable, written}
use Rattle.nr_endpoint.specs.Hellos.{first_private}
use Rattle.nr_wire.specs.Hello.{peer}
use Rattle.nr_endpoint.specs.LinkState.{LinkState, LinkSide, has_ended, initial_link}
use Rattle.nr_endpoint.specs.Judging.{readiness, segment_end, fetch_access, next_frame, next_segment, with_frame}
use Rattle.nr_endpoint.specs.Calls.{Call, IsStopReason, after_call, after_calls}
use Rattle.nr_endpoint.specs.Calls.Call.{Feed, FeedOne, NextEvent, Post, Stop, OutOfMemory, Send, SendInvalidate, Hold, SendHeld, WriteRemote, ReadRemote, Drain, Register, Release, Invalidate}

-- ---- However the stream is cut

-- To feed two pieces is to feed both joined.
abbrev pub PiecesJoin : Type 0
PiecesJoin = (link : LinkSide) (x y : List ℕ) → after_calls link (Feed x ∷ Feed y ∷ []) ≡ after_call link (Feed (x ++ y))

-- One step on a piece, and then the rest of the piece, equals a feed of the complete piece.
abbrev pub StepsReach : Type 0
StepsReach = (link : LinkSide) (piece : List ℕ) → IsPartial link.awaited link.rest →
    after_calls link (FeedOne piece ∷ Feed (drop (bytes_taken link.awaited link.rest piece) piece) ∷ []) ≡ after_call link (Feed piece)

-- One step is a feed of the bytes that it takes.
abbrev pub StepsFeed : Type 0
StepsFeed = (link : LinkSide) (piece : List ℕ) → has_ended link.state ≡ false → IsPartial link.awaited link.rest →
    after_call link (FeedOne piece) ≡ after_call link (Feed (take (bytes_taken link.awaited link.rest piece) piece))

-- A side that has ended takes no more bytes.
abbrev pub EndStays : Type 0
EndStays = (link : LinkSide) (piece : List ℕ) → has_ended link.state ≡ true → link.rest ≡ [] →
    (after_call link (Feed piece) ≡ link) × (after_call link (FeedOne piece) ≡ link)

-- After any calls a side keeps less than a frame, and a side that has ended keeps no input.
abbrev pub KeepsLessThanFrame : Type 0
KeepsLessThanFrame = (side : Side) (receives first_stag : ℕ) (terms : SideTerms) (earlier : Option Agreement) (calls : List Call) →
    IsPartial (after_calls (initial_link side receives first_stag terms earlier) calls).awaited (after_calls (initial_link side receives first_stag terms earlier) calls).rest

abbrev pub EndedKeepsNothing : Type 0
EndedKeepsNothing = (side : Side) (receives first_stag : ℕ) (terms : SideTerms) (earlier : Option Agreement) (calls : List Call) →
    has_ended (after_calls (initial_link side receives first_stag terms earlier) calls).state ≡ true → (after_calls (initial_link side receives first_stag terms earlier) calls).rest ≡ []

-- ---- What is kept of the stream

-- the bytes of the peer's stream that a call hands over: a feed of one frame only those that it takes
abbrev pub bytes_in_call : LinkSide → Call → List ℕ
bytes_in_call link (Feed piece) = piece
bytes_in_call link (FeedOne piece) = take (bytes_taken link.awaited link.rest piece) piece
bytes_in_call link NextEvent = []
bytes_in_call link Post = []
bytes_in_call link (Stop reason) = []
bytes_in_call link OutOfMemory = []
bytes_in_call link (Send message) = []
bytes_in_call link (SendInvalidate stag message) = []
bytes_in_call link (Hold message) = []
bytes_in_call link (SendHeld message) = []
bytes_in_call link (WriteRemote stag to bytes) = []
bytes_in_call link (ReadRemote sink at stag to len) = []
bytes_in_call link (Drain count) = []
bytes_in_call link (Register buf right) = []
bytes_in_call link (Release stag) = []
bytes_in_call link (Invalidate stag) = []

abbrev pub bytes_fed : LinkSide → List Call → List ℕ
bytes_fed link [] = []
bytes_fed link (call ∷ calls) = bytes_in_call link call ++ bytes_fed (after_call link call) calls

pub record KeepsInput (link : LinkSide) (input : InputState) : Type 0 where
  pub awaited : link.awaited ≡ input.awaited
  pub rest : link.rest ≡ input.rest
  pub place : link.state.place ≡ input.place

-- Until a side has ended, it keeps the rest of the bytes that were fed after their complete frames; its offset is the end of these.
abbrev pub StreamIsKept : Type 0
StreamIsKept = (side : Side) (receives first_stag : ℕ) (terms : SideTerms) (earlier : Option Agreement) (calls : List Call) →
    let start = initial_link side receives first_stag terms earlier in
    has_ended (after_calls start calls).state ≡ false → KeepsInput (after_calls start calls) (input_of (peer side) (bytes_fed start calls))

-- Ended or not, its offset and what it keeps are no more than the bytes that were fed.
abbrev pub PlaceIsFed : Type 0
PlaceIsFed = (side : Side) (receives first_stag : ℕ) (terms : SideTerms) (earlier : Option Agreement) (calls : List Call) →
    let start = initial_link side receives first_stag terms earlier in
    let link = after_calls start calls in
    link.state.place + length link.rest ≤ length (bytes_fed start calls)

-- ---- What the peer does with the memory of a side

-- The tagged segment of a frame that doesn't end the side arrives at the memory, with the end of its frame.
abbrev pub segment_arrivals : Frame → Segment → Option End → List MemoryEvent
segment_arrivals f segment None = map Arrive (tagged_access f segment)
segment_arrivals f segment (Some end) = []

abbrev pub fpdu_arrivals : LinkState → Frame → Result Segment ℕ → List MemoryEvent
fpdu_arrivals s f (Ok segment) = segment_arrivals f segment (segment_end s f segment)
fpdu_arrivals s f (Err reason) = []

abbrev pub frame_arrivals : LinkState → Awaited → List ℕ → List MemoryEvent
frame_arrivals s (HelloFrom side) bytes = []
frame_arrivals s Fpdu bytes = fpdu_arrivals s (next_frame s bytes) (next_segment s bytes)

-- those of frames that come one after the other, up to the one that ends the side
abbrev pub arrivals : List (List ℕ) → Awaited → LinkState → List MemoryEvent
arrivals [] a s = []
arrivals (frame ∷ frames) a s = if has_ended s then [] else frame_arrivals s a frame ++ arrivals frames Fpdu (with_frame s a frame)

-- the frames that a piece completes
abbrev pub frames_made_whole : LinkSide → List ℕ → List (List ℕ)
frames_made_whole link piece = (split link.awaited (link.rest ++ piece)).frames

-- What a call does to the memory. A feed of one frame takes the first that the piece completes.
abbrev pub call_events : LinkSide → Call → List MemoryEvent
call_events link (Feed piece) = arrivals (frames_made_whole link piece) link.awaited link.state
call_events link (FeedOne piece) = arrivals (take 1 (frames_made_whole link piece)) link.awaited link.state
call_events link NextEvent = []
call_events link Post = []
call_events link (Stop reason) = []
call_events link OutOfMemory = []
call_events link (Send message) = []
call_events link (SendInvalidate stag message) = []
call_events link (Hold message) = []
call_events link (SendHeld message) = []
call_events link (WriteRemote stag to bytes) = []
call_events link (ReadRemote sink at stag to len) = []
call_events link (Drain count) = []
call_events link (Register buf right) = RegisterRegion right buf ∷ []
call_events link (Release stag) = ReleaseRegion stag ∷ []
call_events link (Invalidate stag) = InvalidateRegion stag ∷ []

abbrev pub memory_events : LinkSide → List Call → List MemoryEvent
memory_events link [] = []
memory_events link (call ∷ calls) = call_events link call ++ memory_events (after_call link call) calls

-- Nothing else changes the memory.
abbrev pub MemoryFollowsEvents : Type 0
MemoryFollowsEvents = (link : LinkSide) (calls : List Call) → (after_calls link calls).state.memory ≡ after_events link.state.memory (memory_events link calls)

-- the memory denies none of the tagged segments, each judged by the memory at the time it arrives
abbrev pub IsUndenied : RegisteredMemory → MemoryEvent → Type 0
IsUndenied m (RegisterRegion right buf) = Unit {0}
IsUndenied m (ReleaseRegion stag) = Unit {0}
IsUndenied m (InvalidateRegion stag) = Unit {0}
IsUndenied m (Arrive s) = denial m (access_of_tagged s) ≡ None

abbrev pub NoneIsDenied : RegisteredMemory → List MemoryEvent → Type 0
NoneIsDenied m [] = Unit {0}
NoneIsDenied m (event ∷ events) = IsUndenied m event × NoneIsDenied (after_event m event) events

abbrev pub PlacesAreAllowed : Type 0
PlacesAreAllowed = (link : LinkSide) (calls : List Call) → NoneIsDenied link.state.memory (memory_events link calls)

-- They come in the order of the stream: each ends after the frames before these calls, and not after the last frame of these calls.
abbrev pub EndsWithin : ℕ → ℕ → TaggedSegment → Type 0
EndsWithin from until segment = (from < segment.end) × (segment.end ≤ until)

abbrev pub PlacesAreInOrder : Type 0
PlacesAreInOrder = (link : LinkSide) (calls : List Call) →
    All (EndsWithin link.state.place (after_calls link calls).state.place) (tagged_segments (memory_events link calls))

-- Each ends after the one before it, and the first after this offset.
abbrev pub EndsRise : ℕ → List TaggedSegment → Type 0
EndsRise from [] = Unit {0}
EndsRise from (segment ∷ segments) = (from < segment.end) × EndsRise segment.end segments

abbrev pub ArrivalsRise : Type 0
ArrivalsRise = (link : LinkSide) (calls : List Call) → EndsRise link.state.place (tagged_segments (memory_events link calls))

-- ---- What the peer reads of it

-- A Read Request that doesn't end the side makes an access that the memory doesn't deny, and is answered with its bytes at that frame.
abbrev pub ReadsAreAllowed : Type 0
ReadsAreAllowed = (s : LinkState) (frame : List ℕ) (segment : Segment) (request : ReadRequest) →
    next_segment s frame ≡ Ok segment → read_request_of segment ≡ Some request → segment_end s (next_frame s frame) segment ≡ None →
    (denial s.memory (fetch_access request) ≡ None)
    × ((with_frame s Fpdu frame).send_queue ≡ with_response request.sink request.sink_to (bytes_at s.memory (fetch_access request)) s.send_queue)

-- the frame is such a Read Request
pub record IsAllowedRead (s : LinkState) (a : Awaited) (frame : List ℕ) : Type 0 where
  pub segment : Segment
  pub request : ReadRequest
  pub fpdu : a ≡ Fpdu
  pub whole : next_segment s frame ≡ Ok segment
  pub asks : read_request_of segment ≡ Some request
  pub lives : segment_end s (next_frame s frame) segment ≡ None

-- the FPDUs with which a side ends, if it has ended
abbrev pub final_fpdus : Option End → List ℕ
final_fpdus None = []
final_fpdus (Some end) = final_output end

-- What a side queues last is an FPDU more after the others, or after its hello.
abbrev pub QueuesLast : LinkState → LinkState → Type 0
QueuesLast s after =
    (after.send_queue.fpdus ≡ s.send_queue.fpdus ++ final_fpdus after.ended)
    ⊎ ((after.send_queue.fpdus ≡ s.send_queue.fpdus) × (after.send_queue.hello ≡ s.send_queue.hello ++ final_fpdus after.ended))

-- Any other frame queues no FPDU but the one with which the side ends.
abbrev pub NothingElseIsRead : Type 0
NothingElseIsRead = (s : LinkState) (a : Awaited) (frame : List ℕ) → s.ended ≡ None → IsAllowedRead s a frame ⊎ QueuesLast s (with_frame s a frame)

-- A frame that isn't a Read Request, and doesn't end the side, leaves what there is to write as it was.
abbrev pub OtherFramesQueueNothing : Type 0
OtherFramesQueueNothing = (s : LinkState) (frame : List ℕ) (segment : Segment) → next_segment s frame ≡ Ok segment → read_request_of segment ≡ None →
    segment_end s (next_frame s frame) segment ≡ None → (with_frame s Fpdu frame).send_queue ≡ s.send_queue

-- ---- A region, from its registration to its release

-- A region that stays open holds what it held, with the payload of each allowed tagged segment over it, the later over the earlier.
abbrev pub OpenRegionHolds : Type 0
OpenRegionHolds = (grants : List Grant) (link : LinkSide) (calls : List Call) (stag : ℕ) (right : Right) (buf : List ℕ) →
    stag < link.state.memory.next → live_region link.state.memory stag ≡ Some (record { right = right; buf = buf }) →
    StaysOpen grants stag right (length buf) (memory_events link calls) →
    live_region (after_calls link calls).state.memory stag
    ≡ Some (record { right = right; buf = contents grants stag buf (tagged_segments (memory_events link calls)) })

-- A buffer that is released is what was registered, with the payload of each allowed tagged segment of all calls over it, those before
-- and after among them: they don't touch it.
abbrev pub ReleasedBufferHolds : Type 0
ReleasedBufferHolds = (grants : List Grant) (link : LinkSide) (from until : ℕ) (right : Right) (buf : List ℕ) (before between after : List Call) →
    let start = after_calls link before in
    let stag = start.state.memory.next in
    let opened = after_call start (Register buf right) in
    let last = after_calls opened between in
    IsRegisteredAt grants stag from (memory_events link before) →
    IsReleasedAt grants stag right (length buf) until (memory_events opened between) (memory_events (after_call last (Release stag)) after) →
    bytes_in (held_region last.state.memory stag)
    ≡ contents grants stag buf (tagged_segments (memory_events link (before ++ Register buf right ∷ (between ++ Release stag ∷ after))))

-- Once it is released no call gives its STag a region again.
abbrev pub ReleasedStaysClosed : Type 0
ReleasedStaysClosed = (link : LinkSide) (stag : ℕ) (calls : List Call) → stag < link.state.memory.next →
    live_region (after_calls (after_call link (Release stag)) calls).state.memory stag ≡ None

-- Once it is invalidated the peer reaches it no more, and it is held with its bytes, until a call releases it (RFC 5040 section 4.7).
abbrev pub InvalidatedStaysClosed : Type 0
InvalidatedStaysClosed = (link : LinkSide) (stag : ℕ) (calls : List Call) → stag < link.state.memory.next → All (λ call. call ≢ Release stag) calls →
    let after = (after_calls (after_call link (Invalidate stag)) calls).state.memory in
    (live_region after stag ≡ None) × (held_region after stag ≡ held_region link.state.memory stag)

-- ---- A registration, until its release

-- Whatever else is called, it lasts. `release` asks it of its caller.
abbrev pub ClaimsStay : Type 0
ClaimsStay = (link : LinkSide) (claim : Claim) (calls : List Call) → IsHeld link.state.memory claim → All (λ call. call ≢ Release claim.stag) calls →
    IsHeld (after_calls link calls).state.memory claim

-- ---- What a side writes before the peer's hello

-- A side is stopped after a frame of the peer. `stop` asks this of its caller.
abbrev pub MayBeCalled : LinkSide → Call → Type 0
MayBeCalled link (Feed piece) = Unit {0}
MayBeCalled link (FeedOne piece) = Unit {0}
MayBeCalled link NextEvent = Unit {0}
MayBeCalled link Post = Unit {0}
MayBeCalled link (Stop reason) = 0 < link.state.place
MayBeCalled link OutOfMemory = Unit {0}
MayBeCalled link (Send message) = Unit {0}
MayBeCalled link (SendInvalidate stag message) = Unit {0}
MayBeCalled link (Hold message) = Unit {0}
MayBeCalled link (SendHeld message) = Unit {0}
MayBeCalled link (WriteRemote stag to bytes) = Unit {0}
MayBeCalled link (ReadRemote sink at stag to len) = Unit {0}
MayBeCalled link (Drain count) = Unit {0}
MayBeCalled link (Register buf right) = Unit {0}
MayBeCalled link (Release stag) = Unit {0}
MayBeCalled link (Invalidate stag) = Unit {0}

abbrev pub MayAllBeCalled : LinkSide → List Call → Type 0
MayAllBeCalled link [] = Unit {0}
MayAllBeCalled link (call ∷ calls) = MayBeCalled link call × MayAllBeCalled (after_call link call) calls

-- what a sink takes, from the front of what may be written
abbrev pub bytes_drained : LinkSide → Call → List ℕ
bytes_drained link (Feed piece) = []
bytes_drained link (FeedOne piece) = []
bytes_drained link NextEvent = []
bytes_drained link Post = []
bytes_drained link (Stop reason) = []
bytes_drained link OutOfMemory = []
bytes_drained link (Send message) = []
bytes_drained link (SendInvalidate stag message) = []
bytes_drained link (Hold message) = []
bytes_drained link (SendHeld message) = []
bytes_drained link (WriteRemote stag to bytes) = []
bytes_drained link (ReadRemote sink at stag to len) = []
bytes_drained link (Drain count) = take count (writable link.state.has_hello link.state.send_queue)
bytes_drained link (Register buf right) = []
bytes_drained link (Release stag) = []
bytes_drained link (Invalidate stag) = []

abbrev pub bytes_written : LinkSide → List Call → List ℕ
bytes_written link [] = []
bytes_written link (call ∷ calls) = bytes_drained link call ++ bytes_written (after_call link call) calls

-- An initiator writes its hello, and after it the Terminate with which it ends, if it refuses the lengths of Sends that the peer's hello agrees on. A
-- responder writes nothing but the hello by which it rejects a connection and ends (RFC 5044 section 7.1).
abbrev pub IsHelloAlone : Side → SideTerms → Bool → List ℕ → Type 0
IsHelloAlone Initiator terms ended bytes =
    (bytes ≡ hello_with Initiator (first_private terms Initiator))
    ⊎ ((ended ≡ true) × (bytes ≡ hello_with Initiator (first_private terms Initiator) ++ terminate_message REASON_SIZES))
IsHelloAlone Responder terms ended bytes = (bytes ≡ []) ⊎ ((ended ≡ true) × (bytes ≡ refusing_hello))

-- Until the peer's hello was accepted, that is all that was written and that may be written.
abbrev pub NoFpduBeforeHello : Type 0
NoFpduBeforeHello = (side : Side) (receives first_stag : ℕ) (terms : SideTerms) (earlier : Option Agreement) (calls : List Call) → MayAllBeCalled (initial_link side receives first_stag terms earlier) calls →
    let start = initial_link side receives first_stag terms earlier in
    let s = (after_calls start calls).state in
    s.has_hello ≡ false → IsHelloAlone side terms (has_ended s) (bytes_written start calls ++ writable s.has_hello s.send_queue)

-- ---- Why a side ends

-- the reasons for which a frame ends a side: of a hello, of a responder's hello by what an earlier one agreed on, and of an FPDU
abbrev pub IsHelloReason : ℕ → Type 0
IsHelloReason reason = (REASON_KEY ≤ reason) × (reason ≤ REASON_PRIVATE)

abbrev pub IsFrameReason : Awaited → ℕ → Type 0
IsFrameReason (HelloFrom Initiator) reason = IsHelloReason reason
IsFrameReason (HelloFrom Responder) reason = IsHelloReason reason ⊎ (reason ≡ REASON_SIZES)
IsFrameReason Fpdu reason = ((REASON_LENGTH ≤ reason) × (reason ≤ REASON_SHORT)) ⊎ (reason ≡ REASON_LONG)

-- how a frame at this offset ends a side, which is never that memory ran out
abbrev pub IsFrameEnd : Awaited → ℕ → End → Type 0
IsFrameEnd a place (ends.Bad at reason) = (at ≡ place) × IsFrameReason a reason
IsFrameEnd a place (ends.Denied stag offset why) = a ≡ Fpdu
IsFrameEnd a place (ends.NoBuffer msn) = a ≡ Fpdu
IsFrameEnd a place (ends.Terminated reason) = a ≡ Fpdu
IsFrameEnd a place ends.Memory = ⊥

abbrev pub FramesEndForThese : Type 0
FramesEndForThese = (s : LinkState) (a : Awaited) (frame : List ℕ) → s.ended ≡ None → IfSome (with_frame s a frame).ended (IsFrameEnd a s.place)

-- None of them is a reason for which the layer above stops a link.
abbrev pub NoFrameStops : Type 0
NoFrameStops = (a : Awaited) (reason : ℕ) → IsFrameReason a reason → IsStopReason reason → ⊥

-- So a side that ended for such a reason was stopped for it, and a side that ended out of memory ran out of it.
abbrev pub OthersComeFromStop : Type 0
OthersComeFromStop = (side : Side) (receives first_stag : ℕ) (terms : SideTerms) (earlier : Option Agreement) (calls : List Call) (at reason : ℕ) →
    (after_calls (initial_link side receives first_stag terms earlier) calls).state.ended ≡ Some (ends.Bad at reason) → IsStopReason reason → Contains calls (Stop reason)

abbrev pub MemoryComesFromOutOfMemory : Type 0
MemoryComesFromOutOfMemory = (side : Side) (receives first_stag : ℕ) (terms : SideTerms) (earlier : Option Agreement) (calls : List Call) →
    (after_calls (initial_link side receives first_stag terms earlier) calls).state.ended ≡ Some ends.Memory → Contains calls OutOfMemory

-- Grants deny what the memory denies, of each access of a frame that ends here.
abbrev pub DeniesAlike : RegisteredMemory → List Grant → ℕ → Type 0
DeniesAlike m grants end = (access : Access) → denial m access ≡ grant_denial grants access end

-- So an FPDU ends a side if and only if it ends a side that offered these grants, for the same reason, by the complete list of nr_link.
abbrev pub GrantsEndAlike : Type 0
GrantsEndAlike = (s : LinkState) (grants : List Grant) (frame : List ℕ) → s.ended ≡ None →
    DeniesAlike s.memory grants (next_frame s frame).end → (with_frame s Fpdu frame).ended ≡ frame_end_by (readiness s) grants (next_frame s frame) (next_segment s frame)

-- They do if memory and grants offer the same under every STag.
abbrev pub OffersDenyAlike : Type 0
OffersDenyAlike = (m : RegisteredMemory) (grants : List Grant) (end : ℕ) →
    ((stag : ℕ) → region_offer (live_region m stag) ≡ grant_offer (grant_at grants stag end)) → DeniesAlike m grants end

-- ---- What a side writes once it has ended

-- the output if nothing more is queued: only what is written leaves it
abbrev pub queue_drained : Call → SendQueue → SendQueue
queue_drained (Feed piece) q = q
queue_drained (FeedOne piece) q = q
queue_drained NextEvent q = q
queue_drained Post q = q
queue_drained (Stop reason) q = q
queue_drained OutOfMemory q = q
queue_drained (Send message) q = q
queue_drained (SendInvalidate stag message) q = q
queue_drained (Hold message) q = q
queue_drained (SendHeld message) q = q
queue_drained (WriteRemote stag to bytes) q = q
queue_drained (ReadRemote sink at stag to len) q = q
queue_drained (Drain count) q = written count q
queue_drained (Register buf right) q = q
queue_drained (Release stag) q = q
queue_drained (Invalidate stag) q = q

abbrev pub queue_drained_by : List Call → SendQueue → SendQueue
queue_drained_by [] q = q
queue_drained_by (call ∷ calls) q = queue_drained_by calls (queue_drained call q)

-- No call queues anything on a side that has ended: its last FPDU is that with which it ended.
abbrev pub EndedQueuesNothing : Type 0
EndedQueuesNothing = (link : LinkSide) (calls : List Call) → has_ended link.state ≡ true →
    (after_calls link calls).state.send_queue ≡ queue_drained_by calls link.state.send_queue

-- A side that is stopped queues what it writes last; one that ran out of memory queues nothing.
abbrev pub StopQueuesLast : Type 0
StopQueuesLast = (link : LinkSide) (reason : ℕ) → link.state.ended ≡ None →
    (after_call link (Stop reason)).state.send_queue.fpdus ≡ link.state.send_queue.fpdus ++ final_output (ends.Bad link.state.last reason)

abbrev pub OutOfMemoryQueuesNothing : Type 0
OutOfMemoryQueuesNothing = (link : LinkSide) → (after_call link OutOfMemory).state.send_queue ≡ link.state.send_queue

-- An End is kept, whatever is called.
abbrev pub EndIsKept : Type 0
EndIsKept = (link : LinkSide) (calls : List Call) → has_ended link.state ≡ true → (after_calls link calls).state.ended ≡ link.state.ended
