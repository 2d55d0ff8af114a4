-- Laws of what a side has to write, over the calls that it stands for: its output is a hello and items, in order, and its counts of Sends
-- and of Read Responses are counts of these items.
use Rattle.std.specs.Prelude.{◌≡◌, ℕ, ◌+◌, ◌-◌, ◌^◌, ◌<◌, ◌≤◌, min, Bool, true, false, if◌then◌else◌, List, [], ◌∷◌, ◌++◌, length, take, Option, None, Some, Result, Ok, Err, ◌==◌}
use Rattle.nr_wire.specs.declared.hello.Side.{Side}
use Rattle.nr_wire.specs.declared.hello.Side.TheVariants.{Initiator, Responder}
use Rattle.nr_wire.specs.declared.stream.Awaited.{Awaited}
use Rattle.nr_wire.specs.declared.stream.Awaited.TheVariants.{Hello as HelloFrom, Fpdu}
use Rattle.nr_wire.specs.Hello.{Hello, hello_of}
use Rattle.nr_wire.specs.Segment.{Segment}
use Rattle.nr_regions.specs.RegisteredMemory.{RegisteredMemory, bytes_at}
use Rattle.nr_link.specs.declared.end.End.{End}
use Rattle.nr_link.specs.declared.end.End.TheVariants as ends
use Rattle.nr_link.specs.Limits.{open_reads_max}
use Rattle.nr_link.specs.Frames.{Frame}
use Rattle.nr_link.specs.Output.{hello_with, terminate_message}
use Rattle.nr_link.specs.OutputItem.{OutputItem, items_encoding, is_send_item, is_response_item, items_written, items_left}
use Rattle.nr_link.specs.OutputItem.OutputItem.{SendItem, SendInvalidateItem, WriteItem, ReadRequestItem, ReadResponseItem, LastItem}
use Rattle.nr_link.specs.ReceiveState.{ReadRequest, read_request_of}
use Rattle.nr_link.specs.Ending.{rejection}
use Rattle.nr_link.specs.declared.agreement.SideTerms.{SideTerms}
use Rattle.nr_link.specs.declared.agreement.Agreement.{Agreement}
use Rattle.nr_endpoint.specs.SendQueue.{next_number, writable}
use Rattle.nr_endpoint.specs.ReceiveQueue.{receives_kept}
use Rattle.nr_endpoint.specs.Hellos.{first_private}
use Rattle.nr_endpoint.specs.LinkState.{LinkState, LinkSide, has_ended, initial_link}
use Rattle.nr_endpoint.specs.Judging.{segment_end, fetch_access, next_frame, next_segment, with_frame}
use Rattle.nr_endpoint.specs.Calls.{Call, IsStopReason, after_call, after_calls}
use Rattle.nr_endpoint.specs.Calls.Call.{Feed, FeedOne, NextEvent, Post, Stop, OutOfMemory, Send, SendInvalidate, Hold, SendHeld, WriteRemote, ReadRemote, Drain, Register, Release, Invalidate}
use Rattle.nr_endpoint.specs.Laws.{frames_made_whole, bytes_written}
use Rattle.nr_link.specs.Reasons.{REASON_SIZES}

-- ---- The items that are queued

-- the Read Response to a Read Request, with the present bytes
abbrev pub response_items : RegisteredMemory → Option ReadRequest → List OutputItem
response_items m None = []
response_items m (Some r) = ReadResponseItem r.sink r.sink_to (bytes_at m (fetch_access r)) ∷ []

abbrev pub segment_items : LinkState → Segment → Option End → List OutputItem
segment_items s segment None = response_items s.memory (read_request_of segment)
segment_items s segment (Some end) = LastItem end ∷ []

abbrev pub fpdu_items : LinkState → Frame → Result Segment ℕ → List OutputItem
fpdu_items s f (Ok segment) = segment_items s segment (segment_end s f segment)
fpdu_items s f (Err reason) = LastItem (ends.Bad f.at reason) ∷ []

abbrev pub hello_items : Frame → Result Hello ℕ → List OutputItem
hello_items f (Ok hello) = []
hello_items f (Err reason) = LastItem (ends.Bad f.at reason) ∷ []

abbrev pub frame_items : LinkState → Awaited → List ℕ → List OutputItem
frame_items s (HelloFrom side) bytes = hello_items (next_frame s bytes) (hello_of side bytes)
frame_items s Fpdu bytes = fpdu_items s (next_frame s bytes) (next_segment s bytes)

-- those of frames that come one after the other, up to the one that ends the side
abbrev pub items_of_frames : List (List ℕ) → Awaited → LinkState → List OutputItem
items_of_frames [] a s = []
items_of_frames (frame ∷ frames) a s = if has_ended s then [] else frame_items s a frame ++ items_of_frames frames Fpdu (with_frame s a frame)

-- What a call queues. A feed of one frame takes the first that the piece completes. Nothing is queued once the side has ended.
abbrev pub call_items : LinkSide → Call → List OutputItem
call_items link (Feed piece) = items_of_frames (frames_made_whole link piece) link.awaited link.state
call_items link (FeedOne piece) = items_of_frames (take 1 (frames_made_whole link piece)) link.awaited link.state
call_items link NextEvent = []
call_items link Post = []
call_items link (Stop reason) = if has_ended link.state then [] else LastItem (ends.Bad link.state.last reason) ∷ []
call_items link OutOfMemory = []
call_items link (Send message) = if has_ended link.state then [] else SendItem (next_number link.state.send_queue.last_send) message ∷ []
call_items link (SendInvalidate stag message) = if has_ended link.state then [] else SendInvalidateItem (next_number link.state.send_queue.last_send) stag message ∷ []
call_items link (Hold message) = []
call_items link (SendHeld message) = if has_ended link.state then [] else SendItem (next_number link.state.send_queue.last_send) message ∷ []
call_items link (WriteRemote stag to bytes) = if has_ended link.state then [] else WriteItem stag to bytes ∷ []
call_items link (ReadRemote sink at stag to len) =
    if has_ended link.state then [] else ReadRequestItem (next_number link.state.send_queue.last_request) sink at len stag to ∷ []
call_items link (Drain count) = []
call_items link (Register buf right) = []
call_items link (Release stag) = []
call_items link (Invalidate stag) = []

abbrev pub items_queued : LinkSide → List Call → List OutputItem
items_queued link [] = []
items_queued link (call ∷ calls) = call_items link call ++ items_queued (after_call link call) calls

-- ---- The hello

abbrev pub rejection_by : Side → Option End → List ℕ
rejection_by side None = []
rejection_by side (Some end) = rejection side end

-- the Terminate of an initiator that refuses the lengths of Sends that the peer's hello agrees on
abbrev pub sizes_refused : Option End → List ℕ
sizes_refused None = []
sizes_refused (Some (ends.Bad at reason)) = if reason == REASON_SIZES then terminate_message REASON_SIZES else []
sizes_refused (Some (ends.Denied stag offset why)) = []
sizes_refused (Some (ends.NoBuffer msn)) = []
sizes_refused (Some (ends.Terminated reason)) = []
sizes_refused (Some ends.Memory) = []

-- All of its hello that a side has queued: an initiator's is there from the start, with that Terminate after it; a responder's answers that of the
-- initiator, or rejects the connection (RFC 5044 section 7.1).
abbrev pub hello_queued : Side → SideTerms → (private : List ℕ) → Bool → Option End → List ℕ
hello_queued Initiator terms private has_hello ended = hello_with Initiator (first_private terms Initiator) ++ (if has_hello then [] else sizes_refused ended)
hello_queued Responder terms private has_hello ended = if has_hello then hello_with Responder private else rejection_by Responder ended

abbrev pub own_output_hello : LinkState → List ℕ
own_output_hello s = hello_queued s.side s.terms s.private s.has_hello s.ended

-- ---- What the calls ask

-- What a call asks of its caller or answers itself: a drain took no more than may be written, a side is stopped for a reason of the layer
-- above, a receive is posted that was lent, and no Read Request is queued while the maximum number is open.
abbrev pub IsAllowedCall : LinkSide → Call → Type 0
IsAllowedCall link (Feed piece) = Unit {0}
IsAllowedCall link (FeedOne piece) = Unit {0}
IsAllowedCall link NextEvent = Unit {0}
IsAllowedCall link Post = 0 < link.state.receive_queue.lent
IsAllowedCall link (Stop reason) = IsStopReason reason
IsAllowedCall link OutOfMemory = Unit {0}
IsAllowedCall link (Send message) = Unit {0}
IsAllowedCall link (SendInvalidate stag message) = Unit {0}
IsAllowedCall link (Hold message) = Unit {0}
IsAllowedCall link (SendHeld message) = Unit {0}
IsAllowedCall link (WriteRemote stag to bytes) = Unit {0}
IsAllowedCall link (ReadRemote sink at stag to len) = length link.state.reads < open_reads_max
IsAllowedCall link (Drain count) = count ≤ length (writable link.state.has_hello link.state.send_queue)
IsAllowedCall link (Register buf right) = Unit {0}
IsAllowedCall link (Release stag) = Unit {0}
IsAllowedCall link (Invalidate stag) = Unit {0}

abbrev pub AreAllowedCalls : LinkSide → List Call → Type 0
AreAllowedCalls link [] = Unit {0}
AreAllowedCalls link (call ∷ calls) = IsAllowedCall link call × AreAllowedCalls (after_call link call) calls

-- Calls that are allowed, and then calls that are allowed after them, are together calls that are allowed.
abbrev pub AllowedCallsJoin : Type 0
AllowedCallsJoin = (start : LinkSide) (calls more : List Call) → AreAllowedCalls start calls → AreAllowedCalls (after_calls start calls) more →
    AreAllowedCalls start (calls ++ more)

-- ---- The laws

-- What was written and then what is queued is the hello and then the encodings of the items, in order.
abbrev pub OutputIsItems : Type 0
OutputIsItems = (side : Side) (receives first_stag : ℕ) (terms : SideTerms) (earlier : Option Agreement) (calls : List Call) → AreAllowedCalls (initial_link side receives first_stag terms earlier) calls →
    let start = initial_link side receives first_stag terms earlier in
    let s = (after_calls start calls).state in
    bytes_written start calls ++ (s.send_queue.hello ++ s.send_queue.fpdus) ≡ own_output_hello s ++ items_encoding (items_queued start calls)

-- The Sends that have left are those of the items that were written completely, and the Sends that wait and the Read Responses owed are
-- those that weren't, by the number of bytes written. The count of Sends saturates at 2 ^ 64 - 1.
abbrev pub SendsGoByItems : Type 0
SendsGoByItems = (side : Side) (receives first_stag : ℕ) (terms : SideTerms) (earlier : Option Agreement) (calls : List Call) → AreAllowedCalls (initial_link side receives first_stag terms earlier) calls →
    let start = initial_link side receives first_stag terms earlier in
    let s = (after_calls start calls).state in
    s.send_queue.sends_left
    ≡ min (items_written is_send_item (length (own_output_hello s)) (length (bytes_written start calls)) (items_queued start calls)) (2 ^ 64 - 1)

abbrev pub SendsWaitByItems : Type 0
SendsWaitByItems = (side : Side) (receives first_stag : ℕ) (terms : SideTerms) (earlier : Option Agreement) (calls : List Call) → AreAllowedCalls (initial_link side receives first_stag terms earlier) calls →
    let start = initial_link side receives first_stag terms earlier in
    let s = (after_calls start calls).state in
    length s.send_queue.send_ends
    ≡ items_left is_send_item (length (own_output_hello s)) (length (bytes_written start calls)) (items_queued start calls)

abbrev pub ResponsesGoByItems : Type 0
ResponsesGoByItems = (side : Side) (receives first_stag : ℕ) (terms : SideTerms) (earlier : Option Agreement) (calls : List Call) → AreAllowedCalls (initial_link side receives first_stag terms earlier) calls →
    let start = initial_link side receives first_stag terms earlier in
    let s = (after_calls start calls).state in
    length s.send_queue.response_ends
    ≡ items_left is_response_item (length (own_output_hello s)) (length (bytes_written start calls)) (items_queued start calls)

-- A side has bounds: on the Read Requests that are open and on the Read Responses that it owes; and each receive is free, has a begun Send
-- or a message that waits, or is lent.
pub record IsBounded (opened : ℕ) (s : LinkState) : Type 0 where
  pub reads : length s.reads ≤ open_reads_max
  pub responses : length s.send_queue.response_ends ≤ open_reads_max
  pub sum : receives_kept s.receive_queue + s.receive_queue.lent ≡ opened
  pub same : s.receive_queue.receives ≡ opened

abbrev pub SidesStayBounded : Type 0
SidesStayBounded = (side : Side) (receives first_stag : ℕ) (terms : SideTerms) (earlier : Option Agreement) (calls : List Call) → AreAllowedCalls (initial_link side receives first_stag terms earlier) calls →
    IsBounded receives (after_calls (initial_link side receives first_stag terms earlier) calls).state

-- A side that awaits an FPDU and hasn't ended has accepted the peer's hello.
abbrev pub FpdusFollowHello : Type 0
FpdusFollowHello = (side : Side) (receives first_stag : ℕ) (terms : SideTerms) (earlier : Option Agreement) (calls : List Call) →
    let link = after_calls (initial_link side receives first_stag terms earlier) calls in
    has_ended link.state ≡ false → link.awaited ≡ Fpdu → link.state.has_hello ≡ true
