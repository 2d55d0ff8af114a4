-- What a server offers: one sink for each read chunk with bytes of a call that isn't refused at its Send (RFC 5040 section 5.2; RFC 8166 section 3.4.5).
use Rattle.std.specs.Prelude.{◌≡◌, ℕ, false, List, [], ◌∷◌, ◌++◌, map, None, Some, Ok, ◌⊎◌, Contains}
use Rattle.nr_wire.specs.declared.hello.Side.TheVariants.{Responder}
use Rattle.nr_wire.specs.Segment.{Segment}
use Rattle.nr_link.specs.Frames.{Frame, is_hello}
use Rattle.nr_link.specs.ReceiveState.{message_completed}
use Rattle.nr_link.specs.Ending.{frame_segment}
use Rattle.nr_reduce.specs.declared.mark.Mark.{Mark}
use Rattle.nr_reduce.specs.declared.mark.LinkParameters.{LinkParameters}
use Rattle.nr_reduce.specs.Events.{RunEvent, events}
use Rattle.nr_reduce.specs.Events.RunEvent.{FrameReceived}
use Rattle.nr_reduce.specs.EndRules.{next_end_state, end_state_after}
use Rattle.nr_reduce.specs.OfferedRegions.{Region}
use Rattle.nr_reduce.specs.ServerState.{ServerState, PendingCall, PendingRead}
use Rattle.nr_reduce.specs.ServerReads.{regions_of}
use Rattle.nr_reduce.specs.ServerMessages.{verdict}
use Rattle.nr_reduce.specs.ServerMessages.Verdict.{MakesPending}
use Rattle.nr_reduce.specs.Server.{server_rules, initial_server}
use Rattle.nr_reduce.specs.Run.{server}
use Rattle.nr_reduce.specs.RunLaws.{server_by}
use Rattle.nr_reduce.specs.Served.{ServedSoFar}
use Rattle.nr_laws.specs.Typed.{IsTyped}

-- After these events a frame completes a Send, and its call is pending: the Send isn't refused, and the frame doesn't end the server.
pub record MakesCall (opened : LinkParameters) (earlier : List RunEvent) (frame : Frame) (call : PendingCall) : Type 0 where
  pub segment : Segment
  pub message : List ℕ
  pub stays : (next_end_state (server_rules opened) (end_state_after (server_rules opened) (initial_server opened) earlier) (FrameReceived frame)).ended ≡ None
  pub behind_hello : is_hello frame ≡ false
  pub is_segment : frame_segment frame ≡ Ok segment
  pub whole : message_completed (server_by opened earlier).received segment ≡ Some message
  pub is_pending : verdict (server_by opened earlier) message ≡ MakesPending call

-- a region is, but for its end, a read chunk of such a call, from the end of that frame on
pub record IsChunkOfFrame (opened : LinkParameters) (earlier : List RunEvent) (frame : Frame) (r : Region) : Type 0 where
  pub call : PendingCall
  pub is_made : MakesCall opened earlier frame call
  pub chunk : Contains (regions_of (server_by opened earlier) frame.end call) (record r { until = None })

-- that frame is among these events
pub record IsChunkOfSend (opened : LinkParameters) (received : List RunEvent) (r : Region) : Type 0 where
  pub earlier : List RunEvent
  pub later : List RunEvent
  pub frame : Frame
  pub is_received : received ≡ earlier ++ FrameReceived frame ∷ later
  pub own : IsChunkOfFrame opened earlier frame r

-- On every link, whatever the client sends, each region of a server is one. So its right is Sink, and its bytes are zeros as it is offered.
abbrev pub ServerRegionsAreChunks : Type 0
ServerRegionsAreChunks = (opened : LinkParameters) (link : ℕ) (run : List Mark) (r : Region) → Contains (server opened link run).state.regions r → IsChunkOfSend opened (events link Responder run) r

-- regions without their ends
abbrev pub without_end : Region → Region
without_end r = record r { until = None }

abbrev pub without_ends : List Region → List Region
without_ends regions = map without_end regions

-- Such a frame adds a region for each read chunk with bytes of its call, in the order of their first entries, after the existing ones.
abbrev pub SendsAddChunks : Type 0
SendsAddChunks = (opened : LinkParameters) (link : ℕ) (run : List Mark) (earlier later : List RunEvent) (frame : Frame) (call : PendingCall) →
    events link Responder run ≡ earlier ++ FrameReceived frame ∷ later → MakesCall opened earlier frame call →
    without_ends (server_by opened (earlier ++ FrameReceived frame ∷ [])).regions ≡ without_ends (server_by opened earlier).regions ++ regions_of (server_by opened earlier) frame.end call

-- Any other event adds none.
abbrev pub NothingElseAddsRegions : Type 0
NothingElseAddsRegions = (opened : LinkParameters) (link : ℕ) (run : List Mark) (earlier later : List RunEvent) (event : RunEvent) →
    events link Responder run ≡ earlier ++ event ∷ later → ((frame : Frame) (call : PendingCall) → event ≡ FrameReceived frame → MakesCall opened earlier frame call → ⊥) →
    without_ends (server_by opened (earlier ++ event ∷ [])).regions ≡ without_ends (server_by opened earlier).regions

-- A region that is closed doesn't change.
abbrev pub ClosedRegionsStay : Type 0
ClosedRegionsStay = (opened : LinkParameters) (link : ℕ) (run : List Mark) (earlier later : List RunEvent) (r : Region) (place : ℕ) → events link Responder run ≡ earlier ++ later →
    Contains (server_by opened earlier).regions r → r.until ≡ Some place → Contains (server opened link run).state.regions r

-- the call of this number is pending
pub record IsPendingNumber (k : ServerState) (number : ℕ) : Type 0 where
  pub call : PendingCall
  pub there : Contains k.calls call
  pub own : call.number ≡ number

-- Something is left to be read for a region: a read of its call, if that is pending; else a read of its chunk.
pub record HasReadLeft (k : ServerState) (r : Region) : Type 0 where
  pub read : PendingRead
  pub is_left : Contains k.reads read
  pub own : read.number ≡ r.call
  pub of_chunk : IsPendingNumber k r.call ⊎ (read.position ≡ r.position)

-- On every link whose server keeps its law so far, whatever the client sends: a region that isn't closed has a read left.
abbrev pub LiveServerRegionsAreRead : Type 0
LiveServerRegionsAreRead = (opened : LinkParameters) (link : ℕ) (run : List Mark) (earlier later : List RunEvent) (r : Region) → IsTyped run → ServedSoFar opened link run → events link Responder run ≡ earlier ++ later →
    Contains (server_by opened earlier).regions r → r.until ≡ None → HasReadLeft (server_by opened earlier) r

-- A frame closes a region: it was offered before that frame, or is from it on, and after that frame it has no read left.
pub record IsClosedAt (opened : LinkParameters) (received : List RunEvent) (r : Region) (place : ℕ) : Type 0 where
  pub earlier : List RunEvent
  pub later : List RunEvent
  pub frame : Frame
  pub is_received : received ≡ earlier ++ FrameReceived frame ∷ later
  pub ends_there : frame.end ≡ place
  pub was_live : Contains (server_by opened earlier).regions (record r { until = None }) ⊎ IsChunkOfFrame opened earlier frame r
  pub nothing_left : HasReadLeft (server_by opened (earlier ++ FrameReceived frame ∷ [])) r → ⊥

-- On every link, whatever the client sends, a region is closed only so, at the end of that frame.
abbrev pub ServerRegionsCloseWhenRead : Type 0
ServerRegionsCloseWhenRead = (opened : LinkParameters) (link : ℕ) (run : List Mark) (r : Region) (place : ℕ) → Contains (server opened link run).state.regions r → r.until ≡ Some place →
    IsClosedAt opened (events link Responder run) r place
