-- What a piece of the client's stream makes of a responder.
use Rattle.std.specs.Prelude.{◌≡◌, ◌≢◌, ℕ, List, [], ◌++◌, map, take, drop, Some, None, Result, Ok, Err, true, ◌⊎◌}
use Rattle.nr_wire.specs.Segment.{Segment}
use Rattle.nr_wire.specs.Stream.{is_whole, frame_len}
use Rattle.nr_link.specs.declared.end.End.TheVariants as ends
use Rattle.nr_link.specs.Frames.{Frame}
use Rattle.nr_link.specs.Input.{InputState, input_frames, input_after}
use Rattle.nr_link.specs.ReceiveState.{message_completed}
use Rattle.nr_link.specs.Ending.{frame_segment}
use Rattle.nr_endpoint.specs.LinkState.{LinkState, LinkSide}
use Rattle.nr_endpoint.specs.Judging.{next_frame}
use Rattle.nr_reduce.specs.declared.mark.LinkParameters.{LinkParameters}
use Rattle.nr_reduce.specs.Events.{RunEvent}
use Rattle.nr_reduce.specs.Events.RunEvent.{FrameReceived}
use Rattle.nr_reduce.specs.EndRules.{EndState, live, output_for, end_state_after, output_for_all}
use Rattle.nr_reduce.specs.ServerState.{PendingCall, ServerState}
use Rattle.nr_reduce.specs.ServerMessages.{verdict}
use Rattle.nr_reduce.specs.ServerMessages.Verdict.{MakesPending}
use Rattle.nr_reduce.specs.Server.{server_rules}
use Rattle.nr_responder.specs.ResponderState.{ResponderSide, queue, end_of}
use Rattle.nr_responder.specs.Fetching.{HasBytes}
use Rattle.nr_responder.specs.Granting.{grant}
use Rattle.nr_responder.specs.Heard.{Hears}
use Rattle.nr_responder.specs.Keeping.{KeepsEnd}

abbrev pub received_events : InputState → List ℕ → List RunEvent
received_events input piece = map FrameReceived (input_frames input piece)

-- It keeps the server after these events, and has queued what is due for them. Unless they end it, it knows where the last frame among them
-- began, and the number in a hello among them.
pub record GoesOn (opened : LinkParameters) (end : EndState ServerState) (input : InputState) (before : ResponderSide) (events : List RunEvent) (later : InputState) (after : ResponderSide) : Type 0 where
  pub keeps : KeepsEnd opened (end_state_after (server_rules opened) end events) later after
  pub output : queue after ≡ queue before ++ output_for_all (server_rules opened) end events
  pub heard : (end_state_after (server_rules opened) end events).ended ≡ None → Hears before.link.state events after.link.state

-- For every server of a run that it keeps, it keeps that server after the frames that the piece completes, and has queued what is due
-- for them.
abbrev pub FedOn : ResponderSide → List ℕ → ResponderSide → Type 0
FedOn before piece after = (opened : LinkParameters) (end : EndState ServerState) (input : InputState) → KeepsEnd opened end input before →
    GoesOn opened end input before (received_events input piece) (input_after input piece) after

-- ---- Where it may run out of memory

-- the Send that a frame completes makes a call pending of which something is to be read
pub record CompletesRead (k : ServerState) (f : Frame) : Type 0 where
  pub segment : Segment
  pub reads : frame_segment f ≡ Ok segment
  pub message : List ℕ
  pub completed : message_completed k.received segment ≡ Some message
  pub call : PendingCall
  pub judged : verdict k message ≡ MakesPending call
  pub bytes : HasBytes call.lists.read

-- the server has output of its own for a frame, or the frame completes the Send of a call of which something is to be read
abbrev pub TakesMemory : LinkParameters → ServerState → Frame → Type 0
TakesMemory opened k f = (output_for (server_rules opened) (live k) (FrameReceived f) ≢ []) ⊎ CompletesRead k f

-- the next frame of a side, which these bytes complete
abbrev pub frame_by : LinkSide → List ℕ → Frame
frame_by l bytes = next_frame l.state (take (frame_len l.awaited (l.rest ++ bytes)) (l.rest ++ bytes))

-- the calls of a side, those that are ready, and what it grants are as they were
pub record SameCalls (before after : ResponderSide) : Type 0 where
  pub calls : after.calls ≡ before.calls
  pub ready : after.ready ≡ before.ready
  pub credits : grant after.credits ≡ grant before.credits

-- its output and what is agreed are as they were
pub record KeepsOutput (before after : LinkState) : Type 0 where
  pub queue : after.send_queue ≡ before.send_queue
  pub agreed : after.agreed ≡ before.agreed

-- It ran out of memory within a piece: at a frame that takes memory, which the bytes after the first n complete. Until then it went
-- on, and its calls, its queue and what is agreed are as they were before that frame.
pub record ResponderRanOutAt (before : ResponderSide) (piece : List ℕ) (n : ℕ) (after : ResponderSide) : Type 0 where
  pub stopped : ResponderSide
  pub fed : FedOn before (take n piece) stopped
  pub live : end_of stopped ≡ None
  pub ended : end_of after ≡ Some ends.Memory
  pub same : SameCalls stopped after
  pub needs : (opened : LinkParameters) (end : EndState ServerState) (input : InputState) → KeepsEnd opened end input stopped →
      (is_whole stopped.link.awaited (stopped.link.rest ++ drop n piece) ≡ true) × (KeepsOutput stopped.link.state after.link.state × TakesMemory opened end.state (frame_by stopped.link (drop n piece)))

pub data Fed (before : ResponderSide) (piece : List ℕ) (after : ResponderSide) : Type 0 where
  WentOn : FedOn before piece after → Fed before piece after
  RanOut : (n : ℕ) → ResponderRanOutAt before piece n after → Fed before piece after

-- what a step took of a piece: all of it if the side has ended
abbrev pub taken_of : {E : Type 0} → Result ℕ E → List ℕ → List ℕ
taken_of (Ok n) piece = take n piece
taken_of (Err e) piece = piece
