-- What is done of a call: it is answered, or told to be old, or noted as sent again.
use Rattle.std.specs.Prelude.{◌≡◌, ◌≢◌, ℕ, ◌-◌, false, List, [], ◌∷◌, ◌++◌, length, map, take, drop, Option, None, Some}
use Rattle.nr_link.specs.declared.end.End.{End}
use Rattle.nr_outside.specs.declared.moment.Moment.{Moment}
use Rattle.nr_reduce.specs.declared.mark.LinkParameters.{LinkParameters}
use Rattle.nr_reduce.specs.declared.mark.Mark.{Mark}
use Rattle.nr_reduce.specs.declared.mark.Told.TheVariants.{Old}
use Rattle.nr_reduce.specs.History.{AcceptedCall}
use Rattle.nr_reduce.specs.Served.{IsExecuted, last_frame_at}
use Rattle.nr_responder.specs.ResponderState.{ResponderSide, end_of}
use Rattle.nr_responder.specs.Standing.{ResponderRepresents}
use Rattle.nr_drill.specs.Drill.{empty_pipes}
use Rattle.nr_world.specs.declared.server.Execution.{Execution}
use Rattle.nr_world.specs.DrillLinkState.{DrillLinkState}
use Rattle.nr_world.specs.DrillServers.{at_second}
use Rattle.nr_link.specs.declared.end.End.TheVariants as ends
use Rattle.nr_reduce.specs.declared.call.Submission.TheVariants as submissions
use Rattle.nr_reduce.specs.declared.mark.Mark.TheVariants as marks

-- the link with another server
abbrev pub with_server : DrillLinkState → ResponderSide → DrillLinkState
with_server v server = record v { server = server }

-- The next call was executed: its answer is queued.
pub record AnswersWith (call : ℕ) (payload : List ℕ) (e : Execution) (before after : DrillLinkState) (run run' : List Mark) : Type 0 where
  pub server : ResponderSide
  pub live : end_of server ≡ None
  pub stands : (opened : LinkParameters) (link : ℕ) (so_far : List Mark) (moment : Moment) (given : List ℕ) (place : ℕ) → ResponderRepresents opened link so_far before.server → IsExecuted opened link so_far call given →
      ResponderRepresents opened link (so_far ++ marks.Execute link call moment given place e.reply ∷ []) server
  pub link_is : after ≡ with_server before server
  pub marks_are : run' ≡ run ++ marks.Execute before.number call (at_second e.second) payload e.place e.reply ∷ []

-- The next call was found old: the server has ended, at the last complete frame that it received.
pub record TellsOld (call : ℕ) (before after : DrillLinkState) (run run' : List Mark) : Type 0 where
  pub server : ResponderSide
  pub at : ℕ
  pub has_memory : end_of server ≢ Some ends.Memory
  pub last : (opened : LinkParameters) (link : ℕ) (so_far : List Mark) → ResponderRepresents opened link so_far before.server → at ≡ last_frame_at link so_far
  pub stands : (opened : LinkParameters) (link : ℕ) (so_far : List Mark) (xid : ℕ) → ResponderRepresents opened link so_far before.server →
      ResponderRepresents opened link (so_far ++ marks.Told link (Old xid (last_frame_at link so_far)) ∷ []) server
  pub link_is : after ≡ with_server before server
  pub marks_are : run' ≡ run ++ marks.Told before.number (Old call at) ∷ []

-- ---- Calls that are sent again

-- the mark of a call that is sent again
abbrev pub again_mark : ℕ → AcceptedCall → Mark
again_mark link a = marks.Submit link a.call a.form (submissions.Accepted a.xid)

-- how many of the calls that waited don't wait any more; a client that has ended sends none
abbrev pub resends_of : Option End → (waited waiting : ℕ) → ℕ
resends_of (Some end) waited waiting = 0
resends_of None waited waiting = waited - waiting

abbrev pub resends_in : DrillLinkState → ℕ
resends_in v = resends_of v.client.state.side.ended (length v.waiting) (length v.client.state.side.send_queue.held)

-- a mark for each of the first calls, so that as many wait as say so
abbrev pub NotesFirst : (link waiting : ℕ) → (before after : List AcceptedCall) → (run run' : List Mark) → Type 0
NotesFirst link waiting before after run run' =
    (after ≡ drop (length before - waiting) before) × (run' ≡ run ++ map (again_mark link) (take (length before - waiting) before))

pub record NotesResends (before after : DrillLinkState) (run run' : List Mark) : Type 0 where
  pub link_is : after ≡ record before { waiting = drop (resends_in before) before.waiting }
  pub marks_are : run' ≡ run ++ map (again_mark before.number) (take (resends_in before) before.waiting)

-- ---- The next link begins

-- the link with this number, this server, and these calls that wait
abbrev pub begun_link : DrillLinkState → (number : ℕ) → ResponderSide → (waiting : List AcceptedCall) → DrillLinkState
begun_link v number server waiting = record {
  number = number;
  client = v.client;
  server = server;
  pipes = empty_pipes;
  is_dropped = false;
  lines = v.lines;
  awaited = v.awaited;
  calls = v.calls;
  waiting = waiting;
}
