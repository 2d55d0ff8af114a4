-- The drills that a link stands for.
use Rattle.std.specs.Prelude.{◌≡◌, ◌≢◌, ℕ, ◌+◌, ◌≤◌, ◌==◌, Bool, true, false, not, ◌&&◌, List, [], ◌∷◌, ◌++◌, map, length, Some}
use Rattle.std.specs.List.{flat_map, filter, list_any}
use Rattle.nr_reduce.specs.declared.call.Submission.{Submission}
use Rattle.nr_reduce.specs.declared.mark.LinkParameters.{LinkParameters}
use Rattle.nr_reduce.specs.declared.mark.Mark.{Mark}
use Rattle.nr_reduce.specs.ClientState.{WaitingCall}
use Rattle.nr_reduce.specs.History.{AcceptedCall, accepted_calls, is_dropped}
use Rattle.nr_reduce.specs.Run.{client}
use Rattle.nr_requester.specs.KeptAnswers.{is_due}
use Rattle.nr_requester.specs.RequesterState.{RequesterSide}
use Rattle.nr_requester.specs.ReopenedLinks.{RequesterKeeps}
use Rattle.nr_responder.specs.ResponderState.{end_of}
use Rattle.nr_responder.specs.Standing.{RepresentsServer}
use Rattle.nr_drill.specs.Drill.{link_of, Setting, Drill, pipes_of, answer_at, client_of, settles}
use Rattle.nr_world.specs.DrillLinkState.{AwaitedLine, DrillLinkState}
use Rattle.nr_link.specs.declared.end.End.TheVariants as ends
use Rattle.nr_reduce.specs.declared.call.Submission.TheVariants as submissions

-- ---- The call lines of a link's client

-- the answers to them, on all links of the client
abbrev pub answers_of : Setting → ℕ → List Mark → List Submission
answers_of s link run = flat_map (answer_at s (client_of s link)) run

-- the lines whose calls were accepted, if the first line has this index
abbrev pub accepted_line : ℕ → Submission → List AwaitedLine
accepted_line index (submissions.Accepted xid) = record { xid = xid; index = index } ∷ []
accepted_line index (submissions.Refused why) = []
accepted_line index submissions.Dropped = []

abbrev pub lines_from : ℕ → List Submission → List AwaitedLine
lines_from index [] = []
lines_from index (answer ∷ answers) = accepted_line index answer ++ lines_from (index + 1) answers

-- those whose calls are awaited: their outcome wasn't handed over, and they weren't given up, on any link of the client
abbrev pub is_awaited : Setting → ℕ → List Mark → AwaitedLine → Bool
is_awaited s link run line = not (list_any (settles s (client_of s link) line.xid) run)

unfoldable pub awaited_lines : Setting → ℕ → List Mark → List AwaitedLine
awaited_lines s link run = filter (is_awaited s link run) (lines_from 0 (answers_of s link run))

-- ---- The calls of a link

abbrev pub as_waiting : WaitingCall → AcceptedCall
as_waiting w = record { xid = w.xid; call = w.call; form = w.form }

-- those that wait to be sent again
abbrev pub waiting_calls : LinkParameters → ℕ → List Mark → List AcceptedCall
waiting_calls opened link run = map as_waiting (client opened link run).state.waiting

-- those that its client sent, and those that wait, in the order of their xids
abbrev pub link_calls : LinkParameters → ℕ → List Mark → List AcceptedCall
link_calls opened link run = accepted_calls link run ++ waiting_calls opened link run

-- those whose outcomes are or will be due
unfoldable pub due_calls : LinkParameters → ℕ → List Mark → List AcceptedCall
due_calls opened link run = filter (λ (a : AcceptedCall). is_due link run a.xid) (link_calls opened link run)

abbrev pub line_ids : List AwaitedLine → List ℕ
line_ids lines = map (λ (line : AwaitedLine). line.xid) lines

abbrev pub call_ids : List AcceptedCall → List ℕ
call_ids calls = map (λ (call : AcceptedCall). call.xid) calls

-- a mark of another link settles a call of the link's client
abbrev pub settles_elsewhere : Setting → ℕ → ℕ → Mark → Bool
settles_elsewhere s link xid mark = not (link_of mark == link) && settles s (client_of s link) xid mark

-- What a link knows of the calls of its client: how many lines there were, whose calls are awaited, these calls, which are those of the link that are or
-- will be due, and those that wait to be sent again.
pub record TracksCalls (s : Setting) (link : ℕ) (run : List Mark) (lines : ℕ) (awaited : List AwaitedLine) (calls waiting : List AcceptedCall) : Type 0 where
  pub lines_are : lines ≡ length (answers_of s link run)
  pub awaited_are : awaited ≡ awaited_lines s link run
  pub calls_are : calls ≡ due_calls (s.opened link) link run
  pub waiting_are : waiting ≡ waiting_calls (s.opened link) link run
  pub same_ids : call_ids calls ≡ line_ids awaited
  pub none_before : (xid : ℕ) → (s.opened link).first_xid ≤ xid → list_any (settles_elsewhere s link xid) run ≡ false

-- ---- The link

abbrev pub all_own : ℕ → Bool
all_own xid = true

-- A requester stands for the marks of its link, and all answers that it keeps came on this link.
abbrev pub StandsForClient : LinkParameters → ℕ → RequesterSide → List Mark → Type 0
StandsForClient opened link h run = (earlier : ℕ) × RequesterKeeps all_own earlier opened link h run

-- Its pipes are those of the drill, its ends stand for the drill's marks, and neither ran out of memory; it knows whether it was dropped, and the calls
-- of its client. The link is the last one of its client.
pub record LinkStands (s : Setting) (link : ℕ) (d : Drill) (v : DrillLinkState) : Type 0 where
  pub number : v.number ≡ link
  pub first : 1 ≤ link
  pub room : link ≤ length d.pipes
  pub pipes : v.pipes ≡ pipes_of link d
  pub dropped : v.is_dropped ≡ is_dropped link d.marks
  pub client : StandsForClient (s.opened link) link v.client d.marks
  pub server : RepresentsServer (s.opened link) link d.marks v.server
  pub client_memory : v.client.state.side.ended ≢ Some ends.Memory
  pub server_memory : end_of v.server ≢ Some ends.Memory
  pub tracks : TracksCalls s link d.marks v.lines v.awaited v.calls v.waiting
