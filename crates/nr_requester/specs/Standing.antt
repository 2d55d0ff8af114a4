-- The marks that a requester stands for.
use Rattle.std.specs.Prelude.{◌≡◌, ℕ, ◌+◌, ◌≤◌, Bool, true, false, not, ◌==◌, List, [], ◌∷◌, ◌++◌, length, map, None}
use Rattle.nr_wire.specs.declared.hello.Side.TheVariants.{Initiator}
use Rattle.nr_link.specs.Output.{msn_word}
use Rattle.nr_link.specs.KeptSends.{received_within}
use Rattle.nr_endpoint.specs.Hellos.{receive_length_for}
use Rattle.nr_endpoint.specs.LinkState.{LinkState}
use Rattle.nr_endpoint.specs.ReceiveQueue.{sends_begun}
use Rattle.nr_endpoint.specs.SendQueue.{ends_left}
use Rattle.nr_reduce.specs.declared.mark.LinkParameters.{LinkParameters}
use Rattle.nr_reduce.specs.declared.mark.Mark.{Mark}
use Rattle.nr_reduce.specs.declared.mark.Mark.TheVariants as marks
use Rattle.nr_reduce.specs.Written.{ends_waiting}
use Rattle.nr_reduce.specs.ClientState.{ClientState, WaitingCall}
use Rattle.nr_reduce.specs.Plans.{call_message}
use Rattle.nr_reduce.specs.Client.{calls_output, call_ends}
use Rattle.nr_reduce.specs.History.{AcceptedCall, accepted_calls, bytes_received}
use Rattle.nr_reduce.specs.Events.{events}
use Rattle.nr_reduce.specs.EndRules.{live}
use Rattle.nr_reduce.specs.KeptClient.{CanResume}
use Rattle.nr_reduce.specs.Run.{client}
use Rattle.nr_reduce.specs.Standing.{ClientRepresents, ClientRunsOut}
use Rattle.nr_requester.specs.RequesterState.{RequesterSide, queue_of, kept_client, input_kept}
use Rattle.nr_requester.specs.KeptAnswers.{is_due, KeepsAnswers}
use Rattle.nr_requester.specs.CountedMarks.{counted_marks}
use Rattle.nr_reduce.specs.Opening.{IsFirstLink}

-- Messages of which some end at these offsets of all output, as a queue has them of which the first `written` bytes are gone, and that begins
-- with `hello` other bytes: those that haven't left, each with the bytes up to its end.
pub record HasEnds (written hello : ℕ) (all queued : List ℕ) : Type 0 where
  pub ends : queued ≡ ends_left (written + hello) all
  pub count : length queued ≡ ends_waiting written all

-- the offsets at which the Sends of a client end in its output: those of the calls that wait for the server's hello come first after what is due
abbrev pub sends_ends : Bool → LinkParameters → ClientState → List ℕ
sends_ends true opened k = k.send_ends
sends_ends false opened k = call_ends opened k.due 1 k.outstanding

-- the message of a call that waits to be sent again
abbrev pub waiting_message : LinkParameters → WaitingCall → List ℕ
waiting_message opened w = call_message w.xid opened.wished w.stag w.plan

-- The side of the link of a client in this state, which hasn't ended. It never reads; its one receive is free, or has a Send that is begun, and
-- what is agreed for the server's Sends fits it.
-- Sends of calls that were accepted before the server's hello wait in the queue, and those of calls that wait to be sent again are held back.
pub record LinkKeeps (opened : LinkParameters) (s : LinkState) (k : ClientState) : Type 0 where
  pub side : s.side ≡ Initiator
  pub has_hello : s.has_hello ≡ k.has_hello
  pub receive_length : s.receive_queue.receive_length ≡ receive_length_for opened.client
  pub message_max : s.message_max ≡ k.down_max
  pub fits : k.down_max ≤ receive_length_for opened.client
  pub terms : s.terms ≡ opened.client
  pub received : s.receive_queue.received ≡ received_within (receive_length_for opened.client) k.received
  pub receive : s.receive_queue.free + sends_begun k.received.begun ≡ 1
  pub none_lent : s.receive_queue.lent ≡ 0
  pub none_waits : s.receive_queue.deliveries ≡ []
  pub no_reads : s.reads ≡ []
  pub number : s.send_queue.last_send ≡ msn_word k.sends
  pub waiting : k.has_hello ≡ false → s.send_queue.fpdus ≡ calls_output opened 1 k.outstanding
  pub none_due : k.has_hello ≡ false → (k.send_ends ≡ [])
  pub sends : HasEnds k.written (length s.send_queue.hello) (sends_ends k.has_hello opened k) s.send_queue.send_ends
  pub responses : HasEnds k.written (length s.send_queue.hello) k.response_ends s.send_queue.response_ends
  pub left : s.send_queue.sends_left + length s.send_queue.send_ends ≡ k.sends
  pub numbered : length (sends_ends k.has_hello opened k) ≡ k.sends
  pub held : s.send_queue.held ≡ map (waiting_message opened) k.waiting
  pub greeted : k.has_hello ≡ not (s.place == 0)
  pub granted : k.has_hello ≡ false → k.grant ≡ 1
  pub client_terms : k.terms ≡ opened.client

-- A requester that hasn't run out of memory keeps the client of these marks: what that client asks for; its input is what they fed to it,
-- until it has ended; and its queue is the output that is due by them and isn't written. Its link may be one that was reopened: then the calls
-- with which that was opened could be sent again.
pub record KeepsClient (opened : LinkParameters) (link : ℕ) (h : RequesterSide) (run : List Mark) : Type 0 where
  pub wished : h.state.wished ≡ opened.wished
  pub resumes : CanResume opened.resumed opened.first_xid
  pub kept : ClientRepresents opened link (kept_client h.state) (input_kept h) (queue_of h.state) run
  pub sent : h.state.side.ended ≡ None → h.state.sent ≡ h.state.side.send_queue.sends_left
  pub side : h.state.side.ended ≡ None → LinkKeeps opened h.state.side (client opened link run).state

-- the answers that it keeps are those of these marks, with some calls before those that these accept
abbrev pub AnswersWith : List AcceptedCall → LinkParameters → ℕ → RequesterSide → List Mark → Type 0
AnswersWith calls opened link h run = KeepsAnswers opened (events link Initiator run) (is_due link run) (calls ++ accepted_calls link run) h.state

abbrev pub AnswersAfter : LinkParameters → ℕ → RequesterSide → List Mark → Type 0
AnswersAfter opened link h run = AnswersWith [] opened link h run

-- It stands for these marks of its link, which was not reopened: it keeps their client and their answers, and counts them.
pub record RequesterRepresents (opened : LinkParameters) (link : ℕ) (h : RequesterSide) (run : List Mark) : Type 0 where
  pub keeps : KeepsClient opened link h run
  pub first : IsFirstLink opened
  pub answers : AnswersAfter opened link h run
  pub counted : h.marks ≡ counted_marks link run

-- A requester that ran out of memory while it was fed stands for these marks. When it stopped, after the marks `stopped`, it hadn't ended. Since
-- then it was fed nothing more: of the piece at which it stopped these marks have the bytes up to the frame for which memory ran out, and what
-- was fed after these is no mark. So the client of the marks is still as it was then, but for what was written since.
pub record RequesterRunsOut (opened : LinkParameters) (link : ℕ) (h : RequesterSide) (stopped run : List Mark) : Type 0 where
  pub out : ClientRunsOut opened link (kept_client h.state) (queue_of h.state) stopped run
  pub received : bytes_received link Initiator run ≡ bytes_received link Initiator stopped
  pub written : ℕ
  pub same : client opened link run ≡ live (record (client opened link stopped).state { written = written })
  pub answers : AnswersAfter opened link h run
  pub counted : h.marks ≡ counted_marks link run

-- For every list of marks that the first one stood for, the second stands for that list with one mark more.
abbrev pub StandsOn : RequesterSide → (ℕ → Mark) → RequesterSide → Type 0
StandsOn before mark after = (opened : LinkParameters) (link : ℕ) (run : List Mark) → RequesterRepresents opened link before run → RequesterRepresents opened link after (run ++ mark link ∷ [])

-- The same of one that ran out of memory.
abbrev pub StaysOut : RequesterSide → (ℕ → Mark) → RequesterSide → Type 0
StaysOut before mark after = (opened : LinkParameters) (link : ℕ) (stopped run : List Mark) → RequesterRunsOut opened link before stopped run → RequesterRunsOut opened link after stopped (run ++ mark link ∷ [])

-- One that ran out of memory stands on for a revoke, as if the revoke had come before it stopped.
abbrev pub StopsRevoked : RequesterSide → ℕ → List ℕ → RequesterSide → Type 0
StopsRevoked before xid bytes after = (opened : LinkParameters) (link : ℕ) (stopped run : List Mark) → RequesterRunsOut opened link before stopped run →
    RequesterRunsOut opened link after (stopped ++ marks.Revoke link xid bytes ∷ []) (run ++ marks.Revoke link xid bytes ∷ [])
