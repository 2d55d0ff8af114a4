-- That a drain ends: each step that moves something leaves less work.
use Rattle.std.specs.Prelude.{◌≡◌, ◌≢◌, ℕ, ◌-◌, ◌<◌, true, false, List, [], ◌++◌, length, Some}
use Rattle.std.specs.List.{AllByRecursion}
use Rattle.nr_xdr.specs.Item.{IsBytes}
use Rattle.nr_wire.specs.declared.hello.Side.TheVariants.{Initiator, Responder}
use Rattle.nr_link.specs.Frames.{frames_of}
use Rattle.nr_reduce.specs.History.{bytes_sent, bytes_received, is_dropped}
use Rattle.nr_reduce.specs.declared.mark.LinkParameters.{LinkParameters}
use Rattle.nr_reduce.specs.KeepsCalls.{KeepsCalls}
use Rattle.nr_reduce.specs.NumberedJournal.{entries_alone, number_heard}
use Rattle.nr_reduce.specs.ServerState.{ReadyCall}
use Rattle.nr_reduce.specs.Asked.{Asked}
use Rattle.nr_reduce.specs.Served.{Served, next_call}
use Rattle.nr_reduce.specs.Matched.{Matched}
use Rattle.nr_laws.specs.Grant.{AcceptsByRule}
use Rattle.nr_laws.specs.Typed.{IsTypedCall, IsTyped}
use Rattle.nr_script.specs.declared.script.Line.{Line}
use Rattle.nr_script.specs.Script.{ScriptLines, IsScript}
use Rattle.nr_drill.specs.Drill.{SerialServer, Setting, Drill, GivenReply, now, waiting_call, reply_given, journal_of, pipes_of, empty_pipes, setting_now}
use Rattle.nr_drill.specs.Follows.{Drains, MakeAll, setting_of, opened_drill}
use Rattle.nr_drill.specs.Lines.{IsClient, HasNoRaw}
use Rattle.nr_drill.specs.InBytes.{ExecutedInBytes}
use Rattle.nr_drill.specs.WorkLeft.{DrainStep, after_step, work_left, IsLess}
use Rattle.nr_drill.specs.DrainSteps.{Moves}
use Rattle.nr_reduce.specs.Opening.{IsOpened}
use Rattle.nr_reduce.specs.Plans.{HasWordPosition}
use Rattle.nr_reduce.specs.ClientState.{call_payload}
use Rattle.nr_reduce.specs.declared.mark.ResumedCall.{ResumedCall}

-- The state of a link of a drill before and after each step: both sides keep their laws and have written what was due; what each received and
-- what waits is what the other sent, until the link is dropped, and then nothing waits; each side has the hello of the other, and so the server the
-- number of the client.
pub record IsRunning (s : Setting) (link : ℕ) (d : Drill) : Type 0 where
  pub asked : Asked (s.opened link) link d.marks
  pub served : Served (s.opened link) link d.marks
  pub accepts : AcceptsByRule (s.opened link) link d.marks
  pub matched : Matched link d.marks
  pub room : link - 1 < length d.pipes
  pub up : is_dropped link d.marks ≡ false → bytes_received link Responder d.marks ++ (pipes_of link d).up ≡ bytes_sent link Initiator d.marks
  pub down : is_dropped link d.marks ≡ false → bytes_received link Initiator d.marks ++ (pipes_of link d).down ≡ bytes_sent link Responder d.marks
  pub gone : is_dropped link d.marks ≡ true → pipes_of link d ≡ empty_pipes
  pub client_heard : frames_of Responder (bytes_received link Initiator d.marks) ≢ []
  pub server_heard : frames_of Initiator (bytes_received link Responder d.marks) ≢ []
  pub number : number_heard d.marks link ≡ (s.opened link).client.number

-- On a link that runs, and was opened in range, a step that moves something leaves less work. On a link with bytes that a script put there it
-- needn't: what is read as a Read Response by its client may be read as a Send by its server.
abbrev pub StepsLeaveLess : Type 0
StepsLeaveLess = (s : Setting) (link : ℕ) (step : DrainStep) (old : Drill) → IsOpened (s.opened link) → IsRunning s link old → Moves s link step old → IsTyped (after_step s link step old).marks →
    IsLess (work_left s (after_step s link step old) link) (work_left s old link)

-- the server has a reply to each call that waits, if that is executed as a new one, whatever the links were opened with
abbrev pub AnswersCalls : Setting → Type 0
AnswersCalls s = (opened : ℕ → LinkParameters) (link : ℕ) (d : Drill) (call : ReadyCall) → next_call (opened link) link d.marks ≡ Some call →
    (reply : List ℕ) × (s.server.reply_to (entries_alone (journal_of s d.marks)) (now d) call.payload ≡ Some reply)

-- what a call that waits on a link of a drill is answered with is bytes
abbrev pub AnswersInBytesAt : Setting → ℕ → Drill → Type 0
AnswersInBytesAt s link d = (call : ReadyCall) (g : GivenReply) → waiting_call s link d.marks ≡ Some call → reply_given s link d call ≡ Some g → IsBytes g.reply

-- It is so on each link of each drill whose marks are of their types, and whose executed payloads are bytes, whatever the links were opened with.
abbrev pub AnswersInBytes : Setting → Type 0
AnswersInBytes s = (opened : ℕ → LinkParameters) (link : ℕ) (d : Drill) → IsTyped d.marks → ExecutedInBytes d.marks → AnswersInBytesAt (record s { opened = opened }) link d

-- a call that is sent again is of its types
abbrev pub IsTypedAgain : ResumedCall → Type 0
IsTypedAgain r = IsBytes (call_payload r.xid r.call) × HasWordPosition r.form × IsTypedCall r.call

-- What a step of a drain writes down on a link that runs, and was opened in range, is of its types, if what its client sends again is, and a reply to a
-- call that waits there is bytes.
abbrev pub StepsKeepTypes : Type 0
StepsKeepTypes = (s : Setting) (link : ℕ) (step : DrainStep) (d : Drill) → IsOpened (s.opened link) → AllByRecursion IsTypedAgain (s.opened link).resumed → IsRunning s link d → AnswersInBytesAt s link d → IsTyped d.marks → IsTyped (after_step s link step d).marks

-- After any of the first lines of a script, if none of these is a `raw` line, a drain ends: after a number of rounds nothing moves on any link.
-- A server of clients that have numbers has to keep enough of each call, so that a call that is sent again has a reply.
abbrev pub DrainsEnd : Type 0
DrainsEnd = (server : SerialServer) (script : ScriptLines) → IsScript script → (script.opening.numbered ≡ true → KeepsCalls server.reply_to server.adds) →
    AnswersInBytes (setting_of server script.opening) → AnswersCalls (setting_of server script.opening) →
    (before after : List Line) → script.lines ≡ before ++ after → ((client : ℕ) → IsClient script client → HasNoRaw before client) → (mid : Drill) →
    MakeAll (setting_of server script.opening) script.opening.clients before (opened_drill server script.opening) mid →
    (rounds : ℕ) × (new : Drill) × Drains (setting_now (setting_of server script.opening) mid) mid.last_links rounds mid new
