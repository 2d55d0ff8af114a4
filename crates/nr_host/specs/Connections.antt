-- What one connection of a server did: its marks, and what they say of the link, of the journal and of the clock.
use Rattle.std.specs.Prelude.{◌≡◌, ◌≢◌, ⊤, ℕ, ◌+◌, ◌⊎◌, Bool, true, false, List, [], ◌∷◌, ◌++◌, length, map, Option, None, Some, is_some}
use Rattle.std.specs.List.{flat_map}
use Rattle.std.specs.Io.KnownBytes.{Appends}
use Rattle.nr_outside.specs.Content.{HandsOut}
use Rattle.nr_outside.specs.Faults.{Rises}
use Rattle.nr_outside.specs.declared.moment.Moment.{Moment}
use Rattle.nr_wire.specs.declared.hello.Side.TheVariants.{Initiator, Responder}
use Rattle.nr_link.specs.Frames.{frames_completed, frames_of}
use Rattle.nr_link.specs.Input.{input_of}
use Rattle.nr_link.specs.Agreement.{terms_with}
use Rattle.nr_reduce.specs.Opening.{ServerOpened}
use Rattle.nr_reduce.specs.declared.mark.Mark.{Mark}
use Rattle.nr_reduce.specs.declared.mark.Mark.TheVariants as marks
use Rattle.nr_reduce.specs.declared.mark.Told.TheVariants.{Old}
use Rattle.nr_reduce.specs.declared.mark.LinkParameters.{LinkParameters}
use Rattle.nr_reduce.specs.AtEachMark.{AtEachMark}
use Rattle.nr_reduce.specs.History.{bytes_sent, bytes_received}
use Rattle.nr_reduce.specs.Matched.{IsPrefixOf}
use Rattle.nr_reduce.specs.Run.{HasWritten, server}
use Rattle.nr_reduce.specs.Served.{ServedSoFar, next_call}
use Rattle.nr_reduce.specs.NumberedJournal.{number_heard}
use Rattle.nr_plain.specs.History.{Answered, PassView}
use Rattle.nr_host.specs.Turns.{Handled, Taken, Turn, given_for, handled_at}
use Rattle.nr_host.specs.Turns.Handled.{AnsweredCall, RefusedCall}
use Rattle.nr_host.specs.declared.connection_limits.ConnectionLimits.{ConnectionLimits}

-- a link's server was opened with these limits
abbrev pub IsOpenedWith : ConnectionLimits → LinkParameters → Type 0
IsOpenedWith limits opened = ServerOpened opened limits.credits limits.low (terms_with limits.units limits.invalidates)

-- a mark of the server's side of this link
abbrev pub IsOwn : ℕ → Mark → Type 0
IsOwn link (marks.Fed l Responder bytes) = l ≡ link
IsOwn link (marks.Wrote l Responder bytes) = l ≡ link
IsOwn link (marks.Execute l xid moment payload place reply) = l ≡ link
IsOwn link (marks.Told l (Old xid at)) = l ≡ link
IsOwn link mark = ⊥

-- the calls that were answered, in order
abbrev pub answer_of : Mark → List Answered
answer_of (marks.Execute l xid moment payload place reply) = record { moment = moment; payload = payload; place = place; reply = reply } ∷ []
answer_of mark = []

unfoldable pub answers_of : List Mark → List Answered
answers_of run = flat_map answer_of run

-- what was made of the calls whose turn came, in order: they were answered, or refused since they are old
abbrev pub handled_by : Mark → List Handled
handled_by (marks.Execute l xid moment payload place reply) = AnsweredCall (record { moment = moment; payload = payload; place = place; reply = reply }) ∷ []
handled_by (marks.Told l (Old xid at)) = RefusedCall xid ∷ []
handled_by mark = []

unfoldable pub handled_in : List Mark → List Handled
handled_in run = flat_map handled_by run

-- the xids of those that were refused, in order
abbrev pub refusal_of : Mark → List ℕ
refusal_of (marks.Told l (Old xid at)) = xid ∷ []
refusal_of mark = []

unfoldable pub refusals_of : List Mark → List ℕ
refusals_of run = flat_map refusal_of run

-- all output that is due is written, and every call that became complete is executed
pub record IsQuiet (opened : LinkParameters) (link : ℕ) (run : List Mark) : Type 0 where
  pub written : HasWritten opened link Responder run
  pub executed : next_call opened link run ≡ None

-- so it is before each piece of the client's stream
abbrev pub QuietMark : LinkParameters → ℕ → List Mark → Mark → Type 0
QuietMark opened link before (marks.Fed l side bytes) = IsQuiet opened link before
QuietMark opened link before mark = ⊤

-- Before each Wrote every call that became complete is executed: nothing is written between a piece and the calls that
-- it completes.
abbrev pub WriteMark : LinkParameters → ℕ → List Mark → Mark → Type 0
WriteMark opened link before (marks.Wrote l side bytes) = next_call opened link before ≡ None
WriteMark opened link before mark = ⊤

-- These bytes after those complete no frame, or one frame, with which they end.
abbrev pub EndsWithItsFrame : (before bytes : List ℕ) → Type 0
EndsWithItsFrame before bytes =
    (frames_completed Initiator before bytes ≡ [])
    ⊎ ((length (frames_completed Initiator before bytes) ≡ 1) × ((input_of Initiator (before ++ bytes)).rest ≡ []))

-- so does each piece, until the side has ended: what is fed after that is not judged
abbrev pub FrameMark : LinkParameters → ℕ → List Mark → Mark → Type 0
FrameMark opened link before (marks.Fed l side bytes) =
    EndsWithItsFrame (bytes_received link Responder before) bytes ⊎ (is_some (server opened link before).ended ≡ true)
FrameMark opened link before mark = ⊤

-- what is known of the sink of a connection: the bytes that it took, and its fault count; and whether a write of the
-- connection failed
pub record SinkState : Type 0 where
  pub taken : Option (List ℕ)
  pub faults : ℕ
  pub failed : Bool

-- A sink took these bytes. If a write failed, its count rose, and it took the first of them.
abbrev pub TakesUntil : Bool → SinkState → SinkState → List ℕ → Type 0
TakesUntil false before after bytes = (after.faults ≡ before.faults) × Appends before.taken after.taken bytes
TakesUntil true before after bytes =
    Rises before.faults after.faults × ((took : List ℕ) × (IsPrefixOf took bytes × Appends before.taken after.taken took))

abbrev pub Takes : SinkState → SinkState → List ℕ → Type 0
Takes before after bytes = TakesUntil after.failed before after bytes

-- a clock gave these moments, in order, if it is known what it gave
abbrev pub GivesAll : Option (List Moment) → Option (List Moment) → List Moment → Type 0
GivesAll before None given = ⊤
GivesAll before (Some after) given = (earlier : List Moment) × (before ≡ Some earlier) × (after ≡ earlier ++ given)

-- what is known of the source, the sink and the clock of a connection, and what its pass knows
pub record Outside : Type 0 where
  pub left : Option (List ℕ)
  pub given : Option (List ℕ)
  pub sink : SinkState
  pub gave : Option (List Moment)
  pub view : PassView

-- The connection made these marks, after it had read the bytes that they fed and `ahead`, in all `read`. It took these turns for the client whose
-- number its hello says, each for a call that was answered or refused, in the order of the marks, and none before the hello was received. The
-- clock had given the moments of these turns and `more`.
pub record Runs (limits : ConnectionLimits) (read link : ℕ) (before after : Outside) (ahead : List ℕ) (more : List Moment) (run : List Mark) : Type 0 where
  pub own : AtEachMark (λ earlier mark. IsOwn link mark) [] run
  pub handed : HandsOut before.left before.given after.left after.given (bytes_received link Responder run ++ ahead)
  pub taken : Takes before.sink after.sink (bytes_sent link Responder run)
  pub served : (opened : LinkParameters) → IsOpenedWith limits opened → ServedSoFar opened link run
  pub quiet : (opened : LinkParameters) → IsOpenedWith limits opened → AtEachMark (QuietMark opened link) [] run
  pub writes : (opened : LinkParameters) → IsOpenedWith limits opened → AtEachMark (WriteMark opened link) [] run
  pub frames : (opened : LinkParameters) → IsOpenedWith limits opened → AtEachMark (FrameMark opened link) [] run
  pub turns : List Turn
  pub handled : map handled_at turns ≡ handled_in run
  pub over : Taken (number_heard run link) before.view turns after.view
  pub greeted : turns ≢ [] → frames_of Initiator (bytes_received link Responder run) ≢ []
  pub gave : GivesAll before.gave after.gave (map given_for turns ++ more)
  pub count : length (bytes_received link Responder run) + length ahead ≡ read
