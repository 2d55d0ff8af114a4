-- The law of a link's server: which calls it executes, what it may be told, and what it writes.
use Rattle.std.specs.Prelude.{◌≡◌, ◌≢◌, ℕ, ◌≤◌, List, [], ◌∷◌, ◌++◌, Option, None, Some, slice_get}
use Rattle.nr_wire.specs.declared.hello.Side.TheVariants.{Initiator, Responder}
use Rattle.nr_link.specs.declared.end.End.{End}
use Rattle.nr_reduce.specs.declared.mark.Mark.{Mark}
use Rattle.nr_reduce.specs.declared.mark.Mark.TheVariants as marks
use Rattle.nr_reduce.specs.declared.mark.LinkParameters.{LinkParameters}
use Rattle.nr_reduce.specs.declared.mark.Told.{Told}
use Rattle.nr_reduce.specs.declared.mark.Told.TheVariants.{Granted, Old}
use Rattle.nr_link.specs.Frames.{Frame, frames_of}
use Rattle.nr_reduce.specs.History.{bytes_sent, bytes_received}
use Rattle.nr_reduce.specs.ServerState.{ReadyCall}
use Rattle.nr_reduce.specs.Run.{server, output_due, HasWritten}
use Rattle.nr_reduce.specs.Matched.{IsPrefixOf}
use Rattle.nr_reduce.specs.NumberedJournal.{number_heard}
use Rattle.nr_reduce.specs.Asked.{IsAll}
use Rattle.nr_reduce.specs.AtEachMark.{AtEachMark}

-- the first call that became complete and isn't executed; a server that ended executes nothing
abbrev pub first_ready : List ReadyCall → Option End → Option ReadyCall
first_ready ready (Some end) = None
first_ready ready None = slice_get ready 0

unfoldable pub next_call : LinkParameters → ℕ → List Mark → Option ReadyCall
next_call opened link run = first_ready (server opened link run).state.ready (server opened link run).ended

-- A call is executed: the next one, with the payload that its Send conveyed.
pub record IsExecuted (opened : LinkParameters) (link : ℕ) (before : List Mark) (xid : ℕ) (payload : List ℕ) : Type 0 where
  pub call : ReadyCall
  pub is_next : next_call opened link before ≡ Some call
  pub own : xid ≡ call.xid
  pub conveyed : payload ≡ call.payload

-- credits that a server may grant: from 1 to these
abbrev pub CreditsInRange : (most credits : ℕ) → Type 0
CreditsInRange most credits = (1 ≤ credits) × (credits ≤ most)

-- where the last of these frames begins
abbrev pub last_at : List Frame → ℕ
last_at [] = 0
last_at (f ∷ []) = f.at
last_at (f ∷ g ∷ frames) = last_at (g ∷ frames)

unfoldable pub last_frame_at : ℕ → List Mark → ℕ
last_frame_at link run = last_at (frames_of Initiator (bytes_received link Responder run))

-- The next call has this xid, its client has a number, and it is refused; `at` is where the last frame began that was received by then.
pub record IsRefusedAsOld (opened : LinkParameters) (link : ℕ) (before : List Mark) (xid at : ℕ) : Type 0 where
  pub call : ReadyCall
  pub is_next : next_call opened link before ≡ Some call
  pub own : xid ≡ call.xid
  pub numbered : number_heard before link ≢ 0
  pub last : at ≡ last_frame_at link before

-- Its owner sets credits up to those that the link was opened with: it has a receive for each of these.
abbrev pub ToldInRange : LinkParameters → Told → Type 0
ToldInRange opened (Granted credits) = CreditsInRange opened.granted credits
ToldInRange opened (Old xid at) = Unit {0}

-- Whether a call is old is said with the one journal (NumberedJournal).
abbrev pub IsTold : LinkParameters → ℕ → List Mark → Told → Type 0
IsTold opened link before (Granted credits) = CreditsInRange opened.granted credits
IsTold opened link before (Old xid at) = IsRefusedAsOld opened link before xid at

-- The law of each mark: calls are executed in the order in which they became complete, none twice and none passed over; what the server is
-- told is so.
abbrev pub ServedMark : (List ℕ → List ℕ → Type 0) → LinkParameters → ℕ → List Mark → Mark → Type 0
ServedMark Relates opened link before (marks.Submit l call form answer) = Unit {0}
ServedMark Relates opened link before (marks.Wrote l Initiator bytes) = Unit {0}
ServedMark Relates opened link before (marks.Wrote l Responder bytes) =
    l ≡ link → Relates (bytes_sent link Responder before ++ bytes) (output_due opened link Responder before)
ServedMark Relates opened link before (marks.Fed l side bytes) = Unit {0}
ServedMark Relates opened link before (marks.Execute l xid moment payload place reply) =
    l ≡ link → IsExecuted opened link before xid payload
ServedMark Relates opened link before (marks.Done l xid outcome) = Unit {0}
ServedMark Relates opened link before (marks.Lost l xid) = Unit {0}
ServedMark Relates opened link before (marks.Forget l xid) = Unit {0}
ServedMark Relates opened link before (marks.Revoke l xid bytes) = Unit {0}
ServedMark Relates opened link before (marks.Drop l) = Unit {0}
ServedMark Relates opened link before (marks.Told l what) = l ≡ link → IsTold opened link before what

pub record Served (opened : LinkParameters) (link : ℕ) (run : List Mark) : Type 0 where
  pub each : AtEachMark (ServedMark IsAll opened link) [] run
  pub written : HasWritten opened link Responder run

-- so far: what is written is a prefix of the output due
abbrev pub ServedSoFar : LinkParameters → ℕ → List Mark → Type 0
ServedSoFar opened link run = AtEachMark (ServedMark IsPrefixOf opened link) [] run
