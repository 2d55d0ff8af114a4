-- Which calls a link awaits: their tickets are open, and no two have the same xid.
use Rattle.std.specs.Prelude.{◌≡◌, ◌≢◌, ℕ, true, not, ◌==◌, is_some, List, [], ◌∷◌, ◌++◌, Option, None, Some}
use Rattle.std.specs.List.{AllByRecursion, filter}
use Rattle.nr_requester.specs.OpenCalls.{open_call}
use Rattle.nr_world.specs.declared.awaited.AwaitedCall.{AwaitedCall}
use Rattle.nr_reduce.specs.declared.call.Call.{Call}
use Rattle.nr_reduce.specs.declared.call.Form.{Form}
use Rattle.nr_reduce.specs.declared.call.Submission.{Submission}
use Rattle.nr_reduce.specs.History.{AcceptedCall}
use Rattle.nr_reduce.specs.SubmitAnswer.{submit_answer_after}
use Rattle.nr_requester.specs.Answers.{answer_of}
use Rattle.nr_requester.specs.ReopenedLinks.{KeepsOn}
use Rattle.nr_drill.specs.Drill.{Setting, Drill, with_mark}
use Rattle.nr_world.specs.LinkStands.{LinkStands}
use Rattle.nr_requester.specs.RequesterState.{RequesterState, RequesterSide}
use Rattle.nr_world.specs.DrillLinkState.{AwaitedLine, DrillLinkState}
use Rattle.nr_reduce.specs.declared.call.Submission.TheVariants as submissions
use Rattle.nr_reduce.specs.declared.mark.Mark.TheVariants as marks

abbrev pub IsTicketOpen : RequesterState → AwaitedCall → Type 0
IsTicketOpen r call = is_some (open_call call.ticket r) ≡ true

abbrev pub AreApart : List AwaitedCall → Type 0
AreApart [] = Unit {0}
AreApart (call ∷ calls) = AllByRecursion (λ (other : AwaitedCall). other.ticket ≢ call.ticket) calls × AreApart calls

pub record AreOpen (r : RequesterState) (calls : List AwaitedCall) : Type 0 where
  pub all_open : AllByRecursion (IsTicketOpen r) calls
  pub apart : AreApart calls

-- ---- The same of the lines

abbrev pub LinesOpen : RequesterState → List AwaitedLine → Type 0
LinesOpen r [] = Unit {0}
LinesOpen r (line ∷ lines) = (is_some (open_call line.xid r) ≡ true) × (AllByRecursion (λ (other : AwaitedLine). other.xid ≢ line.xid) lines × LinesOpen r lines)

-- ---- For the code

-- The line of this index is taken out of some lines, and this is its ticket; or there is none, and they stay.
pub record IsTakenOut (index xid : ℕ) (lines left : List AwaitedLine) : Type 0 where
  pub before : List AwaitedLine
  pub after : List AwaitedLine
  pub were : lines ≡ before ++ record { xid = xid; index = index } ∷ after
  pub are : left ≡ before ++ after

abbrev pub TakesLine : ℕ → Option ℕ → (lines left : List AwaitedLine) → Type 0
TakesLine index None lines left = (left ≡ lines) × AllByRecursion (λ (line : AwaitedLine). line.index ≢ index) lines
TakesLine index (Some xid) lines left = IsTakenOut index xid lines left

-- the calls without that of an xid
abbrev pub calls_without : ℕ → List AcceptedCall → List AcceptedCall
calls_without xid calls = filter (λ (a : AcceptedCall). not (xid == a.xid)) calls

-- the call of a ticket is taken out
abbrev pub TakesCall : Option ℕ → (calls left : List AcceptedCall) → Type 0
TakesCall None calls left = left ≡ calls
TakesCall (Some xid) calls left = left ≡ calls_without xid calls

-- A client answered a call: if it accepted it, the call is kept, and its ticket as that of the line of this index.
abbrev pub SubmitsLine : Call → Form → ℕ → Submission → (before after : RequesterSide) → (lines left : List AwaitedLine) → (calls more : List AcceptedCall) → Type 0
SubmitsLine call form index (submissions.Accepted xid) before after lines left calls more =
    (answer_of before.state call form ≡ submissions.Accepted xid) × KeepsOn before (λ link. marks.Submit link call form (submissions.Accepted xid)) after
    × (left ≡ lines ++ record { xid = xid; index = index } ∷ []) × (more ≡ calls ++ record { xid = xid; call = call; form = form } ∷ [])
SubmitsLine call form index (submissions.Refused why) before after lines left calls more =
    (answer_of before.state call form ≡ submissions.Refused why) × (after ≡ before) × (left ≡ lines) × (more ≡ calls)
SubmitsLine call form index submissions.Dropped before after lines left calls more = ⊥

-- A link answered a call as its drill does, and stands for the drill with the mark of the call.
abbrev pub AnswersCall : Call → Form → Submission → (before after : DrillLinkState) → Type 0
AnswersCall call form answer before after =
    (s : Setting) (link : ℕ) (d : Drill) → LinkStands s link d before →
    (answer ≡ submit_answer_after (s.opened link) link d.marks call form) × LinkStands s link (with_mark (marks.Submit link call form answer) d) after
