-- What a call over a link makes of the marks that its requester stands for.
use Rattle.std.specs.Prelude.{◌≡◌, ◌≢◌, ◌≤◌, Contains, ℕ, ◌⊎◌, List, [], ◌∷◌, ◌++◌, None, Some}
use Rattle.nr_wire.specs.declared.hello.Side.TheVariants.{Initiator}
use Rattle.nr_reduce.specs.declared.call.Call.{Call}
use Rattle.nr_reduce.specs.declared.call.Outcome.{Outcome}
use Rattle.nr_reduce.specs.declared.call.Form.TheVariants as forms
use Rattle.nr_reduce.specs.declared.call.Submission.TheVariants as submissions
use Rattle.nr_reduce.specs.declared.mark.LinkParameters.{LinkParameters}
use Rattle.nr_reduce.specs.declared.mark.Mark.{Mark}
use Rattle.nr_reduce.specs.declared.mark.Mark.TheVariants as marks
use Rattle.nr_link.specs.declared.end.End.TheVariants as ends
use Rattle.nr_reduce.specs.History.{CompletedCall, bytes_received}
use Rattle.nr_reduce.specs.Run.{client}
use Rattle.nr_shared.specs.declared.call_end.CallEnd.TheVariants as calls
use Rattle.nr_reduce.specs.Opening.{IsOpened}
use Rattle.nr_links.specs.Limits.{read_max}
use Rattle.nr_requester.specs.RequesterState.{RequesterSide}
use Rattle.nr_requester.specs.Answers.{answer_of}
use Rattle.nr_requester.specs.OpenCalls.{open_call}
use Rattle.nr_requester.specs.Standing.{StandsOn}
use Rattle.nr_client.specs.Ending.{IsCauseIn, LinkCause, SinkCountAt, SourceCountAt}
use Rattle.nr_client.specs.Relations.{CallRelations}
use Rattle.nr_client.specs.Steps.{GoesTo, HasCreditLeft, HasWrittenAt, IsLeft, IsLive, IsOut, LacksCredit, ReadsNone, WritesFirst, WritesInFull, WritesInFullTo}
use Rattle.nr_client.specs.Transfers.{LinkBytes, Moves}
use Rattle.nr_client.specs.Views.{LinkView}
use Rattle.nr_shared.specs.declared.call_end.CallEnd.{CallEnd}

-- the marks up to a Submit, after bytes moved while the call waited for a credit
abbrev pub run_to_submit : List Mark → ℕ → Call → ℕ → (waits : List Mark) → List Mark
run_to_submit run link call xid waits = (run ++ waits) ++ marks.Submit link call forms.Auto (submissions.Accepted xid) ∷ []

-- all marks of a call: bytes moved while it waited for a credit; it was submitted; bytes moved; and the last mark
abbrev pub run_of_call : List Mark → ℕ → Call → ℕ → (waits moved : List Mark) → Mark → List Mark
run_of_call run link call xid waits moved last = (run_to_submit run link call xid waits ++ moved) ++ last ∷ []

-- The bytes that a call moves. Nothing is read before its Submit if a credit is left. Before bytes are fed all output is written, the call
-- itself after its Submit. Before its Submit each Wrote writes all output due.
pub record MovesOfCall (opened : LinkParameters) (link : ℕ) (run : List Mark) (b b' : LinkBytes) (h : RequesterSide) (call : Call) (xid : ℕ) (ahead : List ℕ) (waits moved : List Mark) : Type 0 where
  pub bytes : Moves link b b' ahead (waits ++ moved)
  pub at_once : HasCreditLeft h → bytes_received link Initiator waits ≡ []
  pub before : WritesFirst opened link run waits
  pub whole_before : WritesInFull opened link run waits
  pub written : WritesFirst opened link (run_to_submit run link call xid waits) moved

-- The call was submitted, and no outcome of it was handed over yet: bytes moved while it waited for a credit, none of them read if one was left.
pub record IsSubmitted (opened : LinkParameters) (link : ℕ) (run : List Mark) (b b' : LinkBytes) (h h' : RequesterSide) (call : Call) (xid : ℕ) : Type 0 where
  pub waits : List Mark
  pub bytes : Moves link b b' [] waits
  pub at_once : HasCreditLeft h → bytes_received link Initiator waits ≡ []
  pub before : WritesFirst opened link run waits
  pub whole : WritesInFull opened link run waits
  pub live : IsLive opened link h' (run_to_submit run link call xid waits)

-- The call was submitted and answered with this outcome.
pub record IsAnswered (opened : LinkParameters) (link : ℕ) (run : List Mark) (b b' : LinkBytes) (h h' : RequesterSide) (call : Call) (outcome : Outcome) : Type 0 where
  pub waits : List Mark
  pub xid : ℕ
  pub moved : List Mark
  pub moves : MovesOfCall opened link run b b' h call xid [] waits moved
  pub whole : WritesInFull opened link (run_to_submit run link call xid waits) moved
  pub live : IsLive opened link h' (run_of_call run link call xid waits moved (marks.Done link xid outcome))

-- By these marks no message brought an outcome of an xid; or memory ran out for a frame.
abbrev pub NoneCame : CallEnd → LinkParameters → ℕ → List Mark → ℕ → Type 0
NoneCame end opened link run xid = (end ≡ calls.Ended ends.Memory) ⊎ ((c : CompletedCall) → Contains (client opened link run).state.outcomes c → c.xid ≢ xid)

-- The call was submitted, and forgotten at this end: its answer had not come.
pub record IsForgotten (opened : LinkParameters) (link : ℕ) (run : List Mark) (b b' : LinkBytes) (h h' : RequesterSide) (call : Call) (end : CallEnd) : Type 0 where
  pub waits : List Mark
  pub xid : ℕ
  pub moved : List Mark
  pub ahead : List ℕ
  pub moves : MovesOfCall opened link run b b' h call xid ahead waits moved
  pub whole : WritesInFullTo end opened link (run_to_submit run link call xid waits) moved
  pub all : HasWrittenAt end opened link (run_to_submit run link call xid waits ++ moved)
  pub unanswered : NoneCame end opened link (run_to_submit run link call xid waits ++ moved) xid
  pub left : IsLeft end opened link h' ahead (run_of_call run link call xid waits moved (marks.Forget link xid))

-- It is submitted under this xid: the client's side of the link had not ended.
abbrev pub Submits : (v w : LinkView) → Call → ℕ → Type 0
Submits v w call xid =
    (v.requester.state.side.ended ≡ None)
    × ((opened : LinkParameters) (link : ℕ) (run : List Mark) → IsOpened opened → IsLive opened link v.requester run
    → IsSubmitted opened link run v.bytes w.bytes v.requester w.requester call xid)

-- It is not submitted, for this cause; nothing was read if a credit was left.
abbrev pub RefusesToSubmit : (v w : LinkView) → Call → CallEnd → Type 0
RefusesToSubmit v w call end = GoesTo end v.bytes w.bytes v.requester w.requester × (HasCreditLeft v.requester → ReadsNone v.bytes w.bytes)

-- It was answered: the client's side of the link had not ended when it was made.
abbrev pub Answers : (v w : LinkView) → Call → Outcome → Type 0
Answers v w call outcome =
    (v.requester.state.side.ended ≡ None)
    × ((opened : LinkParameters) (link : ℕ) (run : List Mark) → IsOpened opened → IsLive opened link v.requester run
    → IsAnswered opened link run v.bytes w.bytes v.requester w.requester call outcome)

-- It has no answer: it was not submitted, and nothing was read if a credit was left; or it was forgotten at an end of the link.
abbrev pub GivesUp : (v w : LinkView) → Call → CallEnd → Type 0
GivesUp v w call end =
    RefusesToSubmit v w call end
    ⊎ (LinkCause end w.bytes.left w.bytes.read w.requester
    × ((opened : LinkParameters) (link : ℕ) (run : List Mark) → IsOpened opened → IsLive opened link v.requester run
    → IsForgotten opened link run v.bytes w.bytes v.requester w.requester call end))

-- ---- Its steps

-- it was accepted under this xid
abbrev pub IsSent : ℕ → Call → (h h' : RequesterSide) → Type 0
IsSent xid call h h' =
    (answer_of h.state call forms.Auto ≡ submissions.Accepted xid) × StandsOn h (λ link. marks.Submit link call forms.Auto (submissions.Accepted xid)) h'

-- its outcome is handed over
abbrev pub HandsOver : ℕ → Outcome → (h h' : RequesterSide) → Type 0
HandsOver xid outcome h h' =
    (opened : LinkParameters) (link : ℕ) (run : List Mark) → IsLive opened link h run → IsLive opened link h' (run ++ marks.Done link xid outcome ∷ [])

-- bytes moved, and then its outcome was handed over, or it was forgotten
abbrev pub Completes : ℕ → Outcome → (v w : LinkView) → Type 0
Completes xid outcome v w =
    (opened : LinkParameters) (link : ℕ) (run : List Mark) → IsOpened opened → IsLive opened link v.requester run →
    (moved : List Mark) × (Moves link v.bytes w.bytes [] moved × (WritesFirst opened link run moved × (WritesInFull opened link run moved
    × IsLive opened link w.requester ((run ++ moved) ++ marks.Done link xid outcome ∷ []))))

abbrev pub Forgets : ℕ → CallEnd → (v w : LinkView) → Type 0
Forgets xid end v w =
    (opened : LinkParameters) (link : ℕ) (run : List Mark) → IsOpened opened → IsLive opened link v.requester run →
    (moved : List Mark) × (ahead : List ℕ) × (Moves link v.bytes w.bytes ahead moved × (WritesFirst opened link run moved × (WritesInFullTo end opened link run moved × (HasWrittenAt end opened link (run ++ moved)
    × (NoneCame end opened link (run ++ moved) xid × IsLeft end opened link w.requester ahead ((run ++ moved) ++ marks.Forget link xid ∷ []))))))

-- a requester forgets the call of an xid
abbrev pub AddsForget : ℕ → (h h' : RequesterSide) → Type 0
AddsForget xid h h' =
    ((opened : LinkParameters) (link : ℕ) (run : List Mark) → IsLive opened link h run → IsLive opened link h' (run ++ marks.Forget link xid ∷ []))
    × ((opened : LinkParameters) (link : ℕ) (run : List Mark) → IsOut opened link h run → IsOut opened link h' (run ++ marks.Forget link xid ∷ []))

-- the call of an xid is forgotten, whether or not its answer has come, and no byte moves
abbrev pub ForgetsCall : ℕ → (v w : LinkView) → Type 0
ForgetsCall xid v w =
    AddsForget xid v.requester w.requester × ((w.bytes ≡ v.bytes) × ((w.source_faults ≡ v.source_faults) × (w.sink_faults ≡ v.sink_faults)))

-- ---- The relations of a link that one caller has

-- the fault counts of its source and its sink: each rises at one end alone
pub record LinkFaults : Type 0 where
  pub source : ℕ
  pub sink : ℕ

abbrev pub faults_of : LinkView → LinkFaults
faults_of v = record { source = v.source_faults; sink = v.sink_faults }

abbrev pub CountsAt : CallEnd → (before after : LinkFaults) → Type 0
CountsAt end before after = SourceCountAt end before.source after.source × SinkCountAt end before.sink after.sink

-- memory didn't run out for a frame
abbrev pub HasMemory : LinkView → Type 0
HasMemory v = v.requester.state.side.ended ≢ Some ends.Memory

abbrev pub link_relations : CallRelations LinkView
link_relations = record {
  answers = λ v w call outcome. Answers v w call outcome × HasMemory w;
  gives_up = λ v w call end. GivesUp v w call end × IsCauseIn end w call;
  submits = Submits;
  refuses = λ v w call end. RefusesToSubmit v w call end × IsCauseIn end w call;
  completes = Completes;
  forgets = λ xid end v w. Forgets xid end v w × LinkCause end w.bytes.left w.bytes.read w.requester;
  forgets_call = ForgetsCall;
  looks = λ v w. w ≡ v;
  Faults = LinkFaults;
  faults = faults_of;
  counts = CountsAt;
  has_credit = λ v. HasCreditLeft v.requester;
  lacks_credit = λ v. LacksCredit v.requester;
  open_call = λ v xid. open_call xid v.requester.state;
  is_within = λ v. v.bytes.read ≤ read_max;
}
