-- A requester of a link that may be one that was reopened goes on from mark to mark.
use Rattle.std.specs.Prelude.{◌≡◌, ℕ, ◌^◌, ◌<◌, ◌≤◌, Bool, true, List, [], ◌∷◌, ◌++◌, length, map, take, None, Some, Ok, is_some}
use Rattle.std.specs.List.{AllByRecursion, Contains}
use Rattle.nr_wire.specs.declared.hello.Side.TheVariants.{Initiator}
use Rattle.nr_link.specs.declared.end.End.{End}
use Rattle.nr_reduce.specs.declared.call.Call.{Call}
use Rattle.nr_reduce.specs.declared.call.Form.{Form}
use Rattle.nr_reduce.specs.declared.call.Outcome.{Outcome}
use Rattle.nr_reduce.specs.declared.call.Submission.TheVariants as submissions
use Rattle.nr_reduce.specs.declared.mark.LinkParameters.{LinkParameters}
use Rattle.nr_reduce.specs.declared.mark.Mark.{Mark}
use Rattle.nr_reduce.specs.declared.mark.Mark.TheVariants as marks
use Rattle.nr_reduce.specs.declared.outline.Plan.{Plan}
use Rattle.nr_reduce.specs.Asked.{revoked_bytes}
use Rattle.nr_reduce.specs.Events.{events_at}
use Rattle.nr_reduce.specs.Credits.{credits_granted}
use Rattle.nr_reduce.specs.History.{CompletedCall, written_at, fed_at}
use Rattle.nr_reduce.specs.OutcomesDue.{outcomes_due}
use Rattle.nr_reduce.specs.Run.{client}
use Rattle.nr_reduce.specs.SubmitAnswer.{calls_counted, submit_answer}
use Rattle.nr_requester.specs.RequesterState.{RequesterSide, StoredCall, feeding_of, queue_of, stags_of}
use Rattle.nr_requester.specs.AfterCalls.{after_submit, after_drain, after_revoke, after_forget}
use Rattle.nr_requester.specs.AfterPiece.{after_piece}
use Rattle.nr_requester.specs.Answers.{answer_of, plan_under}
use Rattle.nr_requester.specs.Buffers.{bytes_of_buffers}
use Rattle.nr_requester.specs.OpenCalls.{buffers_of, remaining_call}
use Rattle.nr_requester.specs.KeptAnswers.{completed_of}
use Rattle.nr_requester.specs.Laws.{CountsAllButNamed, DueFirst, GivesUpNothing, HoldsPlaced}
use Rattle.nr_requester.specs.ReopenedLinks.{KeepsOn, RequesterKeeps, own_answers, own_side}
use Rattle.nr_requester.specs.Resends.{after_feed}

-- An accepted call: no Send was held back,
abbrev pub SubmitKeepsOn : Type 0
SubmitKeepsOn = (h : RequesterSide) (call : Call) (form : Form) (plan : Plan) → h.state.side.ended ≡ None → length h.state.side.send_queue.held ≡ 0 → plan_under h.state call form ≡ Ok plan →
    KeepsOn h (λ link. marks.Submit link call form (submissions.Accepted h.state.next_xid)) (after_submit h call plan)

-- a drain of which a sink took n bytes,
abbrev pub DrainKeepsOn : Type 0
DrainKeepsOn = (h : RequesterSide) (n : ℕ) → n ≤ length (queue_of h.state) → h.state.next_xid ≤ 2 ^ 32 → KeepsOn h (λ link. marks.Wrote link Initiator (take n (queue_of h.state))) (after_drain n h)

-- a revoke of a call that was accepted,
abbrev pub RevokeKeepsOn : Type 0
RevokeKeepsOn = (h : RequesterSide) (xid : ℕ) (bytes : List ℕ) → xid < h.state.next_xid → KeepsOn h (λ link. marks.Revoke link xid bytes) (after_revoke h xid)

-- an outcome of such a call that is given up or handed over,
abbrev pub ForgetKeepsOn : Type 0
ForgetKeepsOn = (h : RequesterSide) (xid : ℕ) → xid < h.state.next_xid → KeepsOn h (λ link. marks.Forget link xid) (after_forget h xid)

abbrev pub DoneKeepsOn : Type 0
DoneKeepsOn = (h : RequesterSide) (xid : ℕ) (outcome : Outcome) → xid < h.state.next_xid → KeepsOn h (λ link. marks.Done link xid outcome) (after_forget h xid)

-- a call that is lost,
abbrev pub LostKeepsOn : Type 0
LostKeepsOn = (h : RequesterSide) (xid : ℕ) (end : End) → h.state.side.ended ≡ Some end → xid < h.state.next_xid → KeepsOn h (λ link. marks.Lost link xid) (after_revoke h xid)

-- and a mark that is no event of it and gives up no call of it.
abbrev pub OthersKeepOn : Type 0
OthersKeepOn = (is_own : ℕ → Bool) (earlier : ℕ) (opened : LinkParameters) (link : ℕ) (h : RequesterSide) (run : List Mark) (mark : Mark) → RequesterKeeps is_own earlier opened link h run →
    events_at link Initiator run mark ≡ [] → written_at link Initiator mark ≡ [] → fed_at link Initiator mark ≡ [] → GivesUpNothing link mark → RequesterKeeps is_own earlier opened link h (run ++ mark ∷ [])

-- Whatever it is fed, its terms stay as it was opened with, and so does the number of its client.
abbrev pub FeedKeepsTerms : Type 0
FeedKeepsTerms = (h : RequesterSide) (piece staging : List ℕ) → ((after_piece (feeding_of h) piece).state.side.terms ≡ h.state.side.terms) × ((after_feed h piece staging).state.side.terms ≡ h.state.side.terms)

-- It answers a call as the client does.
abbrev pub AnswersAsKept : Type 0
AnswersAsKept = (is_own : ℕ → Bool) (earlier : ℕ) (opened : LinkParameters) (link : ℕ) (h : RequesterSide) (run : List Mark) (call : Call) (form : Form) → RequesterKeeps is_own earlier opened link h run →
    answer_of h.state call form ≡ submit_answer (client opened link run) call form

-- The buffers of a call of this link that is left have what a revoke hands back by the marks.
abbrev pub BuffersAreKept : Type 0
BuffersAreKept = (is_own : ℕ → Bool) (earlier : ℕ) (opened : LinkParameters) (link : ℕ) (h : RequesterSide) (run : List Mark) (xid : ℕ) → RequesterKeeps is_own earlier opened link h run → is_own xid ≡ true →
    is_some (remaining_call xid h.state) ≡ true → bytes_of_buffers (buffers_of xid h.state) ≡ revoked_bytes opened link run xid

-- Under each STag of an outstanding call is what the client's region holds after these marks.
abbrev pub MemoryAsKept : Type 0
MemoryAsKept = (is_own : ℕ → Bool) (earlier : ℕ) (opened : LinkParameters) (link : ℕ) (h : RequesterSide) (run : List Mark) → RequesterKeeps is_own earlier opened link h run → HoldsPlaced opened link h run

-- It knows how many calls are outstanding or wait to be sent again, the credits that are granted, what was agreed on, and its end, which is the client's.
abbrev pub CountsAsKept : Type 0
CountsAsKept = (is_own : ℕ → Bool) (earlier : ℕ) (opened : LinkParameters) (link : ℕ) (h : RequesterSide) (run : List Mark) → RequesterKeeps is_own earlier opened link h run →
    (length h.state.outstanding ≡ calls_counted (client opened link run).state) × (h.state.grant ≡ credits_granted opened link run)

abbrev pub AgreesAsKept : Type 0
AgreesAsKept = (is_own : ℕ → Bool) (earlier : ℕ) (opened : LinkParameters) (link : ℕ) (h : RequesterSide) (run : List Mark) → RequesterKeeps is_own earlier opened link h run →
    (h.state.side.agreed.up ≡ (client opened link run).state.up_max) × ((h.state.side.agreed.down ≡ (client opened link run).state.down_max)
    × (h.state.side.agreed.invalidates ≡ (client opened link run).state.invalidates))

abbrev pub EndAsKept : Type 0
EndAsKept = (is_own : ℕ → Bool) (earlier : ℕ) (opened : LinkParameters) (link : ℕ) (h : RequesterSide) (run : List Mark) → RequesterKeeps is_own earlier opened link h run → h.state.side.ended ≡ (client opened link run).ended

-- The outcomes of the answers that belong to this link are those that are due, no more and no fewer.
abbrev pub AnswersAreKept : Type 0
AnswersAreKept = (is_own : ℕ → Bool) (earlier : ℕ) (opened : LinkParameters) (link : ℕ) (h : RequesterSide) (run : List Mark) (c : CompletedCall) → RequesterKeeps is_own earlier opened link h run →
    (Contains (map completed_of (own_answers is_own h.state)) c → Contains (outcomes_due opened link run) c) × (Contains (outcomes_due opened link run) c → Contains (map completed_of (own_answers is_own h.state)) c)

-- Until the link has ended, all regions of an outstanding call are counted when they are released, but for one that a message named.
abbrev pub ReleasesAsKept : Type 0
ReleasesAsKept = (is_own : ℕ → Bool) (earlier : ℕ) (opened : LinkParameters) (link : ℕ) (h : RequesterSide) (run : List Mark) → RequesterKeeps is_own earlier opened link h run → h.state.side.ended ≡ None →
    AllByRecursion (λ (c : StoredCall). CountsAllButNamed h.state.side.memory (stags_of c.claims)) h.state.outstanding

-- Of the calls of this link whose answers wait, the one that was submitted first has the outcome that is due first.
abbrev pub FirstIsKept : Type 0
FirstIsKept = (is_own : ℕ → Bool) (earlier : ℕ) (opened : LinkParameters) (link : ℕ) (h : RequesterSide) (run : List Mark) → RequesterKeeps is_own earlier opened link h run → DueFirst opened link (own_side is_own h) run
