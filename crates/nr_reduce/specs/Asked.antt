-- The law of a link's client: which calls it accepts, what it writes, and what it hands to its callers.
use Rattle.std.specs.Prelude.{◌≡◌, ◌≢◌, ℕ, ◌+◌, ◌<◌, ◌≤◌, ◌==◌, Bool, false, true, List, [], ◌∷◌, ◌++◌, map, None, Some, Ok, Contains}
use Rattle.std.specs.List.{flat_map, filter}
use Rattle.nr_wire.specs.declared.hello.Side.TheVariants.{Initiator, Responder}
use Rattle.nr_reduce.specs.declared.call.Call.{Call}
use Rattle.nr_link.specs.declared.end.End.{End}
use Rattle.nr_reduce.specs.declared.call.Form.{Form}
use Rattle.nr_reduce.specs.declared.call.Submission.TheVariants as submissions
use Rattle.nr_reduce.specs.declared.call.Outcome.{Outcome}
use Rattle.nr_reduce.specs.declared.mark.Mark.{Mark}
use Rattle.nr_reduce.specs.declared.mark.Mark.TheVariants as marks
use Rattle.nr_reduce.specs.declared.mark.LinkParameters.{LinkParameters}
use Rattle.nr_reduce.specs.History.{AcceptedCall, CompletedCall, accepted_calls, completed_calls, bytes_sent, is_abandoned}
use Rattle.nr_rpc.specs.Credential.{CanWriteCred}
use Rattle.nr_reduce.specs.Limits.{numbers_end}
use Rattle.nr_reduce.specs.declared.outline.Plan.{Plan}
use Rattle.nr_reduce.specs.declared.mark.ResumedCall.{ResumedCall}
use Rattle.nr_link.specs.Agreement.{IsSendLimit}
use Rattle.nr_reduce.specs.Plans.{plan_of}
use Rattle.nr_reduce.specs.ClientState.{WaitingCall, call_payload, plan_for, stags_taken}
use Rattle.nr_reduce.specs.SubmitAnswer.{first_xid_or, next_sent_xid, calls_to_resend}
use Rattle.nr_reduce.specs.Run.{client, output_due, placed_bytes, HasWritten}
use Rattle.nr_reduce.specs.Matched.{IsPrefixOf}
use Rattle.nr_reduce.specs.AtEachMark.{AtEachMark}

-- A plan of a call in a form: the one for some lengths of Sends that may be agreed on.
pub record IsPlannedAs (xid : ℕ) (call : Call) (form : Form) (plan : Plan) : Type 0 where
  pub up : ℕ
  pub down : ℕ
  pub up_fits : IsSendLimit up
  pub down_fits : IsSendLimit down
  pub planned : plan_of (call_payload xid call) form up down ≡ Ok plan

-- A call that is sent again is the one that was submitted, in the same form, by a plan of that form. The next xid is larger. None is sent again
-- before the server's hello: its plan is for lengths that this hello has to agree on.
pub record IsAsSubmitted (has_hello : Bool) (w : WaitingCall) (next : ℕ) (call : Call) (form : Form) : Type 0 where
  pub greeted : has_hello ≡ true
  pub call_is : call ≡ w.call
  pub form_is : form ≡ w.form
  pub planned : IsPlannedAs w.xid w.call w.form w.plan
  pub rises : w.xid < next

abbrev pub IsResent : (has_hello : Bool) → (next : ℕ) → List WaitingCall → Call → Form → Type 0
IsResent has_hello next [] call form = Unit {0}
IsResent has_hello next (w ∷ waiting) call form = IsAsSubmitted has_hello w (first_xid_or next waiting) call form

-- A call is accepted under the next xid, with a plan, on a link that hasn't ended, while xids and STags are left for it. Its
-- credential can be encoded. While calls wait to be sent again, it is the first of these.
pub record IsAccepted (opened : LinkParameters) (link : ℕ) (before : List Mark) (call : Call) (form : Form) (xid : ℕ) : Type 0 where
  pub stays : (client opened link before).ended ≡ None
  pub next : xid ≡ next_sent_xid (client opened link before).state
  pub resent : IsResent (client opened link before).state.has_hello (client opened link before).state.next_xid (client opened link before).state.waiting call form
  pub plan : Plan
  pub planned : plan_for (client opened link before).state xid call form ≡ Ok plan
  pub xids : xid < numbers_end
  pub stags : (client opened link before).state.stag + stags_taken (client opened link before).state xid plan ≤ numbers_end
  pub writable : CanWriteCred call.cred

-- a call of these whose outcome wasn't handed over, and that wasn't given up
pub record IsAwaitedOf (calls : List AcceptedCall) (link : ℕ) (before : List Mark) (xid : ℕ) : Type 0 where
  pub asked : AcceptedCall
  pub is_asked : Contains calls asked
  pub own : asked.xid ≡ xid
  pub first : (c : CompletedCall) → Contains (completed_calls link before) c → c.xid ≢ xid
  pub kept : is_abandoned link xid before ≡ false

-- an accepted call
abbrev pub IsAwaited : ℕ → List Mark → ℕ → Type 0
IsAwaited link before xid = IsAwaitedOf (accepted_calls link before) link before xid

-- the calls that the client of a link has: those that it was opened with, to be sent again, and those that it accepted
abbrev pub as_accepted : ResumedCall → AcceptedCall
as_accepted r = record { xid = r.xid; call = r.call; form = r.form }

abbrev pub client_calls : LinkParameters → ℕ → List Mark → List AcceptedCall
client_calls opened link run = map as_accepted opened.resumed ++ accepted_calls link run

-- a call of the client's, which may wait to be sent again
abbrev pub IsAwaitedOrWaits : LinkParameters → ℕ → List Mark → ℕ → Type 0
IsAwaitedOrWaits opened link before xid = IsAwaitedOf (client_calls opened link before) link before xid

-- its outcome is handed over: one that a message of its xid brought
pub record IsCompleted (opened : LinkParameters) (link : ℕ) (before : List Mark) (xid : ℕ) (outcome : Outcome) : Type 0 where
  pub awaited : IsAwaited link before xid
  pub is_received : Contains (client opened link before).state.outcomes (record { xid = xid; outcome = outcome })

-- it is lost: the client ended, and no message brought an outcome of it
pub record IsLost (opened : LinkParameters) (link : ℕ) (before : List Mark) (xid : ℕ) : Type 0 where
  pub awaited : IsAwaitedOrWaits opened link before xid
  pub ended : End
  pub is_ended : (client opened link before).ended ≡ Some ended
  pub none : (c : CompletedCall) → Contains (client opened link before).state.outcomes c → c.xid ≢ xid

-- its memory is revoked: the bytes handed back are what its regions hold, in the order in which they were offered
abbrev pub revoked_bytes : LinkParameters → ℕ → List Mark → ℕ → List ℕ
revoked_bytes opened link before xid =
    flat_map (λ r. placed_bytes opened link Initiator before r.stag) (filter (λ r. r.call == xid) (client opened link before).state.regions)

pub record IsRevoked (opened : LinkParameters) (link : ℕ) (before : List Mark) (xid : ℕ) (bytes : List ℕ) : Type 0 where
  pub awaited : IsAwaitedOrWaits opened link before xid
  pub bytes_are : bytes ≡ revoked_bytes opened link before xid

-- The law of each mark. `Relates` says how what was written with this Wrote relates to the output due.
abbrev pub AskedMark : (List ℕ → List ℕ → Type 0) → LinkParameters → ℕ → List Mark → Mark → Type 0
AskedMark Relates opened link before (marks.Submit l call form (submissions.Accepted xid)) = l ≡ link → IsAccepted opened link before call form xid
AskedMark Relates opened link before (marks.Submit l call form (submissions.Refused why)) = Unit {0}
AskedMark Relates opened link before (marks.Submit l call form submissions.Dropped) = Unit {0}
AskedMark Relates opened link before (marks.Wrote l Initiator bytes) = l ≡ link → Relates (bytes_sent link Initiator before ++ bytes) (output_due opened link Initiator before)
AskedMark Relates opened link before (marks.Wrote l Responder bytes) = Unit {0}
AskedMark Relates opened link before (marks.Fed l side bytes) = Unit {0}
AskedMark Relates opened link before (marks.Execute l xid moment payload place reply) = Unit {0}
AskedMark Relates opened link before (marks.Done l xid outcome) = l ≡ link → IsCompleted opened link before xid outcome
AskedMark Relates opened link before (marks.Lost l xid) = l ≡ link → IsLost opened link before xid
AskedMark Relates opened link before (marks.Forget l xid) = l ≡ link → IsAwaitedOrWaits opened link before xid
AskedMark Relates opened link before (marks.Revoke l xid bytes) = l ≡ link → IsRevoked opened link before xid bytes
AskedMark Relates opened link before (marks.Drop l) = Unit {0}
AskedMark Relates opened link before (marks.Told l what) = Unit {0}

-- A call that can be sent again is sent at once: before the client writes, is fed more, is asked for anything, or hands over an outcome.
abbrev pub NoneToResend : LinkParameters → (link : ℕ) → List Mark → (l : ℕ) → Type 0
NoneToResend opened link before l = l ≡ link → calls_to_resend (client opened link before) ≡ []

abbrev pub ResentMark : LinkParameters → ℕ → List Mark → Mark → Type 0
ResentMark opened link before (marks.Submit l call form (submissions.Refused why)) = NoneToResend opened link before l
ResentMark opened link before (marks.Wrote l Initiator bytes) = NoneToResend opened link before l
ResentMark opened link before (marks.Fed l Initiator bytes) = NoneToResend opened link before l
ResentMark opened link before (marks.Done l xid outcome) = NoneToResend opened link before l
ResentMark opened link before (marks.Forget l xid) = NoneToResend opened link before l
ResentMark opened link before (marks.Revoke l xid bytes) = NoneToResend opened link before l
ResentMark opened link before mark = Unit {0}

-- In full: each Wrote writes all output that is due by then, and in the end all is written. Calls are sent again as soon as the grant allows.
abbrev pub IsAll : List ℕ → List ℕ → Type 0
IsAll written due = written ≡ due

pub record Asked (opened : LinkParameters) (link : ℕ) (run : List Mark) : Type 0 where
  pub each : AtEachMark (AskedMark IsAll opened link) [] run
  pub written : HasWritten opened link Initiator run
  pub resent : AtEachMark (ResentMark opened link) [] run
  pub none_left : calls_to_resend (client opened link run) ≡ []

-- so far: what is written is a prefix of the output due
abbrev pub AskedSoFar : LinkParameters → ℕ → List Mark → Type 0
AskedSoFar opened link run = AtEachMark (AskedMark IsPrefixOf opened link) [] run
