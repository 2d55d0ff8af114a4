-- Each accepted Submit stands within the grant.
use Rattle.std.proofs.Common.{◌≡◌, ℕ, ◌-◌, ◌<◌, Bool, true, false, cond, leb, List, [], ◌∷◌, ◌++◌, length, Option, None, Some, Result, Ok, Err, refl, arith, zero, suc, take, ◌&&◌, is_none, ◌⊎◌, inl, inr}
use Rattle.std.proofs.lemmas.Bool.{leb-false}
use Rattle.nr_link.specs.declared.end.End.{End as Stop}
use Rattle.nr_reduce.specs.declared.call.Call.{Call}
use Rattle.nr_reduce.specs.declared.call.Form.{Form}
use Rattle.nr_reduce.specs.declared.call.Refused.TheVariants as refusals
use Rattle.nr_reduce.specs.declared.call.Submission.{Submission}
use Rattle.nr_reduce.specs.declared.call.Submission.TheVariants as submissions
use Rattle.nr_reduce.specs.declared.mark.Mark.{Mark}
use Rattle.nr_reduce.specs.declared.mark.Mark.TheVariants as marks
use Rattle.nr_reduce.specs.declared.mark.LinkParameters.{LinkParameters}
use Rattle.nr_reduce.specs.declared.outline.Plan.{Plan}
use Rattle.nr_reduce.specs.Limits.{numbers_end}
use Rattle.nr_reduce.specs.Plans.{TooLarge, regions_needed}
use Rattle.nr_reduce.specs.History.{is_dropped}
use Rattle.nr_reduce.specs.AtEachMark.{AtEachMark}
use Rattle.nr_reduce.specs.Credits.{WithinGrant, calls_outstanding, credits_granted}
use Rattle.nr_reduce.specs.ClientState.{WaitingCall, ClientState, plan_for}
use Rattle.nr_reduce.specs.EndRules.{EndState}
use Rattle.nr_reduce.specs.Run.{client}
use Rattle.nr_reduce.specs.SubmitAnswer.{unless_spent, by_plan, answer_by, calls_to_resend, submit_answer, submit_answer_after, unless_dropped, calls_counted, unless_far}
use Rattle.nr_laws.specs.Grant.{IsNextToResend, AcceptedMark, SubmitsWithinGrant}

pub not_dropped_lem : (b : Bool) (answer : Submission) (xid : ℕ) → unless_dropped b answer ≡ submissions.Accepted xid → answer ≡ submissions.Accepted xid
not_dropped_lem true answer xid e = absurd cc
not_dropped_lem false answer xid e = e

-- an accepted call found a credit
granted : (opened : LinkParameters) (k : ClientState) (call : Call) (form : Form) (ended : Option Stop) (xid : ℕ) → answer_by k call form ended ≡ submissions.Accepted xid → length k.outstanding < k.grant
granted opened k call form (Some end) xid e = absurd cc
granted opened k call form None xid e = by_result (plan_for k k.next_xid call form) e
  where
    by_grant : (answer : Submission) (b : Bool) → leb k.grant (calls_counted k) ≡ b → cond b (submissions.Refused (refusals.NoCredit (calls_counted k) k.grant)) answer ≡ submissions.Accepted xid → length k.outstanding < k.grant
    by_grant answer true is e = absurd cc
    by_grant answer false is e = (let lt = leb-false k.grant (calls_counted k) is in omega (arith, lt))

    by_result : (r : Result Plan TooLarge) → by_plan k r ≡ submissions.Accepted xid → length k.outstanding < k.grant
    by_result (Ok plan) e =
        by_grant (unless_far k (unless_spent (numbers_end - k.next_xid) 1 (unless_spent (numbers_end - k.stag) (regions_needed plan) (submissions.Accepted k.next_xid)))) (leb k.grant (calls_counted k)) refl e
    by_result (Err large) e = absurd cc

within : (opened : LinkParameters) (link : ℕ) (before : List Mark) (call : Call) (form : Form) (xid : ℕ) → submit_answer (client opened link before) call form ≡ submissions.Accepted xid → calls_outstanding opened link before < credits_granted opened link before
unfolding submit_answer calls_outstanding credits_granted
within opened link before call form xid e = granted opened (client opened link before).state call form (client opened link before).ended xid e

-- so did a call that is sent again
resent : (r : EndState ClientState) (w : WaitingCall) (ws : List WaitingCall) → calls_to_resend r ≡ w ∷ ws → length r.state.outstanding < r.state.grant
unfolding calls_to_resend
resent r w ws e = (let some = by (is_none r.ended && r.state.has_hello) (r.state.grant - length r.state.outstanding) r.state.waiting e in omega (arith, some))
  where
    by : (b : Bool) (n : ℕ) (calls : List WaitingCall) → cond b (take n calls) [] ≡ w ∷ ws → 0 < n
    by false n calls e = absurd cc
    by true zero [] e = absurd cc
    by true zero (c ∷ calls) e = absurd cc
    by true (suc n) calls e = omega arith

within_again : (opened : LinkParameters) (link : ℕ) (before : List Mark) (xid : ℕ) → IsNextToResend (client opened link before) xid → calls_outstanding opened link before < credits_granted opened link before
unfolding calls_outstanding credits_granted
within_again opened link before xid n = resent (client opened link before) n.call n.calls n.first

mark_within : (opened : LinkParameters) (link : ℕ) (before : List Mark) (mark : Mark) → AcceptedMark opened link before mark → WithinGrant opened link before mark
unfolding submit_answer_after
mark_within opened link before (marks.Submit l call form (submissions.Accepted xid)) a = λ same. by (a same)
  where
    by : (submit_answer_after opened link before call form ≡ submissions.Accepted xid) ⊎ IsNextToResend (client opened link before) xid → calls_outstanding opened link before < credits_granted opened link before
    by (inl own) = within opened link before call form xid (not_dropped_lem (is_dropped link before) (submit_answer (client opened link before) call form) xid own)
    by (inr again) = within_again opened link before xid again
mark_within opened link before (marks.Submit l call form (submissions.Refused why)) a = tt
mark_within opened link before (marks.Submit l call form submissions.Dropped) a = tt
mark_within opened link before (marks.Fed l s bytes) a = tt
mark_within opened link before (marks.Wrote l s bytes) a = tt
mark_within opened link before (marks.Execute l xid moment payload place reply) a = tt
mark_within opened link before (marks.Done l xid outcome) a = tt
mark_within opened link before (marks.Lost l xid) a = tt
mark_within opened link before (marks.Forget l xid) a = tt
mark_within opened link before (marks.Revoke l xid bytes) a = tt
mark_within opened link before (marks.Drop l) a = tt
mark_within opened link before (marks.Told l what) a = tt

within_from : (opened : LinkParameters) (link : ℕ) (before run : List Mark) → AtEachMark (AcceptedMark opened link) before run → AtEachMark (WithinGrant opened link) before run
within_from opened link before [] a = tt
within_from opened link before (mark ∷ run) a = (mark_within opened link before mark a.0, within_from opened link (before ++ mark ∷ []) run a.1)

pub submits_within : SubmitsWithinGrant
submits_within opened link run accepts = within_from opened link [] run accepts
