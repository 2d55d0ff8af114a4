-- A call that a client accepts keeps the law of its side and the last grant.
use Rattle.std.proofs.Common.{◌≡◌, ℕ, ◌-◌, ◌<◌, ◌≤◌, Bool, true, false, cond, leb, ltb, List, [], Option, None, Some, Result, Ok, Err, refl, sym, ap, subst, ◌∙◌, arith, eqb}
use Rattle.std.proofs.lemmas.Bool.{ltb-false, leb-false}
use Rattle.nr_rpc.specs.Credential.{CanWriteCred}
use Rattle.nr_link.specs.declared.end.End.{End as Stop}
use Rattle.nr_reduce.specs.declared.call.Call.{Call}
use Rattle.nr_reduce.specs.declared.call.Form.{Form}
use Rattle.nr_reduce.specs.declared.call.Refused.TheVariants as refusals
use Rattle.nr_reduce.specs.declared.call.Submission.{Submission}
use Rattle.nr_reduce.specs.declared.call.Submission.TheVariants as submissions
use Rattle.nr_reduce.specs.declared.mark.Mark.{Mark}
use Rattle.nr_reduce.specs.declared.mark.LinkParameters.{LinkParameters}
use Rattle.nr_reduce.specs.Limits.{numbers_end, window}
use Rattle.nr_reduce.specs.declared.outline.Plan.{Plan}
use Rattle.nr_reduce.specs.Plans.{TooLarge, regions_needed}
use Rattle.nr_reduce.specs.ClientState.{ClientState, plan_for, WaitingCall, first_of, stags_taken, stags_unless_waiting}
use Rattle.nr_reduce.specs.Run.{client}
use Rattle.nr_reduce.specs.Credits.{calls_outstanding, credits_granted}
use Rattle.nr_reduce.specs.SubmitAnswer.{unless_spent, by_plan, answer_by, submit_answer, calls_counted, unless_far, unless_far_from, least_xid, first_xid_or}
use Rattle.nr_reduce.specs.Asked.{IsAccepted, AskedSoFar, IsResent}
use Rattle.nr_reduce.specs.Opening.{IsOpened}
use Rattle.nr_reduce.proofs.StagsLeft.{stags_left_lem}

-- what an accepted call met
record Met (k : ClientState) (call : Call) (form : Form) (ended : Option Stop) (xid : ℕ) : Type 0 where
  pub stays : ended ≡ None
  pub plan : Plan
  pub planned : plan_for k k.next_xid call form ≡ Ok plan
  pub granted : calls_counted k < k.grant
  pub xids : 1 ≤ numbers_end - k.next_xid
  pub stags : regions_needed plan ≤ numbers_end - k.stag
  pub next : xid ≡ k.next_xid

abbrev xid_in : Submission → ℕ → ℕ
xid_in (submissions.Accepted xid) other = xid
xid_in (submissions.Refused why) other = other
xid_in submissions.Dropped other = other

-- a call that isn't refused by the window
not_far : (next xid : ℕ) (least : Option ℕ) (answer : Submission) → unless_far_from next least answer ≡ submissions.Accepted xid → answer ≡ submissions.Accepted xid
not_far next xid None answer e = e
not_far next xid (Some oldest) answer e = by (leb window (next - oldest)) e
  where
    by : (b : Bool) → cond b (submissions.Refused (refusals.Window oldest next)) answer ≡ submissions.Accepted xid → answer ≡ submissions.Accepted xid
    by true e = absurd cc
    by false e = e

near : (k : ClientState) (xid : ℕ) (answer : Submission) → unless_far k answer ≡ submissions.Accepted xid → answer ≡ submissions.Accepted xid
near k xid answer e = by (eqb k.terms.number 0) e
  where
    by : (b : Bool) → cond b answer (unless_far_from k.next_xid (least_xid k.outstanding k.waiting) answer) ≡ submissions.Accepted xid → answer ≡ submissions.Accepted xid
    by true e = e
    by false e = not_far k.next_xid xid (least_xid k.outstanding k.waiting) answer e

not_spent : (left need xid : ℕ) (answer : Submission) → unless_spent left need answer ≡ submissions.Accepted xid → (need ≤ left) × (answer ≡ submissions.Accepted xid)
not_spent left need xid answer e = by (ltb left need) refl e
  where
    by : (b : Bool) → ltb left need ≡ b → cond b (submissions.Refused (refusals.Spent left need)) answer ≡ submissions.Accepted xid → (need ≤ left) × (answer ≡ submissions.Accepted xid)
    by true is e = absurd cc
    by false is e = (ltb-false left need is, e)

met : (k : ClientState) (call : Call) (form : Form) (ended : Option Stop) (xid : ℕ) → answer_by k call form ended ≡ submissions.Accepted xid → Met k call form ended xid
met k call form (Some end) xid e = absurd cc
met k call form None xid e = by_result (plan_for k k.next_xid call form) refl e
  where
    accepted : (plan : Plan) → Submission
    accepted plan = unless_spent (numbers_end - k.next_xid) 1 (unless_spent (numbers_end - k.stag) (regions_needed plan) (submissions.Accepted k.next_xid))

    by_grant : (plan : Plan) → plan_for k k.next_xid call form ≡ Ok plan → (b : Bool) → leb k.grant (calls_counted k) ≡ b
        → cond b (submissions.Refused (refusals.NoCredit (calls_counted k) k.grant)) (unless_far k (accepted plan)) ≡ submissions.Accepted xid → Met k call form None xid
    by_grant plan planned true is e = absurd cc
    by_grant plan planned false is e =
        let x = not_spent (numbers_end - k.next_xid) 1 xid (unless_spent (numbers_end - k.stag) (regions_needed plan) (submissions.Accepted k.next_xid)) (near k xid (accepted plan) e) in
        let s = not_spent (numbers_end - k.stag) (regions_needed plan) xid (submissions.Accepted k.next_xid) x.1 in
        record {
          stays = refl;
          plan = plan;
          planned = planned;
          granted = leb-false k.grant (calls_counted k) is;
          xids = x.0;
          stags = s.0;
          next = sym (ap (λ (a : Submission). xid_in a xid) s.1);
        }

    by_result : (r : Result Plan TooLarge) → plan_for k k.next_xid call form ≡ r → by_plan k r ≡ submissions.Accepted xid → Met k call form None xid
    by_result (Ok plan) is e = by_grant plan is (leb k.grant (calls_counted k)) refl e
    by_result (Err large) is e = absurd cc

pub accepted_keeps : (opened : LinkParameters) (link : ℕ) (run : List Mark) (call : Call) (form : Form) (xid : ℕ) →
    submit_answer (client opened link run) call form ≡ submissions.Accepted xid → (client opened link run).state.waiting ≡ [] → IsOpened opened → AskedSoFar opened link run → CanWriteCred call.cred →
    IsAccepted opened link run call form xid × (calls_outstanding opened link run < credits_granted opened link run)
unfolding submit_answer calls_outstanding credits_granted
accepted_keeps opened link run call form xid e none numbers asked writable =
    let below = stags_left_lem opened link run numbers asked in
    let k : ClientState = (client opened link run).state in
    let m = met k call form (client opened link run).ended xid e in (
      record {
        stays = m.stays;
        next = m.next ∙ sym (ap (λ (ws : List WaitingCall). first_xid_or k.next_xid ws) none);
        resent = subst (λ (ws : List WaitingCall). IsResent k.has_hello k.next_xid ws call form) (sym none) tt;
        plan = m.plan;
        planned = ap (λ (x : ℕ). plan_for k x call form) m.next ∙ m.planned;
        xids = (let a = m.xids in let b = m.next in omega (arith, a, b));
        stags = (let a = m.stags in let taken : stags_taken k xid m.plan ≡ regions_needed m.plan = ap (λ (ws : List WaitingCall). stags_unless_waiting (first_of ws xid) m.plan) none in omega (arith, a, below, taken));
        writable = writable;
      },
      (let few = m.granted in omega (arith, few)),
    )
