-- What a requester answers, step by step.
use Rattle.std.proofs.Common.{◌≡◌, ◌≢◌, ℕ, ◌^◌, ◌≤◌, Bool, cond, List, [], ◌∷◌, ◌++◌, None, Some, Result, Ok, Err, inl, inr, refl, sym, ap, subst, ◌∙◌, arith}
use Rattle.std.proofs.lemmas.Bool.{cases_lt, lt-ltb, le-ltb}
use Rattle.nr_xdr.specs.Item.{word}
use Rattle.nr_rpc.specs.declared.head.CallTarget.{CallTarget}
use Rattle.nr_rpc.specs.Call.{call_encoding, call_of_target}
use Rattle.nr_link.specs.declared.end.End.{End}
use Rattle.nr_reduce.specs.declared.call.Call.{Call}
use Rattle.nr_reduce.specs.declared.call.Form.{Form}
use Rattle.nr_reduce.specs.declared.call.Refused.{Refused}
use Rattle.nr_reduce.specs.declared.call.Refused.TheVariants as refusals
use Rattle.nr_reduce.specs.declared.call.Submission.TheVariants as submissions
use Rattle.nr_reduce.specs.declared.mark.LinkParameters.{LinkParameters}
use Rattle.nr_reduce.specs.declared.mark.Mark.{Mark}
use Rattle.nr_reduce.specs.declared.mark.Mark.TheVariants as marks
use Rattle.nr_reduce.specs.declared.fault.TooLarge.{TooLarge as CodeTooLarge}
use Rattle.nr_reduce.specs.declared.outline.Outline.{Outline}
use Rattle.nr_reduce.specs.declared.outline.Plan.{Plan}
use Rattle.nr_reduce.specs.CallOutlines.{OutlineAnswers}
use Rattle.nr_reduce.specs.Plans.{TooLarge, plan_of, regions_needed, lists_of}
use Rattle.nr_reduce.specs.PlansByLists.{plan_by_lists}
use Rattle.nr_reduce.proofs.PlansByLists.{planned_by_lists}
use Rattle.nr_reduce.specs.ClientState.{call_payload}
use Rattle.nr_requester.specs.RequesterState.{RequesterState, RequesterSide}
use Rattle.nr_requester.specs.Standing.{RequesterRepresents}
use Rattle.nr_requester.specs.HeldBytes.{receive_max}
use Rattle.nr_requester.specs.AfterCalls.{after_submit}
use Rattle.nr_requester.specs.Answers.{plan_under, answer_by_plan, answer_if, answer_of, WasSent}
use Rattle.nr_requester.specs.Sending.{xid_word, answer_for, IsPlan, target_under, head_under}
use Rattle.nr_requester.proofs.AllMarks.{submit_is_a_mark}

-- the bytes of a call under the word of its xid
payload_end : (call : Call) → call_payload 0 call ≡ call_payload 4294967296 call
unfolding call_payload word
payload_end call = refl

pub payload_word : (n : ℕ) (call : Call) → n ≤ 2 ^ 32 → call_payload (xid_word n) call ≡ call_payload n call
payload_word n call le = elim (cases_lt n 4294967296) [
  | inl lt ↦ ap (λ (b : Bool). call_payload (cond b n 0) call) (lt-ltb n 4294967296 lt)
  | inr ge ↦
      let e : n ≡ 4294967296 = omega (arith, ge, le) in
      ap (λ (b : Bool). call_payload (cond b n 0) call) (le-ltb n 4294967296 ge) ∙ payload_end call ∙ ap (λ (m : ℕ). call_payload m call) (sym e)
]

pub ended_answer : (r : RequesterState) (call : Call) (form : Form) (end : End) → Some end ≡ r.side.ended → answer_of r call form ≡ submissions.Refused (refusals.Ended end)
unfolding answer_of
ended_answer r call form end is = ap (answer_if r call form) (sym is)

pub live_answer : (r : RequesterState) (call : Call) (form : Form) → r.side.ended ≡ None → answer_of r call form ≡ answer_by_plan r (plan_under r call form)
unfolding answer_of
live_answer r call form is = ap (answer_if r call form) is

pub planned_answer : (r : RequesterState) (call : Call) (form : Form) (plan : Plan) → r.side.ended ≡ None → plan_under r call form ≡ Ok plan → answer_of r call form ≡ answer_for r (regions_needed plan)
planned_answer r call form plan lives is = live_answer r call form lives ∙ ap (answer_by_plan r) is

pub is_plan_lem : (r : RequesterState) (call : Call) (form : Form) (plan : Plan) → r.side.agreed.up ≤ receive_max → plan_under r call form ≡ Ok plan → IsPlan plan
is_plan_lem r call form plan short is = record { payload = call_payload r.next_xid call; form = form; up = r.side.agreed.up; down = r.side.agreed.down; short = short; is = is }

-- it can be made again of its lists
pub again_lem : (r : RequesterState) (call : Call) (form : Form) (plan : Plan) → r.side.agreed.up ≤ receive_max → plan_under r call form ≡ Ok plan →
    IsPlan (plan_by_lists (call_payload r.next_xid call) plan.read_at (lists_of r.side.memory.next plan))
again_lem r call form plan short is =
    subst IsPlan (planned_by_lists (call_payload r.next_xid call) form r.side.agreed.up r.side.agreed.down r.side.memory.next plan is) (is_plan_lem r call form plan short is)

pub sent_stands : (before after : RequesterSide) (call : Call) (form : Form) (xid : ℕ) → WasSent before after call form xid → (opened : LinkParameters) (link : ℕ) (run : List Mark) → RequesterRepresents opened link before run →
    RequesterRepresents opened link after (run ++ marks.Submit link call form (submissions.Accepted xid) ∷ [])
sent_stands before after call form xid w opened link run s =
    subst (λ (h : RequesterSide). RequesterRepresents opened link h (run ++ marks.Submit link call form (submissions.Accepted xid) ∷ [])) (sym w.after_is)
    (subst (λ (n : ℕ). RequesterRepresents opened link (after_submit before call w.plan) (run ++ marks.Submit link call form (submissions.Accepted n) ∷ [])) (sym w.next)
    (submit_is_a_mark before call form w.plan w.live w.number w.is_plan opened link run s))

-- what the outline of a call's parts is, under the next xid
pub outlined_by : (r : RequesterState) (call : Call) (form : Form) (n : ℕ) (target : CallTarget) (head args payload : List ℕ) (result : Result Outline CodeTooLarge) → r.next_xid ≡ n → n ≤ 2 ^ 32 → target ≡ target_under n call → args ≡ call.args → head ≡ head_under r.next_xid call →
    payload ≡ call_encoding (call_of_target target call.cred) args → OutlineAnswers payload result (plan_of payload form r.side.agreed.up r.side.agreed.down) → OutlineAnswers (head ++ call.args) result (plan_under r call form)
unfolding call_payload
outlined_by r call form n target head args payload result next le is-target is-args is-head is-payload answer =
    let whole : payload ≡ call_encoding (call_of_target (target_under n call) call.cred) call.args = is-payload ∙ (λ i. call_encoding (call_of_target (is-target i) call.cred) (is-args i)) in
    let same : head ++ call.args ≡ payload = ap (λ (h : List ℕ). h ++ call.args) (is-head ∙ ap (λ (m : ℕ). head_under m call) next) ∙ sym whole in
    let under : payload ≡ call_payload r.next_xid call = whole ∙ payload_word n call le ∙ ap (λ (m : ℕ). call_payload m call) (sym next) in
    subst (λ (p : List ℕ). OutlineAnswers p result (plan_under r call form)) (sym same) (subst (λ (p : List ℕ). OutlineAnswers payload result (plan_of p form r.side.agreed.up r.side.agreed.down)) under answer)

pub too_large_answer : (r : RequesterState) (call : Call) (form : Form) (large : TooLarge) → plan_under r call form ≡ Err large → answer_by_plan r (plan_under r call form) ≡ submissions.Refused (refusals.TooLarge large.need large.room)
too_large_answer r call form large is = ap (answer_by_plan r) is

-- what the calls of a submission answered, taken together
pub accepted_answer : (r : RequesterState) (call : Call) (form : Form) (plan : Plan) (xid : ℕ) → r.side.ended ≡ None → plan_under r call form ≡ Ok plan → answer_for r (regions_needed plan) ≡ submissions.Accepted xid →
    answer_of r call form ≡ submissions.Accepted xid
accepted_answer r call form plan xid lives is a = planned_answer r call form plan lives is ∙ a

pub refused_answer : (r : RequesterState) (call : Call) (form : Form) (plan : Plan) → r.side.ended ≡ None → plan_under r call form ≡ Ok plan → (why : Refused) → (why ≢ refusals.Memory → answer_for r (regions_needed plan) ≡ submissions.Refused why) →
    why ≢ refusals.Memory → answer_of r call form ≡ submissions.Refused why
refused_answer r call form plan lives is why a other = planned_answer r call form plan lives is ∙ a other
