-- How long the message of a call is, by the lengths for which it was planned.
use Rattle.std.proofs.Common.{◌≡◌, ℕ, ◌≤◌, Result, Ok, sym, ap, subst, arith, length}
use Rattle.nr_reduce.specs.declared.call.Call.{Call}
use Rattle.nr_reduce.specs.declared.call.Form.{Form}
use Rattle.nr_reduce.specs.declared.mark.LinkParameters.{LinkParameters}
use Rattle.nr_reduce.specs.declared.outline.Plan.{Plan}
use Rattle.nr_reduce.specs.Plans.{TooLarge, call_message, plan_of, plan_size}
use Rattle.nr_reduce.specs.History.{AcceptedCall}
use Rattle.nr_reduce.specs.ClientState.{ClientState, call_payload, plan_for, stag_for}
use Rattle.nr_reduce.specs.Client.{outstanding_of, plan_or}
use Rattle.nr_reduce.specs.SubmitAnswer.{next_sent_xid}
use Rattle.nr_reduce.specs.Asked.{IsPlannedAs, IsResent}
use Rattle.nr_reduce.proofs.OwnLimits.{ClientLimits, planned_as}
use Rattle.nr_reduce.proofs.Sizes.{message_size}
use Rattle.nr_laws.proofs.Outputs.{IsShort, message_of_call}

-- a plan fits a Send of the length for which it was made
pub plan_fits : (xid up down : ℕ) (call : Call) (form : Form) (plan : Plan) → plan_of (call_payload xid call) form up down ≡ Ok plan → plan_size plan ≤ up
plan_fits xid up down call form plan is =
    let message = message_size (call_payload xid call) form up down 0 0 0 plan is in
    let size = message.0 in
    let most = message.1 in
    omega (arith, size, most)

pub planned_size : (xid : ℕ) (call : Call) (form : Form) (plan : Plan) (p : IsPlannedAs xid call form plan) → plan_size plan ≤ p.up
planned_size xid call form plan p = plan_fits xid p.up p.down call form plan p.planned

-- its message has the fixed words of a header, and fits too
pub sized_message : (xid wished stag up down : ℕ) (call : Call) (form : Form) (plan : Plan) → plan_of (call_payload xid call) form up down ≡ Ok plan →
    (16 ≤ length (call_message xid wished stag plan)) × (length (call_message xid wished stag plan) ≤ up)
unfolding plan_size
sized_message xid wished stag up down call form plan is =
    let message = message_size (call_payload xid call) form up down xid wished stag plan is in
    let size = message.0 in
    (omega (arith, size), message.1)

pub planned_message : (xid wished stag : ℕ) (call : Call) (form : Form) (plan : Plan) (p : IsPlannedAs xid call form plan) →
    (16 ≤ length (call_message xid wished stag plan)) × (length (call_message xid wished stag plan) ≤ p.up)
planned_message xid wished stag call form plan p = sized_message xid wished stag p.up p.down call form plan p.planned

pub short_call : (opened : LinkParameters) (k : ClientState) (a : AcceptedCall) (plan : Plan) → a.xid ≡ next_sent_xid k → IsResent k.has_hello k.next_xid k.waiting a.call a.form → plan_for k a.xid a.call a.form ≡ Ok plan → ClientLimits k → IsShort (message_of_call opened (outstanding_of k a))
short_call opened k a plan own again is limits =
    let same : (outstanding_of k a).plan ≡ plan = ap (λ (r : Result Plan TooLarge). plan_or (call_payload a.xid a.call) r) is in
    let p : IsPlannedAs a.xid a.call a.form plan = planned_as k a.xid a.call a.form plan limits own again is in
    let most = (planned_message a.xid opened.wished (stag_for k a.xid) a.call a.form plan p).1 in
    let up = p.up_fits.1 in
    subst (λ (q : Plan). IsShort (call_message a.xid opened.wished (stag_for k a.xid) q)) (sym same) (omega (arith, most, up))
