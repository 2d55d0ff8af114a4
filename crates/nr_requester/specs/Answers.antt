-- What a requester answers to a call that it is given, by what it keeps.
use Rattle.std.specs.Prelude.{◌≡◌, ℕ, ◌-◌, ◌^◌, ◌<◌, if◌then◌else◌, length, Option, None, Some, Result, Ok, Err}
use Rattle.nr_link.specs.declared.end.End.{End}
use Rattle.nr_reduce.specs.declared.call.Call.{Call}
use Rattle.nr_reduce.specs.declared.call.Form.{Form}
use Rattle.nr_reduce.specs.declared.call.Refused.TheVariants as refusals
use Rattle.nr_reduce.specs.declared.call.Submission.{Submission}
use Rattle.nr_reduce.specs.declared.call.Submission.TheVariants as submissions
use Rattle.nr_reduce.specs.declared.outline.Plan.{Plan}
use Rattle.nr_reduce.specs.Limits.{numbers_end}
use Rattle.nr_reduce.specs.Plans.{TooLarge, regions_needed, plan_of}
use Rattle.nr_reduce.specs.ClientState.{call_payload}
use Rattle.nr_reduce.specs.SubmitAnswer.{unless_spent, unless_far_by}
use Rattle.nr_requester.specs.RequesterState.{RequesterState, RequesterSide}
use Rattle.nr_requester.specs.Sending.{has_credit, least_stored}
use Rattle.nr_requester.specs.AfterCalls.{after_submit}

-- the plan of a call under the next xid, by what is agreed
abbrev pub plan_under : RequesterState → Call → Form → Result Plan TooLarge
plan_under r call form = plan_of (call_payload r.next_xid call) form r.side.agreed.up r.side.agreed.down

abbrev pub answer_by_plan : RequesterState → Result Plan TooLarge → Submission
answer_by_plan r (Err large) = submissions.Refused (refusals.TooLarge large.need large.room)
answer_by_plan r (Ok plan) =
    if has_credit r then
    unless_far_by r.side.terms.number r.next_xid (least_stored r.outstanding)
    (unless_spent (numbers_end - r.next_xid) 1
    (unless_spent (numbers_end - r.side.memory.next) (regions_needed plan) (submissions.Accepted r.next_xid)))
    else submissions.Refused (refusals.NoCredit (length r.outstanding) r.grant)

abbrev pub answer_if : RequesterState → Call → Form → Option End → Submission
answer_if r call form (Some end) = submissions.Refused (refusals.Ended end)
answer_if r call form None = answer_by_plan r (plan_under r call form)

-- Refused as ended, too large, without credit, above the window of a client with a number, or without numbers, in this order; else accepted under
-- the next xid.
unfoldable pub answer_of : RequesterState → Call → Form → Submission
answer_of r call form = answer_if r call form r.side.ended

-- a call was accepted under the next xid, and sent by its plan
pub record WasSent (before after : RequesterSide) (call : Call) (form : Form) (xid : ℕ) : Type 0 where
  pub live : before.state.side.ended ≡ None
  pub next : xid ≡ before.state.next_xid
  pub number : before.state.next_xid < 2 ^ 32
  pub plan : Plan
  pub is_plan : plan_under before.state call form ≡ Ok plan
  pub after_is : after ≡ after_submit before call plan
