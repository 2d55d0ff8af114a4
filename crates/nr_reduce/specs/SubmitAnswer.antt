-- What a client answers to a call that it is given.
use Rattle.std.specs.Prelude.{Bool, true, false, ◌&&◌, ℕ, ◌+◌, ◌-◌, ◌==◌, nat_lt, nat_le, if◌then◌else◌, List, [], ◌∷◌, length, take, Option, None, Some, is_none, Result, Ok, Err}
use Rattle.nr_reduce.specs.declared.call.Call.{Call}
use Rattle.nr_link.specs.declared.end.End.{End}
use Rattle.nr_reduce.specs.declared.call.Form.{Form}
use Rattle.nr_reduce.specs.declared.call.Refused.TheVariants as refusals
use Rattle.nr_reduce.specs.declared.call.Submission.{Submission}
use Rattle.nr_reduce.specs.declared.call.Submission.TheVariants as submissions
use Rattle.nr_reduce.specs.declared.mark.Mark.{Mark}
use Rattle.nr_reduce.specs.declared.mark.LinkParameters.{LinkParameters}
use Rattle.nr_reduce.specs.Limits.{numbers_end, window}
use Rattle.nr_reduce.specs.declared.outline.Plan.{Plan}
use Rattle.nr_reduce.specs.Plans.{TooLarge, regions_needed}
use Rattle.nr_reduce.specs.EndRules.{EndState}
use Rattle.nr_reduce.specs.ClientState.{OutstandingCall, WaitingCall, ClientState, plan_for}
use Rattle.nr_reduce.specs.Run.{client}
use Rattle.nr_reduce.specs.History.{is_dropped}

-- The xid of the call that is sent next: the first that waits to be sent again, else a new call.
abbrev pub first_xid_or : (next : ℕ) → List WaitingCall → ℕ
first_xid_or next [] = next
first_xid_or next (w ∷ waiting) = w.xid

abbrev pub next_sent_xid : ClientState → ℕ
next_sent_xid k = first_xid_or k.next_xid k.waiting

-- The calls that are to be sent again now: once the server's hello was received, as many of those that wait as the grant allows beside the
-- outstanding ones.
unfoldable pub calls_to_resend : EndState ClientState → List WaitingCall
calls_to_resend r = if is_none r.ended && r.state.has_hello then take (r.state.grant - length r.state.outstanding) r.state.waiting else []

-- how many calls count for the grant at a Submit: those that are outstanding, and those that wait
abbrev pub calls_counted : ClientState → ℕ
calls_counted k = length k.outstanding + length k.waiting

-- A client with a number submits no call whose xid is too far above the least one of these: its server might find that one old.
abbrev pub least_xid : List OutstandingCall → List WaitingCall → Option ℕ
least_xid (o ∷ outstanding) waiting = Some o.xid
least_xid [] (w ∷ waiting) = Some w.xid
least_xid [] [] = None

abbrev pub unless_far_from : (next : ℕ) → Option ℕ → Submission → Submission
unless_far_from next None answer = answer
unless_far_from next (Some oldest) answer = if nat_le window (next - oldest) then submissions.Refused (refusals.Window oldest next) else answer

abbrev pub unless_far_by : (number next : ℕ) → Option ℕ → Submission → Submission
unless_far_by number next least answer = if number == 0 then answer else unless_far_from next least answer

abbrev pub unless_far : ClientState → Submission → Submission
unless_far k answer = unless_far_by k.terms.number k.next_xid (least_xid k.outstanding k.waiting) answer

-- The first of these that applies: it has ended; the call needs more room than there is; no credit is left; its xid is too far above the least
-- one; too few xids or STags are left. Else the call is accepted under the next xid.
abbrev pub unless_spent : (left need : ℕ) → Submission → Submission
unless_spent left need answer = if nat_lt left need then submissions.Refused (refusals.Spent left need) else answer

abbrev pub by_plan : ClientState → Result Plan TooLarge → Submission
by_plan k (Err large) = submissions.Refused (refusals.TooLarge large.need large.room)
by_plan k (Ok plan) =
    if nat_le k.grant (calls_counted k) then submissions.Refused (refusals.NoCredit (calls_counted k) k.grant)
    else unless_far k
    (unless_spent (numbers_end - k.next_xid) 1
    (unless_spent (numbers_end - k.stag) (regions_needed plan) (submissions.Accepted k.next_xid)))

abbrev pub answer_by : ClientState → Call → Form → Option End → Submission
answer_by k call form (Some end) = submissions.Refused (refusals.Ended end)
answer_by k call form None = by_plan k (plan_for k k.next_xid call form)

unfoldable pub submit_answer : EndState ClientState → Call → Form → Submission
submit_answer r call form = answer_by r.state call form r.ended

-- on a dropped link a call is refused as one on a link that has ended, and there is no End to report
abbrev pub unless_dropped : Bool → Submission → Submission
unless_dropped true answer = submissions.Dropped
unless_dropped false answer = answer

-- the answer to a Submit after these marks
unfoldable pub submit_answer_after : LinkParameters → ℕ → List Mark → Call → Form → Submission
submit_answer_after opened link run call form = unless_dropped (is_dropped link run) (submit_answer (client opened link run) call form)
