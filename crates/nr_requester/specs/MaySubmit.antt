-- Whether a new call is refused neither since no credit is left nor since its xid is too far above the least one.
use Rattle.std.specs.Prelude.{Bool, true, false, not, ◌&&◌, ◌||◌, ℕ, ◌-◌, ◌==◌, nat_lt, nat_le, if◌then◌else◌, List, length, Option, None, Some, is_some}
use Rattle.nr_link.specs.declared.end.End.{End}
use Rattle.nr_reduce.specs.declared.mark.LinkParameters.{LinkParameters}
use Rattle.nr_reduce.specs.declared.mark.Mark.{Mark}
use Rattle.nr_reduce.specs.ClientState.{ClientState}
use Rattle.nr_reduce.specs.EndRules.{EndState}
use Rattle.nr_reduce.specs.Limits.{window}
use Rattle.nr_reduce.specs.Run.{client}
use Rattle.nr_reduce.specs.SubmitAnswer.{calls_counted, least_xid}
use Rattle.nr_requester.specs.RequesterState.{RequesterState}
use Rattle.nr_requester.specs.Sending.{least_stored}

-- the next xid of a client with a number is too far above the least one of these
abbrev pub is_far_from : (next : ℕ) → Option ℕ → Bool
is_far_from next None = false
is_far_from next (Some oldest) = nat_le window (next - oldest)

abbrev pub is_far : (number next : ℕ) → Option ℕ → Bool
is_far number next least = if number == 0 then false else is_far_from next least

-- A credit is left, and the next xid isn't too far above the least one. One that has ended refuses a call before it compares xids.
abbrev pub may_submit_by : Option End → (grant counted : ℕ) → (none_held far : Bool) → Bool
may_submit_by ended grant counted none_held far = nat_lt counted grant && (is_some ended || (none_held && not far))

-- no credit is left for a new call while a Send is held back
unfoldable pub may_submit : RequesterState → Bool
may_submit r =
    may_submit_by r.side.ended r.grant (length r.outstanding) (length r.side.send_queue.held == 0)
    (is_far r.side.terms.number r.next_xid (least_stored r.outstanding))

-- the same of a client in this state: calls that wait to be sent again count as outstanding
abbrev pub may_be_submitted : EndState ClientState → Bool
may_be_submitted e =
    may_submit_by e.ended e.state.grant (calls_counted e.state) true
    (is_far e.state.terms.number e.state.next_xid (least_xid e.state.outstanding e.state.waiting))

-- the same of the client after these marks
unfoldable pub client_may_submit : LinkParameters → ℕ → List Mark → Bool
client_may_submit opened link run = may_be_submitted (client opened link run)
