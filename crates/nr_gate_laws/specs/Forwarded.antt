-- How the plain server answers a call as a gateway forwards it (RFC 5531 section 9).
use Rattle.std.specs.Prelude.{◌≡◌, ℕ, ◌^◌, ◌<◌, ◌≤◌, true, List, length, is_some, Ok}
use Rattle.std.specs.Option.{option_map}
use Rattle.nr_xdr.specs.Item.{IsBytes}
use Rattle.nr_rpc.specs.Reading.{call_of, head_xid, target_of}
use Rattle.nr_rpc.specs.declared.head.CallHead.{CallHead}
use Rattle.nr_outside.specs.declared.moment.Moment.{Moment}
use Rattle.nr_reduce.specs.declared.mark.Entry.{Entry}
use Rattle.nr_plain.specs.Replies.{Answer, plain_answer, plain_reply}
use Rattle.nr_plain.specs.Setup.{Parameters, Setup, State}
use Rattle.nr_link.specs.Limits.{send_unit}
use Rattle.nr_record.specs.Constants.{RECORD_MAX}
use Rattle.nr_reduce.specs.declared.call.Form.TheVariants as forms
use Rattle.nr_reduce.specs.declared.outline.Plan.{Plan}
use Rattle.nr_reduce.specs.Plans.{plan_of}
use Rattle.nr_gate.specs.Forwarding.{forwarded, with_xid}

-- an answer with another xid
abbrev pub answer_with_xid : ℕ → Answer → Answer
answer_with_xid x a = record { reply = with_xid x a.reply; entries = a.entries }

-- a call of RPC version 2
abbrev pub IsVersion2 : List ℕ → Type 0
IsVersion2 q = is_some (target_of (call_of q)) ≡ true

-- Over every state of the plain server the answer to the forwarded call is that to the call itself, but for the xid: the same entry, or none.
abbrev pub ForwardedAnswersAreAlike : Type 0
ForwardedAnswersAreAlike = (s : Parameters) (st : State) (m : Moment) (x : ℕ) (q : List ℕ) → IsBytes q → x < 2 ^ 32 → IsVersion2 q →
    plain_answer s st m (forwarded x q) ≡ option_map (answer_with_xid x) (plain_answer s st m q)

-- so is its reply at each place of a journal
abbrev pub ForwardedRepliesAreAlike : Type 0
ForwardedRepliesAreAlike = (s : Setup) (J : List Entry) (place : ℕ) (m : Moment) (x : ℕ) (q : List ℕ) → IsBytes q → x < 2 ^ 32 → IsVersion2 q →
    plain_reply s J place m (forwarded x q) ≡ option_map (with_xid x) (plain_reply s J place m q)

-- With the xid of the call the reply to the forwarded call is the reply to the call itself.
abbrev pub RepliesComeBack : Type 0
RepliesComeBack = (s : Setup) (J : List Entry) (place : ℕ) (m : Moment) (x : ℕ) (q : List ℕ) (head : CallHead) → IsBytes q → x < 2 ^ 32 → IsVersion2 q →
    call_of q ≡ Ok head → option_map (with_xid (head_xid head)) (plain_reply s J place m (forwarded x q)) ≡ plain_reply s J place m q

-- A forwarded call has at most as many bytes as the call.
abbrev pub ForwardedCallsAreNoLonger : Type 0
ForwardedCallsAreNoLonger = (x : ℕ) (q : List ℕ) → IsBytes q → length (forwarded x q) ≤ length q

-- The forwarded call of a record within the limit has a plan in the form Auto (RFC 8166 section 3.5), whatever sizes of a Send its link has agreed
-- on: so it is never too large.
abbrev pub ForwardedCallsHavePlans : Type 0
ForwardedCallsHavePlans = (x : ℕ) (q : List ℕ) (up down : ℕ) → IsBytes q → length q ≤ RECORD_MAX → send_unit ≤ up → (p : Plan) × (plan_of (forwarded x q) forms.Auto up down ≡ Ok p)
