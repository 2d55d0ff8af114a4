-- A reply that is handed over is that of the executed call, byte for byte.
use Rattle.std.specs.Prelude.{◌≡◌, ℕ, List, Some}
use Rattle.nr_reduce.specs.declared.call.Call.{Call}
use Rattle.nr_reduce.specs.declared.call.Form.{Form}
use Rattle.nr_reduce.specs.declared.call.Outcome.TheVariants as outcomes
use Rattle.nr_outside.specs.declared.moment.Moment.{Moment}
use Rattle.nr_reduce.specs.declared.mark.Mark.{Mark}
use Rattle.nr_reduce.specs.declared.mark.Mark.TheVariants as marks
use Rattle.nr_reduce.specs.declared.mark.LinkParameters.{LinkParameters}
use Rattle.nr_reduce.specs.declared.outline.Plan.{Plan}
use Rattle.nr_reduce.specs.ClientState.{call_payload}
use Rattle.nr_laws.specs.MarkAt.{MarkAt}
use Rattle.nr_laws.specs.Payloads.{HasPlan, form_conveyed}
use Rattle.nr_laws.specs.MatchedSoFar.{MatchedSoFar}
use Rattle.nr_laws.specs.Typed.{IsTyped}

-- On a matched link a call whose reply is handed over was accepted before that, and goes out by a plan.
abbrev pub RepliesHavePlans : Type 0
RepliesHavePlans = (opened : LinkParameters) (link : ℕ) (run before : List Mark) (xid : ℕ) (reply : List ℕ) →
    IsTyped run → MatchedSoFar opened link run → MarkAt run before (marks.Done link xid (outcomes.Reply reply)) → (plan : Plan) × HasPlan opened link before xid plan

-- The call was executed under this xid on the link, with what its form conveys of its own payload, and exactly these bytes are its reply.
pub record HasReply (link : ℕ) (run : List Mark) (xid : ℕ) (call : Call) (form : Form) (reply : List ℕ) : Type 0 where
  pub moment : Moment
  pub payload : List ℕ
  pub place : ℕ
  pub before : List Mark
  pub at : MarkAt run before (marks.Execute link xid moment payload place reply)
  pub conveyed : form_conveyed form (call_payload xid call) ≡ Some payload

-- On a matched link the reply that is handed over of a call, whatever its plan, is the one with which that call was executed before, byte
-- for byte: with its own payload, and for an offer that is given with what that offer conveys of it.
abbrev pub ExecutedRepliesAreHandedOver : Type 0
ExecutedRepliesAreHandedOver = (opened : LinkParameters) (link : ℕ) (run before : List Mark) (xid : ℕ) (plan : Plan) (reply : List ℕ) →
    IsTyped run → MatchedSoFar opened link run → (has : HasPlan opened link run xid plan) →
    MarkAt run before (marks.Done link xid (outcomes.Reply reply)) → HasReply link before xid has.call has.form reply
