-- What a server executes, of what its client submitted.
use Rattle.std.specs.Prelude.{◌≡◌, ℕ, List, Option, Some, Ok}
use Rattle.nr_reduce.specs.declared.call.Call.{Call}
use Rattle.nr_reduce.specs.declared.call.Form.{Form}
use Rattle.nr_reduce.specs.declared.call.Form.TheVariants as forms
use Rattle.nr_reduce.specs.declared.call.Submission.TheVariants as submissions
use Rattle.nr_outside.specs.declared.moment.Moment.{Moment}
use Rattle.nr_reduce.specs.declared.mark.Mark.{Mark}
use Rattle.nr_reduce.specs.declared.mark.Mark.TheVariants as marks
use Rattle.nr_reduce.specs.declared.mark.LinkParameters.{LinkParameters}
use Rattle.nr_reduce.specs.declared.outline.Plan.{Plan}
use Rattle.nr_reduce.specs.ClientState.{call_payload, plan_for}
use Rattle.nr_reduce.specs.PayloadLaws.{given_conveyed}
use Rattle.nr_reduce.specs.Run.{client}
use Rattle.nr_laws.specs.MarkAt.{MarkAt}
use Rattle.nr_laws.specs.MatchedSoFar.{MatchedSoFar}
use Rattle.nr_laws.specs.Typed.{IsTyped}

-- a call was accepted under this xid on the link, and goes out by this plan
pub record HasPlan (opened : LinkParameters) (link : ℕ) (run : List Mark) (xid : ℕ) (plan : Plan) : Type 0 where
  pub call : Call
  pub form : Form
  pub before : List Mark
  pub at : MarkAt run before (marks.Submit link call form (submissions.Accepted xid))
  pub planned : plan_for (client opened link before).state xid call form ≡ Ok plan

-- On a matched link a call that is executed was accepted before that.
abbrev pub ExecutesHavePlans : Type 0
ExecutesHavePlans = (opened : LinkParameters) (link : ℕ) (run before : List Mark) (xid : ℕ) (moment : Moment) (payload : List ℕ) (place : ℕ) (reply : List ℕ) →
    IsTyped run → MatchedSoFar opened link run → MarkAt run before (marks.Execute link xid moment payload place reply) → (plan : Plan) × HasPlan opened link before xid plan

-- What a form conveys of a call's payload, if anything: all of it; of an offer that is given, what that offer conveys.
abbrev pub form_conveyed : Form → List ℕ → Option (List ℕ)
form_conveyed forms.Auto payload = Some payload
form_conveyed forms.Inline payload = Some payload
form_conveyed forms.Chunk payload = Some payload
form_conveyed forms.Long payload = Some payload
form_conveyed (forms.Given offer) payload = given_conveyed payload offer.read_at offer.read

-- On a matched link a call is executed with what its form conveys of its own payload.
abbrev pub PayloadsAreOwn : Type 0
PayloadsAreOwn = (opened : LinkParameters) (link : ℕ) (run before : List Mark) (xid : ℕ) (plan : Plan) (moment : Moment) (payload : List ℕ) (place : ℕ) (reply : List ℕ) →
    IsTyped run → MatchedSoFar opened link run → (has : HasPlan opened link run xid plan) →
    MarkAt run before (marks.Execute link xid moment payload place reply) → form_conveyed has.form (call_payload xid has.call) ≡ Some payload
