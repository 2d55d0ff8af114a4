-- What stands in the first marks of a run stands in the run.
use Rattle.std.proofs.Common.{◌≡◌, ℕ, List, ◌∷◌, ◌++◌, ap, ◌∙◌, append_assoc}
use Rattle.nr_reduce.specs.declared.call.Submission.TheVariants as submissions
use Rattle.nr_reduce.specs.declared.mark.Mark.{Mark}
use Rattle.nr_reduce.specs.declared.mark.Mark.TheVariants as marks
use Rattle.nr_reduce.specs.declared.mark.LinkParameters.{LinkParameters}
use Rattle.nr_reduce.specs.declared.outline.Plan.{Plan}
use Rattle.nr_laws.specs.MarkAt.{MarkAt}
use Rattle.nr_laws.specs.Payloads.{HasPlan}

pub mark_later : (run before : List Mark) (mark : Mark) (after earlier : List Mark) (own : Mark) → run ≡ before ++ mark ∷ after → MarkAt before earlier own → MarkAt run earlier own
mark_later run before mark after earlier own is at = record {
  after = at.after ++ mark ∷ after;
  is = is ∙ ap (λ (b : List Mark). b ++ mark ∷ after) at.is ∙ append_assoc earlier (own ∷ at.after) (mark ∷ after);
}

abbrev pub plan_later : (opened : LinkParameters) (link : ℕ) (run before : List Mark) (mark : Mark) (after : List Mark) (xid : ℕ) (plan : Plan) → run ≡ before ++ mark ∷ after → HasPlan opened link before xid plan → HasPlan opened link run xid plan
plan_later opened link run before mark after xid plan is has = record {
  call = has.call;
  form = has.form;
  before = has.before;
  at = mark_later run before mark after has.before (marks.Submit link has.call has.form (submissions.Accepted xid)) is has.at;
  planned = has.planned;
}
