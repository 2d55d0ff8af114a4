-- Places in the one journal follow what callers see.
use Rattle.std.specs.Prelude.{ℕ, ◌≤◌, List, ◌∷◌, ◌++◌}
use Rattle.nr_reduce.specs.declared.call.Call.{Call}
use Rattle.nr_reduce.specs.declared.call.Form.{Form}
use Rattle.nr_reduce.specs.declared.call.Outcome.{Outcome}
use Rattle.nr_reduce.specs.declared.call.Submission.TheVariants as submissions
use Rattle.nr_outside.specs.declared.moment.Moment.{Moment}
use Rattle.nr_reduce.specs.declared.mark.Entry.{Entry}
use Rattle.nr_reduce.specs.declared.mark.Mark.{Mark}
use Rattle.nr_reduce.specs.declared.mark.Mark.TheVariants as marks
use Rattle.nr_reduce.specs.declared.mark.LinkParameters.{LinkParameters}
use Rattle.nr_reduce.specs.PlainJournal.{any_that_adds}
use Rattle.nr_reduce.specs.Journal.{Journaled}
use Rattle.nr_laws.specs.MatchedSoFar.{MatchedSoFar}
use Rattle.nr_laws.specs.MarkAt.{MarkAt}
use Rattle.nr_laws.specs.Typed.{IsTyped}

-- On matched links, which may be one, a call is submitted after the outcome of another was handed over. If both are executed, at
-- whatever time, its place isn't smaller.
abbrev pub PlacesFollow : Type 0
PlacesFollow = (adds : Moment → List ℕ → List ℕ → List Entry) (J : List Entry) (opened other_opened : LinkParameters) (link other_link : ℕ)
    (run before between before_first before_second : List Mark) (call : Call) (form : Form) (xid other_xid : ℕ) (outcome : Outcome)
    (moment other_moment : Moment) (payload other_payload : List ℕ) (place other_place : ℕ) (reply other_reply : List ℕ) →
    IsTyped run → MatchedSoFar opened link run → MatchedSoFar other_opened other_link run → Journaled (any_that_adds adds) J run →
    MarkAt run (before ++ marks.Done link xid outcome ∷ between) (marks.Submit other_link call form (submissions.Accepted other_xid)) →
    MarkAt run before_first (marks.Execute link xid moment payload place reply) →
    MarkAt run before_second (marks.Execute other_link other_xid other_moment other_payload other_place other_reply) → place ≤ other_place
