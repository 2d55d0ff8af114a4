-- On a matched link no xid is executed twice.
use Rattle.std.proofs.Common.{◌≡◌, ℕ, List, [], ◌∷◌, ◌++◌, refl, subst, ◌∙◌, arith, append_assoc, sym, ap}
use Rattle.nr_outside.specs.declared.moment.Moment.{Moment}
use Rattle.nr_reduce.specs.declared.call.Submission.TheVariants as submissions
use Rattle.nr_reduce.specs.declared.mark.Mark.{Mark}
use Rattle.nr_reduce.specs.declared.mark.Mark.TheVariants as marks
use Rattle.nr_reduce.specs.declared.mark.LinkParameters.{LinkParameters}
use Rattle.nr_reduce.specs.AtEachMark.{AtEachMark}
use Rattle.nr_reduce.specs.Matched.{MatchedMark, IsPrefixOf}
use Rattle.nr_reduce.specs.Asked.{AskedMark}
use Rattle.nr_reduce.specs.Served.{ServedMark, IsExecuted}
use Rattle.nr_laws.specs.MatchedSoFar.{MatchedSoFar}
use Rattle.nr_reduce.proofs.Steps.{AtEachMark_first}
use Rattle.nr_reduce.proofs.Placing.{AtEachMark_at, xids_differ}
use Rattle.nr_reduce.proofs.Once.{executes_once}
use Rattle.nr_laws.specs.Typed.{TypedMark, IsTyped}
use Rattle.nr_laws.specs.Once.{NoXidTwice}
use Rattle.nr_laws.proofs.Ordered.{Order, order}
use Rattle.nr_laws.proofs.Ordered.Order.{Here, Behind, Before}
use Rattle.nr_laws.proofs.ExecutedCalls.{ExecutedSubmit, executed_submit}
use Rattle.nr_reduce.specs.Run.{client}
use Rattle.nr_reduce.specs.declared.call.Call.{Call}
use Rattle.nr_reduce.specs.declared.call.Form.{Form}

-- a mark of a run, with what holds of the marks before it
pub at_mark : (P : List Mark → Mark → Type 0) (run before : List Mark) (mark : Mark) (after : List Mark) → run ≡ before ++ mark ∷ after → AtEachMark P [] run → P before mark
at_mark P run before mark after is h = AtEachMark_at P [] before mark after (subst (λ (r : List Mark). AtEachMark P [] r) is h)

pub before_mark : (P : List Mark → Mark → Type 0) (run before : List Mark) (mark : Mark) (after : List Mark) → run ≡ before ++ mark ∷ after → AtEachMark P [] run → AtEachMark P [] before
before_mark P run before mark after is h = AtEachMark_first P [] before (mark ∷ after) (subst (λ (r : List Mark). AtEachMark P [] r) is h)

-- an executed call with its Submit
pub record ExecutedAt (opened : LinkParameters) (link : ℕ) (before : List Mark) (xid : ℕ) (payload : List ℕ) : Type 0 where
  pub executed : IsExecuted opened link before xid payload
  pub submit : ExecutedSubmit opened link before xid payload executed

pub executed_at_lem : (opened : LinkParameters) (link : ℕ) (run before after : List Mark) (xid : ℕ) (moment : Moment) (payload : List ℕ) (place : ℕ) (reply : List ℕ) → IsTyped run → MatchedSoFar opened link run
    → run ≡ before ++ marks.Execute link xid moment payload place reply ∷ after → ExecutedAt opened link before xid payload
executed_at_lem opened link run before after xid moment payload place reply typed far is =
    let mark = marks.Execute link xid moment payload place reply in
    let h : IsExecuted opened link before xid payload = at_mark (ServedMark IsPrefixOf opened link) run before mark after is far.served refl in
    record {
      executed = h;
      submit = executed_submit opened link before xid payload (before_mark TypedMark run before mark after is typed) (before_mark (AskedMark IsPrefixOf opened link) run before mark after is far.asked)
          (before_mark (MatchedMark link) run before mark after is far.matched) h;
    }

-- of two Submits under one xid there is one
pub one_submit : (opened : LinkParameters) (link : ℕ) (run early late rest others : List Mark) (call other : Call) (form way : Form) (xid yid : ℕ) → MatchedSoFar opened link run → xid ≡ yid
    → run ≡ early ++ marks.Submit link call form (submissions.Accepted xid) ∷ rest → run ≡ late ++ marks.Submit link other way (submissions.Accepted yid) ∷ others → early ≡ late
one_submit opened link run early late rest others call other form way xid yid far same here again =
    by (order early (marks.Submit link call form (submissions.Accepted xid)) rest late (marks.Submit link other way (submissions.Accepted yid)) others (sym here ∙ again))
  where
    by : Order early (marks.Submit link call form (submissions.Accepted xid)) rest late (marks.Submit link other way (submissions.Accepted yid)) others → early ≡ late
    by (Here e m) = e
    by (Behind gap e then) =
        absurd (let lt = xids_differ IsPrefixOf opened link run early gap others call other form way xid yid (here ∙ ap (λ (t : List Mark). early ++ marks.Submit link call form (submissions.Accepted xid) ∷ t) then) far.asked in omega (arith, lt, same))
    by (Before gap e then) =
        absurd (let lt = xids_differ IsPrefixOf opened link run late gap rest other call way form yid xid
        (again ∙ ap (λ (t : List Mark). late ++ marks.Submit link other way (submissions.Accepted yid) ∷ t) then) far.asked in omega (arith, lt, same))

pub no_xid_twice : NoXidTwice
no_xid_twice opened link run before between xid yid moment now payload asked place later reply answer typed far h same =
    let first = marks.Execute link xid moment payload place reply in
    let second = marks.Execute link yid now asked later answer in
    let whole : run ≡ before ++ first ∷ (between ++ second ∷ h.after) = h.is ∙ append_assoc before (first ∷ between) (second ∷ h.after) in
    let a = executed_at_lem opened link run before (between ++ second ∷ h.after) xid moment payload place reply typed far whole in
    let b = executed_at_lem opened link run (before ++ first ∷ between) h.after yid now asked later answer typed far h.is in
    let v = a.submit.submitted in
    let w = b.submit.submitted in
    let one : run ≡ v.earlier ++ marks.Submit link v.call v.form (submissions.Accepted v.xid) ∷ (v.later ++ first ∷ (between ++ second ∷ h.after)) =
    whole ∙ ap (λ (r : List Mark). r ++ first ∷ (between ++ second ∷ h.after)) v.is ∙ append_assoc v.earlier (marks.Submit link v.call v.form (submissions.Accepted v.xid) ∷ v.later) (first ∷ (between ++ second ∷ h.after)) in
    let two : run ≡ w.earlier ++ marks.Submit link w.call w.form (submissions.Accepted w.xid) ∷ (w.later ++ second ∷ h.after) =
    h.is ∙ ap (λ (r : List Mark). r ++ second ∷ h.after) w.is ∙ append_assoc w.earlier (marks.Submit link w.call w.form (submissions.Accepted w.xid) ∷ w.later) (second ∷ h.after) in
    let x = a.submit.own_xid in
    let y = b.submit.own_xid in
    let m = a.submit.number in
    let n = b.submit.number in
    let there : v.earlier ≡ w.earlier =
    one_submit opened link run v.earlier w.earlier (v.later ++ first ∷ (between ++ second ∷ h.after)) (w.later ++ second ∷ h.after) v.call w.call v.form w.form v.xid w.xid far (omega (arith, x, y, same)) one two in
    let sends = ap (λ (r : List Mark). (client opened link r).state.sends) there in
    let equal : a.executed.call.number ≡ b.executed.call.number = omega (arith, m, n, sends) in
    executes_once IsPrefixOf opened link run before between h.after xid yid moment now payload asked place later reply answer whole far.served
    a.executed.call b.executed.call a.executed.is_next b.executed.is_next equal
