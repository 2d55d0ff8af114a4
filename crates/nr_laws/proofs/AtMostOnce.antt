-- Nothing is done twice.
use Rattle.std.proofs.Common.{◌≡◌, ℕ, Bool, cond, List, [], ◌∷◌, ◌++◌, refl, sym, ap, subst, ◌∙◌, append_assoc}
use Rattle.std.specs.Prelude.{Contains}
use Rattle.std.proofs.lemmas.Bool.{eq-eqb}
use Rattle.std.proofs.lemmas.Grind.{flat_map-append}
use Rattle.std.proofs.lemmas.List.Elements.{Contains-push, Contains-append_left, Contains-append_right}
use Rattle.nr_reduce.specs.History.{CompletedCall, completed_at, completed_calls}
use Rattle.nr_reduce.proofs.Placing.{completes_once}
use Rattle.nr_reduce.specs.declared.call.Outcome.{Outcome}
use Rattle.nr_reduce.specs.declared.mark.Mark.{Mark}
use Rattle.nr_reduce.specs.declared.mark.Mark.TheVariants as marks
use Rattle.nr_reduce.specs.Matched.{IsPrefixOf}
use Rattle.nr_reduce.proofs.Once.{executes_once}
use Rattle.nr_laws.specs.Once.{NoSendTwice, NoCallTwice}

pub no_send_twice : NoSendTwice
no_send_twice opened link run before between xid yid moment now payload asked place later reply answer served h =
    executes_once IsPrefixOf opened link run before between h.after xid yid moment now payload asked place later reply answer
    (h.is ∙ append_assoc before (marks.Execute link xid moment payload place reply ∷ between) (marks.Execute link yid now asked later answer ∷ h.after)) served

completed_append : (link : ℕ) (xs ys : List Mark) → completed_calls link (xs ++ ys) ≡ completed_calls link xs ++ completed_calls link ys
unfolding completed_calls
completed_append link xs ys = flat_map-append (completed_at link) xs ys

completed_there : (link xid : ℕ) (outcome : Outcome) (before between : List Mark) → Contains (completed_calls link (before ++ marks.Done link xid outcome ∷ between)) (record { xid = xid; outcome = outcome })
unfolding completed_calls
completed_there link xid outcome before between =
    let done = marks.Done link xid outcome in
    let c : CompletedCall = record { xid = xid; outcome = outcome } in
    let here : completed_at link done ≡ c ∷ [] = ap (λ (b : Bool). cond b (c ∷ []) []) (eq-eqb link link refl) in
    let one : Contains (completed_at link done) c = subst (λ (cs : List CompletedCall). Contains cs c) (sym here) (Contains-push [] c) in
    subst (λ (cs : List CompletedCall). Contains cs c) (sym (completed_append link before (done ∷ between)))
    (Contains-append_right (completed_calls link before) (completed_calls link (done ∷ between)) c
    (Contains-append_left (completed_at link done) (completed_calls link between) c one))

pub no_call_twice : NoCallTwice
no_call_twice opened link run before between xid yid outcome later asked h same =
    completes_once IsPrefixOf opened link yid later run (before ++ marks.Done link xid outcome ∷ between) h.after h.is asked
    (record { xid = xid; outcome = outcome }) (completed_there link xid outcome before between) same
