-- The outcomes of what a request exchanges are those that it is read by.
use Rattle.std.proofs.Common.{◌≡◌, ℕ, List, [], ◌∷◌, ◌++◌, map, Option, Result, inl, inr, refl, sym, ap, ◌∙◌, append_assoc, append-nil}
use Rattle.std.proofs.lemmas.Grind.{flat_map-append}
use Rattle.nr_reduce.specs.declared.call.Call.{Call}
use Rattle.nr_reduce.specs.declared.call.Outcome.{Outcome}
use Rattle.nr_shared.specs.declared.call_end.CallEnd.{CallEnd}
use Rattle.nr_client.specs.declared.client_end.ClientEnd.{ClientEnd}
use Rattle.nr_client.specs.Calls.{GivesUp}
use Rattle.nr_client.specs.Following.{EndsWith, MakesCalls, Next, Unanswered}
use Rattle.nr_client.specs.Following.Next.{Calls, Returns}
use Rattle.nr_client.specs.Reading.{EndsReading, LeadsBy, OpenRead, ReadStep, ReadingAt, starts_at, xids_of}
use Rattle.nr_client.specs.Reading.ReadStepOver.{MakesAlone, AsksAhead, TakesOldest, Looks}
use Rattle.nr_client.specs.Reading.EndsReadingOver.{EndsByReplies, OutputFails, NotAnswered, NotSubmitted, OldestForgotten}
use Rattle.nr_client.specs.Views.{LinkView}
use Rattle.nr_service_laws.specs.Exchanges.{Exchange, end_exchanges, exchange_outcomes, given_up_exchanges, made_exchanges, outcomes_in, reading_end_exchanges, step_exchanges, steps_exchanges, unanswered_exchanges}
use Rattle.nr_service_laws.specs.Exchanges.Exchange.{GivenUp}
use Rattle.nr_service_laws.specs.SessionMarks.{FollowsOutcomes, ReadsInOrder}

pub outcomes_both : (made later : List Exchange) → outcomes_in (made ++ later) ≡ outcomes_in made ++ outcomes_in later
outcomes_both made later = flat_map-append exchange_outcomes made later

-- ---- A call without an answer has no outcome

given_up_none : (b c : LinkView) (call : Call) (end : CallEnd) (gives_up : GivesUp b c call end) → outcomes_in (given_up_exchanges b c call end gives_up).made ≡ []
given_up_none b c call end (inl refused) = refl
given_up_none b c call end (inr gone) = refl

unanswered_none : (call : Call) (b c : LinkView) (end : ClientEnd) (gone : Unanswered call b c end) → outcomes_in (unanswered_exchanges call b c end gone).made ≡ []
unanswered_none call b c end (inl (cause, (is, (gives_up, why)))) = given_up_none b c call cause gives_up
unanswered_none call b c end (inr memory) = refl

end_none : {A : Type 0} (next : Next A) (b c : LinkView) (given : Result A ClientEnd) (ends : EndsWith next b c given)
    → outcomes_in (end_exchanges next b c given ends).made ≡ []
end_none (Returns result) b c given ends = refl
end_none (Calls call) b c given (end, (is, gone)) = unanswered_none call b c end gone

-- ---- Requests of several calls

pub made_outcomes : {A : Type 0} (request : List Outcome → Next A) (outcomes : List Outcome) (b c : LinkView) (made : MakesCalls request outcomes b c)
    → outcomes_in (made_exchanges request outcomes b c made).made ≡ outcomes
made_outcomes request [] b c made = refl
made_outcomes request (outcome ∷ outcomes) b c (call, d, (is, (answers, rest))) =
    ap (λ (l : List Outcome). outcome ∷ l) (made_outcomes (λ later. request (outcome ∷ later)) outcomes d c rest)

pub followed_outcomes : {A : Type 0} → FollowsOutcomes A
followed_outcomes request b c given f =
    let made = (made_exchanges request f.outcomes b f.between f.made).made in
    let end = (end_exchanges (request f.outcomes) f.between c given f.ends).made in
    outcomes_both made end
    ∙ ap (λ (l : List Outcome). outcomes_in made ++ l) (end_none (request f.outcomes) f.between c given f.ends)
    ∙ append-nil (outcomes_in made) ∙ made_outcomes request f.outcomes b f.between f.made

-- ---- A file that is read

step_outcomes : (uid gid : ℕ) (file : List ℕ) (s t : ReadingAt) (step : ReadStep uid gid file s t) → s.outcomes ++ outcomes_in (step_exchanges uid gid file s t step).made ≡ t.outcomes
step_outcomes uid gid file s t (MakesAlone call outcome alone answers replies waits) = sym replies
step_outcomes uid gid file s t (AsksAhead read ahead submits replies waits) = append-nil s.outcomes ∙ sym replies
step_outcomes uid gid file s t (TakesOldest read outcome full is completes replies waits) = sym replies
step_outcomes uid gid file s t (Looks looks replies waits) = append-nil s.outcomes ∙ sym replies

steps_outcomes : (uid gid : ℕ) (file : List ℕ) (first : ReadingAt) (states : List ReadingAt) (last : ReadingAt) (leads : LeadsBy uid gid file first states last)
    → first.outcomes ++ outcomes_in (steps_exchanges uid gid file first states last leads).made ≡ last.outcomes
steps_outcomes uid gid file first [] last same = append-nil first.outcomes ∙ sym (ap (λ (r : ReadingAt). r.outcomes) same)
steps_outcomes uid gid file first (s ∷ states) last (step, leads) =
    let before = (steps_exchanges uid gid file first states s leads).made in
    let one = (step_exchanges uid gid file s last step).made in
    ap (λ (l : List Outcome). first.outcomes ++ l) (outcomes_both before one)
    ∙ sym (append_assoc first.outcomes (outcomes_in before) (outcomes_in one))
    ∙ ap (λ (l : List Outcome). l ++ outcomes_in one) (steps_outcomes uid gid file first states s leads)
    ∙ step_outcomes uid gid file s last step

reading_end_none : (uid gid : ℕ) (file : List ℕ) (s : ReadingAt) (left : List OpenRead) (b : LinkView) (taken taken' : Option (List ℕ)) (given : Result (Unit {0}) ClientEnd)
    (ends : EndsReading uid gid file s left b taken taken' given) → outcomes_in (reading_end_exchanges uid gid file s left b taken taken' given ends).made ≡ []
reading_end_none uid gid file s left b taken taken' given (EndsByReplies same is waits takes) = refl
reading_end_none uid gid file s left b taken taken' given (OutputFails is same waits takes) = refl
reading_end_none uid gid file s left b taken taken' given (NotAnswered call end alone is gone waits takes) = unanswered_none call s.link b end gone
reading_end_none uid gid file s left b taken taken' given (NotSubmitted call end ahead is refused waits takes) = refl
reading_end_none uid gid file s left b taken taken' given (OldestForgotten read end full is given_is forgets waits takes) = refl

given_up_outcomes : (xids : List ℕ) → outcomes_in (map GivenUp xids) ≡ []
given_up_outcomes [] = refl
given_up_outcomes (xid ∷ xids) = given_up_outcomes xids

pub read_outcomes : ReadsInOrder
read_outcomes uid gid file b c taken taken' given f =
    let steps = (steps_exchanges uid gid file (starts_at b) f.between f.last f.made).made in
    let end = (reading_end_exchanges uid gid file f.last f.left f.ended taken taken' given f.ends).made in
    let none : outcomes_in (end ++ map GivenUp (xids_of f.left)) ≡ [] =
    outcomes_both end (map GivenUp (xids_of f.left))
    ∙ ap (λ (l : List Outcome). l ++ outcomes_in (map GivenUp (xids_of f.left))) (reading_end_none uid gid file f.last f.left f.ended taken taken' given f.ends)
    ∙ given_up_outcomes (xids_of f.left) in
    outcomes_both steps (end ++ map GivenUp (xids_of f.left))
    ∙ ap (λ (l : List Outcome). outcomes_in steps ++ l) none
    ∙ append-nil (outcomes_in steps) ∙ steps_outcomes uid gid file (starts_at b) f.between f.last f.made
