-- A call that has no answer.
use Rattle.std.proofs.Common.{◌≡◌, ◌≢◌, ◌<◌, ℕ, length, arith, inl, inr, Bool, true, false, cond, not, ◌||◌, eqb, List, [], ◌∷◌, map, Option, None, Some, is_some, refl, sym, ap, subst, ◌∙◌}
use Rattle.std.specs.Prelude.{Contains}
use Rattle.std.specs.List.{find, list_any}
use Rattle.std.proofs.lemmas.Bool.{eq-eqb, ne_eqb}
use Rattle.nr_reduce.specs.declared.mark.LinkParameters.{LinkParameters}
use Rattle.nr_reduce.specs.declared.mark.Mark.{Mark}
use Rattle.nr_reduce.specs.History.{CompletedCall, completed_calls}
use Rattle.nr_reduce.specs.OutcomesDue.{is_completed}
use Rattle.nr_reduce.specs.Run.{client}
use Rattle.nr_reduce.specs.Asked.{IsAwaited}
use Rattle.nr_requester.specs.declared.answer.AnsweredCall.{AnsweredCall}
use Rattle.nr_requester.specs.RequesterState.{RequesterSide, StoredCall}
use Rattle.nr_requester.specs.AfterCalls.{after_drain}
use Rattle.nr_requester.specs.KeptAnswers.{is_due, completed_of}
use Rattle.nr_requester.specs.Standing.{RequesterRepresents}
use Rattle.nr_requester.specs.OpenCalls.{call_with, found_answer, open_call}
use Rattle.nr_requester.proofs.DueAnswers.{Among, from_among, to_among, in_filter}
use Rattle.nr_requester.proofs.OpenTickets.{open_is_awaited}
use Rattle.nr_shared.specs.declared.call_end.CallEnd.{CallEnd}
use Rattle.nr_client.specs.Steps.{AnswersNone, LacksAnswer}

abbrev none_of : AnsweredCall → Option AnsweredCall
none_of a = None

abbrev some_of : AnsweredCall → Option AnsweredCall
some_of a = Some a

any_none : (xid : ℕ) (cs : List CompletedCall) → ((c : CompletedCall) → Among c cs → c.xid ≢ xid) → list_any (λ c. eqb c.xid xid) cs ≡ false
any_none xid [] f = refl
any_none xid (x ∷ cs) f = λ i. ne_eqb x.xid xid (f x (inl refl)) i || any_none xid cs (λ c there. f c (inr there)) i

due_by : (link : ℕ) (run : List Mark) (xid : ℕ) → IsAwaited link run xid → is_due link run xid ≡ true
due_by link run xid w =
    let completed : is_completed link xid run ≡ false = any_none xid (completed_calls link run) (λ c there. w.first c (from_among c (completed_calls link run) there)) in
    λ i. not (w.kept i || completed i)

-- an outcome that is due is that of an answer
of_answer : (xid : ℕ) (c : CompletedCall) (answers : List AnsweredCall) → Among c (map completed_of answers) → c.xid ≡ xid → find (λ (a : AnsweredCall). eqb a.xid xid) answers ≢ None
of_answer xid c [] there own e = absurd there
of_answer xid c (a ∷ answers) there own e = by (eqb a.xid xid) refl (λ g f. of_answer xid c answers g own f) there e
  where
    by : (b : Bool) → eqb a.xid xid ≡ b → (Among c (map completed_of answers) → find (λ (a : AnsweredCall). eqb a.xid xid) answers ≡ None → ⊥) → Among c (map completed_of (a ∷ answers)) →
        cond b (Some a) (find (λ (a : AnsweredCall). eqb a.xid xid) answers) ≡ None → ⊥
    by true is rest g f = absurd (let wrong : some_of a ≡ none_of a = f in cc)
    by false is rest (inl same) f = absurd (let wrong : true ≡ false = sym (eq-eqb a.xid xid (ap (λ (y : CompletedCall). y.xid) same ∙ own)) ∙ is in cc)
    by false is rest (inr g) f = rest g f

-- no message brought an outcome of a call that is awaited and has no answer
pub none_came : (opened : LinkParameters) (link : ℕ) (h : RequesterSide) (run : List Mark) (xid : ℕ) → RequesterRepresents opened link h run → is_some (open_call xid h.state) ≡ true
    → found_answer xid h.state ≡ None → (c : CompletedCall) → Contains (client opened link run).state.outcomes c → c.xid ≢ xid
unfolding client
none_came opened link h run xid s is_open none c there own =
    let awaited : IsAwaited link run xid = open_is_awaited opened link h run xid s is_open in
    of_answer xid c h.state.answered
    (subst (λ (cs : List CompletedCall). Among c cs) (sym s.answers.outcomes)
    (in_filter (λ (c : CompletedCall). is_due link run c.xid) c (client opened link run).state.outcomes (to_among c (client opened link run).state.outcomes there)
    (ap (λ (x : ℕ). is_due link run x) own ∙ due_by link run xid awaited)))
    own none

-- ---- Answers after each step

pub drain_answers : (xid n : ℕ) (h i : RequesterSide) → i ≡ after_drain n h → found_answer xid i.state ≡ found_answer xid h.state
unfolding after_drain
drain_answers xid n h i is = ap (λ (x : RequesterSide). found_answer xid x.state) is

pub answers_after : (end : CallEnd) (h i j : RequesterSide) → ((xid : ℕ) → found_answer xid i.state ≡ found_answer xid h.state) → AnswersNone end i j → AnswersNone end h j
answers_after end h i j first (inl out) = inl out
answers_after end h i j first (inr second) = inr (λ xid. second xid ∙ first xid)

none_if : {A : Type 0} (o : Option A) → is_some o ≡ false → o ≡ None
none_if None e = refl
none_if (Some x) e = absurd cc

-- a call without an answer is outstanding
pub still_waits : (xid : ℕ) (h : RequesterSide) → is_some (open_call xid h.state) ≡ true → is_some (found_answer xid h.state) ≡ false → 0 < length h.state.outstanding
still_waits xid h is_open none = by h.state.outstanding is_open
  where
    by : (calls : List StoredCall) → is_some (call_with (find (λ (c : StoredCall). eqb c.xid xid) calls) (found_answer xid h.state)) ≡ true → 0 < length calls
    by [] open_is = absurd (let wrong : true ≡ false = sym open_is ∙ ap (λ (a : Option AnsweredCall). is_some (call_with None a)) (none_if (found_answer xid h.state) none) in cc)
    by (c ∷ calls) open_is = omega arith

pub lacks_after : (end : CallEnd) (xid : ℕ) (h i : RequesterSide) → is_some (found_answer xid h.state) ≡ false → AnswersNone end h i → LacksAnswer end xid i
lacks_after end xid h i none (inl out) = inl out
lacks_after end xid h i none (inr same) = inr (same xid ∙ none_if (found_answer xid h.state) none)
