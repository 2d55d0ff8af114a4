-- The calls and the outcomes of marks are those of their exchanges.
use Rattle.std.proofs.Common.{◌≡◌, ℕ, Bool, true, false, cond, not, List, [], ◌∷◌, ◌++◌, map, refl, sym, ap, ◌∙◌}
use Rattle.std.specs.List.{flat_map}
use Rattle.nr_reduce.specs.declared.call.Call.{Call}
use Rattle.nr_reduce.specs.declared.call.Form.TheVariants as forms
use Rattle.nr_reduce.specs.declared.call.Outcome.{Outcome}
use Rattle.nr_reduce.specs.declared.mark.Mark.{Mark}
use Rattle.nr_reduce.specs.declared.mark.Mark.TheVariants as marks
use Rattle.nr_reduce.specs.History.{AcceptedCall, CompletedCall, accepted_at, accepted_calls, completed_at, completed_calls}
use Rattle.nr_reduce.proofs.Standing.{itself}
use Rattle.nr_service_laws.specs.ClientMarks.{AreMarksOf, exchange_marks, moves_bytes, without_bytes}
use Rattle.nr_service_laws.specs.CommandRuns.{calls_of, outcomes_handed_over}
use Rattle.nr_service_laws.specs.Exchanges.{Exchange, exchange_calls, exchange_outcomes}
use Rattle.nr_service_laws.specs.Exchanges.Exchange.{Answered, Forgotten, GivenUp, HandedOver, Submitted}

-- marks of bytes are no calls and no outcomes
bytes_none : (link : ℕ) (m : Mark) → moves_bytes m ≡ true → (accepted_at link m ≡ []) × (completed_at link m ≡ [])
bytes_none link (marks.Wrote l side bytes) is = (refl, refl)
bytes_none link (marks.Fed l side bytes) is = (refl, refl)
bytes_none link (marks.Submit l call form answer) is = absurd cc
bytes_none link (marks.Execute l xid moment payload place reply) is = absurd cc
bytes_none link (marks.Done l xid outcome) is = absurd cc
bytes_none link (marks.Lost l xid) is = absurd cc
bytes_none link (marks.Forget l xid) is = absurd cc
bytes_none link (marks.Revoke l xid bytes) is = absurd cc
bytes_none link (marks.Drop l) is = absurd cc
bytes_none link (marks.Told l what) is = absurd cc

flat_without : {A : Type 0} (f : Mark → List A) (run : List Mark) → ((m : Mark) → moves_bytes m ≡ true → f m ≡ []) → flat_map f run ≡ flat_map f (without_bytes run)
flat_without f [] none = refl
flat_without {A} f (m ∷ run) none = by (flat_without f run none) (moves_bytes m) refl
  where
    by : flat_map f run ≡ flat_map f (without_bytes run) → (b : Bool) → moves_bytes m ≡ b → f m ++ flat_map f run ≡ flat_map f (cond (not (moves_bytes m)) (m ∷ without_bytes run) (without_bytes run))
    by rest true is = ap (λ (l : List A). l ++ flat_map f run) (none m is) ∙ rest ∙ ap (λ (b : Bool). flat_map f (cond (not b) (m ∷ without_bytes run) (without_bytes run))) (sym is)
    by rest false is = ap (λ (l : List A). f m ++ l) rest ∙ ap (λ (b : Bool). flat_map f (cond (not b) (m ∷ without_bytes run) (without_bytes run))) (sym is)

-- ---- Calls

calls_one : (link : ℕ) (e : Exchange) (xid : ℕ) (rest : List Mark) → calls_of link (exchange_marks link e xid ++ rest) ≡ exchange_calls e ++ calls_of link rest
unfolding accepted_calls
calls_one link (Answered call outcome) xid rest =
    ap (λ (b : Bool). map (λ (a : AcceptedCall). a.call) (cond b (record { xid = xid; call = call; form = forms.Auto } ∷ []) [] ++ flat_map (accepted_at link) rest)) (itself link)
calls_one link (Forgotten call) xid rest =
    ap (λ (b : Bool). map (λ (a : AcceptedCall). a.call) (cond b (record { xid = xid; call = call; form = forms.Auto } ∷ []) [] ++ flat_map (accepted_at link) rest)) (itself link)
calls_one link (Submitted number call) xid rest =
    ap (λ (b : Bool). map (λ (a : AcceptedCall). a.call) (cond b (record { xid = number; call = call; form = forms.Auto } ∷ []) [] ++ flat_map (accepted_at link) rest)) (itself link)
calls_one link (HandedOver number outcome) xid rest = refl
calls_one link (GivenUp number) xid rest = refl

calls_by : (link : ℕ) (made : List Exchange) (run : List Mark) → AreMarksOf link made run → calls_of link run ≡ flat_map exchange_calls made
unfolding accepted_calls
calls_by link [] run is = ap (λ (l : List Mark). calls_of link l) is
calls_by link (e ∷ made) run (xid, rest, (is, are)) =
    ap (λ (l : List Mark). calls_of link l) is ∙ calls_one link e xid rest ∙ ap (λ (l : List Call). exchange_calls e ++ l) (calls_by link made rest are)

calls_without : (link : ℕ) (run : List Mark) → calls_of link run ≡ calls_of link (without_bytes run)
unfolding accepted_calls
calls_without link run = ap (λ (l : List AcceptedCall). map (λ (a : AcceptedCall). a.call) l) (flat_without (accepted_at link) run (λ m is. (bytes_none link m is).0))

pub calls_are : (link : ℕ) (run : List Mark) (made : List Exchange) → AreMarksOf link made (without_bytes run) → calls_of link run ≡ flat_map exchange_calls made
calls_are link run made are = calls_without link run ∙ calls_by link made (without_bytes run) are

-- ---- Outcomes

outcomes_one : (link : ℕ) (e : Exchange) (xid : ℕ) (rest : List Mark) → outcomes_handed_over link (exchange_marks link e xid ++ rest) ≡ exchange_outcomes e ++ outcomes_handed_over link rest
unfolding completed_calls
outcomes_one link (Answered call outcome) xid rest =
    ap (λ (b : Bool). map (λ (c : CompletedCall). c.outcome) (cond b (record { xid = xid; outcome = outcome } ∷ []) [] ++ flat_map (completed_at link) rest)) (itself link)
outcomes_one link (Forgotten call) xid rest = refl
outcomes_one link (Submitted number call) xid rest = refl
outcomes_one link (HandedOver number outcome) xid rest =
    ap (λ (b : Bool). map (λ (c : CompletedCall). c.outcome) (cond b (record { xid = number; outcome = outcome } ∷ []) [] ++ flat_map (completed_at link) rest)) (itself link)
outcomes_one link (GivenUp number) xid rest = refl

outcomes_by : (link : ℕ) (made : List Exchange) (run : List Mark) → AreMarksOf link made run → outcomes_handed_over link run ≡ flat_map exchange_outcomes made
unfolding completed_calls
outcomes_by link [] run is = ap (λ (l : List Mark). outcomes_handed_over link l) is
outcomes_by link (e ∷ made) run (xid, rest, (is, are)) =
    ap (λ (l : List Mark). outcomes_handed_over link l) is ∙ outcomes_one link e xid rest ∙ ap (λ (l : List Outcome). exchange_outcomes e ++ l) (outcomes_by link made rest are)

outcomes_without : (link : ℕ) (run : List Mark) → outcomes_handed_over link run ≡ outcomes_handed_over link (without_bytes run)
unfolding completed_calls
outcomes_without link run = ap (λ (l : List CompletedCall). map (λ (c : CompletedCall). c.outcome) l) (flat_without (completed_at link) run (λ m is. (bytes_none link m is).1))

pub outcomes_are : (link : ℕ) (run : List Mark) (made : List Exchange) → AreMarksOf link made (without_bytes run) → outcomes_handed_over link run ≡ flat_map exchange_outcomes made
outcomes_are link run made are = outcomes_without link run ∙ outcomes_by link made (without_bytes run) are
