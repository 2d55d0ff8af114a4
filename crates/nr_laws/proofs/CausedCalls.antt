-- If nothing is left to do, a call whose message is refused or whose reply isn't held has its Done with Chunk.
use Rattle.std.proofs.Common.{◌≡◌, ℕ, Bool, true, false, cond, eqb, List, [], ◌∷◌, refl, ap, subst, arith, inl, inr, ◌⊎◌, eqb-true}
use Rattle.std.specs.Prelude.{Contains}
use Rattle.std.proofs.lemmas.List.Elements.{Contains-push_cases, Contains-append_cases}
use Rattle.nr_reduce.specs.declared.call.Outcome.{Outcome}
use Rattle.nr_reduce.specs.declared.call.Outcome.TheVariants as outcomes
use Rattle.nr_reduce.specs.declared.mark.Mark.{Mark}
use Rattle.nr_reduce.specs.declared.mark.Mark.TheVariants as marks
use Rattle.nr_reduce.specs.History.{CompletedCall, completed_at, completed_calls}
use Rattle.nr_laws.specs.MarkAt.{MarkAt}
use Rattle.nr_laws.specs.ChunkOutcomes.{CausedCallsComplete}
use Rattle.nr_laws.proofs.SettledLinks.{calls_complete_lem}
use Rattle.nr_laws.proofs.ChunkCauses.{others_have_no_cause}
use Rattle.nr_laws.proofs.LawsSoFar.{laws_so_far_lem}

-- ---- A completed call has its Done

none_there_lem : {W : Type 0} (c : CompletedCall) → Contains [] c → W
none_there_lem c h = absurd (let lt = h.1 in omega (arith, lt))

done_is_lem : (link : ℕ) (mark : Mark) (c : CompletedCall) → Contains (completed_at link mark) c → mark ≡ marks.Done link c.xid c.outcome
done_is_lem link (marks.Done l xid outcome) c h = by (eqb l link) refl h
  where
    x : CompletedCall
    x = record { xid = xid; outcome = outcome }

    same : Contains [] c ⊎ (x ≡ c) → l ≡ link → marks.Done l xid outcome ≡ marks.Done link c.xid c.outcome
    same (inl none) own = none_there_lem c none
    same (inr is) own = (λ i. marks.Done (own i) ((is i).xid) ((is i).outcome))

    by : (b : Bool) → eqb l link ≡ b → Contains (cond b (x ∷ []) []) c → marks.Done l xid outcome ≡ marks.Done link c.xid c.outcome
    by true is h = same (Contains-push_cases [] x c h) (eqb-true l link is)
    by false is h = none_there_lem c h
done_is_lem link (marks.Submit l call form answer) c h = none_there_lem c h
done_is_lem link (marks.Wrote l side bytes) c h = none_there_lem c h
done_is_lem link (marks.Fed l side bytes) c h = none_there_lem c h
done_is_lem link (marks.Execute l xid moment payload place reply) c h = none_there_lem c h
done_is_lem link (marks.Lost l xid) c h = none_there_lem c h
done_is_lem link (marks.Forget l xid) c h = none_there_lem c h
done_is_lem link (marks.Revoke l xid bytes) c h = none_there_lem c h
done_is_lem link (marks.Drop l) c h = none_there_lem c h
done_is_lem link (marks.Told l what) c h = none_there_lem c h

pub completed_mark : (link : ℕ) (run : List Mark) (c : CompletedCall) → Contains (completed_calls link run) c → (before : List Mark) × MarkAt run before (marks.Done link c.xid c.outcome)
unfolding completed_calls
completed_mark link [] c h = none_there_lem c h
completed_mark link (mark ∷ run) c h = by (Contains-append_cases (completed_at link mark) (completed_calls link run) c h) (completed_mark link run c)
  where
    by : Contains (completed_at link mark) c ⊎ Contains (completed_calls link run) c → (Contains (completed_calls link run) c → (before : List Mark) × MarkAt run before (marks.Done link c.xid c.outcome))
        → (before : List Mark) × MarkAt (mark ∷ run) before (marks.Done link c.xid c.outcome)
    by (inl here) more = ([], record { after = run; is = (λ i. done_is_lem link mark c here i ∷ run) })
    by (inr later) more = (let m = more later in let at = m.1 in (mark ∷ m.0, record { after = at.after; is = ap (λ (r : List Mark). mark ∷ r) at.is }))

-- ---- Its outcome

chunk_or_not : (o : Outcome) → (o ≡ outcomes.Chunk) ⊎ ((o ≡ outcomes.Chunk) → ⊥)
chunk_or_not (outcomes.Reply reply) = inr (λ e. absurd cc)
chunk_or_not outcomes.Chunk = inl refl
chunk_or_not (outcomes.Version low high) = inr (λ e. absurd cc)

pub caused_calls_complete : CausedCallsComplete
caused_calls_complete opened link run typed asked served matched settled due a kept cause = by (chunk_or_not c.0)
  where
    c : (outcome : Outcome) × Contains (completed_calls link run) (record { xid = a.xid; outcome = outcome })
    c = (calls_complete_lem opened link run typed asked served matched settled).has_done due a kept

    m : (before : List Mark) × MarkAt run before (marks.Done link a.xid c.0)
    m = completed_mark link run (record { xid = a.xid; outcome = c.0 }) c.1

    by : (c.0 ≡ outcomes.Chunk) ⊎ ((c.0 ≡ outcomes.Chunk) → ⊥) → Contains (completed_calls link run) (record { xid = a.xid; outcome = outcomes.Chunk })
    by (inl is) = subst (λ (o : Outcome). Contains (completed_calls link run) (record { xid = a.xid; outcome = o })) is c.1
    by (inr other) = absurd (others_have_no_cause opened link run m.0 a.xid c.0 typed (laws_so_far_lem opened link run asked.each served.each matched) m.1 other cause)
