-- The calls that are kept are those that the next link sends again.
use Rattle.std.proofs.Common.{◌≡◌, ℕ, ◌+◌, Bool, true, false, cond, not, List, [], ◌∷◌, ◌++◌, map, Option, None, Some, is_none, refl, sym, ap, subst, ◌∙◌}
use Rattle.std.specs.Prelude.{IfSome}
use Rattle.std.specs.List.{AllByRecursion, filter, flat_map}
use Rattle.nr_reduce.specs.declared.call.Call.{Call}
use Rattle.nr_reduce.specs.declared.mark.Mark.{Mark}
use Rattle.nr_reduce.specs.declared.mark.LinkParameters.{LinkParameters}
use Rattle.nr_reduce.specs.declared.mark.ResumedCall.{ResumedCall}
use Rattle.nr_reduce.specs.declared.outline.Plan.{Plan}
use Rattle.nr_reduce.specs.History.{AcceptedCall, accepted_calls, is_abandoned}
use Rattle.nr_reduce.specs.ClientState.{OutstandingCall, WaitingCall, ClientState, call_payload}
use Rattle.nr_reduce.specs.PlansByLists.{plan_by_lists}
use Rattle.nr_reduce.specs.KeptCalls.{KeptCall, IsKeptCall, AreKept, numbered_from, numbered_calls}
use Rattle.nr_reduce.specs.KeptReopening.{IsSentAgain, AreSentAgain, KeepsUnlessGivenUp, KeptReopens}
use Rattle.nr_reduce.specs.Reopening.{calls_kept, resumed_as, resumed_of, resumed_again}
use Rattle.nr_reduce.specs.Run.{client}
use Rattle.nr_reduce.proofs.FoundCalls.{IsFound, AllFound, calls_found}

module _ (link : ℕ) (run : List Mark) where
  abbrev Kept : List KeptCall → Type 0
  Kept cs = AllByRecursion (KeepsUnlessGivenUp link run) cs

  abbrev kept_on : List KeptCall → List KeptCall
  kept_on cs = filter (λ (c : KeptCall). not (is_abandoned link c.xid run)) cs

  abbrev sent_on : List ResumedCall → List ResumedCall
  sent_on rs = filter (λ (r : ResumedCall). not (is_abandoned link r.xid run)) rs

  -- one call more, of this xid
  one_more : (k : ClientState) (c : KeptCall) (o : OutstandingCall) (r : ResumedCall) (cs : List KeptCall) (rs : List ResumedCall) → IsKeptCall k c o → KeepsUnlessGivenUp link run c → r.xid ≡ o.xid → r.call ≡ o.call → r.plan ≡ o.plan →
      AreSentAgain (kept_on cs) (sent_on rs) → AreSentAgain (kept_on (c ∷ cs)) (sent_on (r ∷ rs))
  one_more k c o r cs rs is keeps xid call plan rest = by (is_abandoned link c.xid run) refl
    where
      same : c.xid ≡ r.xid
      same = is.xid ∙ sym xid

      own : (call_of : Option Call) → c.call ≡ call_of → is_none call_of ≡ false → IfSome call_of (λ x. x ≡ o.call) → IfSome call_of (λ x. o.plan ≡ plan_by_lists (call_payload o.xid x) c.read_at c.offered) → IsSentAgain c r
      own None e some h planned = absurd cc
      own (Some x) e some h planned =
          let x_is : x ≡ r.call = h ∙ sym call in record {
            xid = same;
            call = e ∙ ap (λ (y : Call). Some y) x_is;
            planned = plan ∙ planned ∙ (λ i. plan_by_lists (call_payload (sym xid i) (x_is i)) c.read_at c.offered);
          }

      by : (b : Bool) → is_abandoned link c.xid run ≡ b → AreSentAgain (kept_on (c ∷ cs)) (sent_on (r ∷ rs))
      by true e =
          subst (λ (b : Bool). AreSentAgain (cond (not b) (c ∷ kept_on cs) (kept_on cs)) (sent_on (r ∷ rs))) (sym e)
          (subst (λ (b : Bool). AreSentAgain (kept_on cs) (cond (not b) (r ∷ sent_on rs) (sent_on rs))) (sym (sym (ap (λ (x : ℕ). is_abandoned link x run) same) ∙ e)) rest)
      by false e =
          subst (λ (b : Bool). AreSentAgain (cond (not b) (c ∷ kept_on cs) (kept_on cs)) (sent_on (r ∷ rs))) (sym e)
          (subst (λ (b : Bool). AreSentAgain (c ∷ kept_on cs) (cond (not b) (r ∷ sent_on rs) (sent_on rs))) (sym (sym (ap (λ (x : ℕ). is_abandoned link x run) same) ∙ e))
          (own c.call refl (keeps e) is.call is.planned, rest))

  -- those that wait
  waiting_again : (k : ClientState) (send : ℕ) (cs : List KeptCall) (ws : List WaitingCall) → AreKept k cs (numbered_from send ws) → Kept cs → AreSentAgain (kept_on cs) (sent_on (map resumed_again ws))
  waiting_again k send [] [] is keeps = tt
  waiting_again k send [] (w ∷ ws) is keeps = absurd is
  waiting_again k send (c ∷ cs) [] is keeps = absurd is
  waiting_again k send (c ∷ cs) (w ∷ ws) is keeps =
      one_more k c (record { xid = w.xid; send = send; call = w.call; plan = w.plan; stag = w.stag; is_revoked = w.is_revoked }) (resumed_again w) cs (map resumed_again ws) is.0 keeps.0 refl refl refl
      (waiting_again k (send + 1) cs ws is.1 keeps.1)

  -- and those that are outstanding
  all_again : (accepted : List AcceptedCall) (k : ClientState) (send : ℕ) (cs : List KeptCall) (os : List OutstandingCall) (ws : List WaitingCall) → AreKept k cs (os ++ numbered_from send ws) → AllFound accepted os → Kept cs →
      AreSentAgain (kept_on cs) (sent_on (flat_map (resumed_of accepted) os ++ map resumed_again ws))
  all_again accepted k send cs [] ws is found keeps = waiting_again k send cs ws is keeps
  all_again accepted k send [] (o ∷ os) ws is found keeps = absurd is
  all_again accepted k send (c ∷ cs) (o ∷ os) ws is found keeps =
      let r : ResumedCall = record { xid = o.xid; call = o.call; form = found.0.own.form; plan = o.plan } in
      subst (λ (a : Option AcceptedCall). AreSentAgain (kept_on (c ∷ cs)) (sent_on ((resumed_as o a ++ flat_map (resumed_of accepted) os) ++ map resumed_again ws))) (sym found.0.found)
      (one_more k c o r cs (flat_map (resumed_of accepted) os ++ map resumed_again ws) is.0 keeps.0 refl refl refl (all_again accepted k send cs os ws is.1 found.1 keeps.1))

pub kept_reopens : KeptReopens
unfolding calls_kept
kept_reopens opened link run kept count opens asked keeps live unless =
    let k : ClientState = (client opened link run).state in
    all_again link run (accepted_calls link run) k k.sends kept.calls k.outstanding k.waiting (keeps.calls live).kept (calls_found opened link run opens asked) unless
