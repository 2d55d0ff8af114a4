-- What a client keeps is enough to go on over another link: its calls, with the plans by which they were sent.
use Rattle.std.specs.Prelude.{◌≡◌, ℕ, false, not, List, [], ◌∷◌, length, Option, None, Some, is_none}
use Rattle.std.specs.List.{AllByRecursion, filter}
use Rattle.nr_reduce.specs.declared.mark.Mark.{Mark}
use Rattle.nr_reduce.specs.declared.mark.LinkParameters.{LinkParameters}
use Rattle.nr_reduce.specs.declared.mark.ResumedCall.{ResumedCall}
use Rattle.nr_reduce.specs.History.{is_abandoned}
use Rattle.nr_reduce.specs.ClientState.{call_payload}
use Rattle.nr_reduce.specs.PlansByLists.{plan_by_lists}
use Rattle.nr_reduce.specs.Asked.{AskedSoFar}
use Rattle.nr_reduce.specs.Opening.{IsOpened}
use Rattle.nr_reduce.specs.OutcomesDue.{is_completed}
use Rattle.nr_reduce.specs.KeptCalls.{KeptCall, numbered_calls}
use Rattle.nr_reduce.specs.KeptClient.{KeptClient, ClientKeeps}
use Rattle.nr_reduce.specs.Reopening.{calls_kept}
use Rattle.nr_reduce.specs.Run.{client}

-- a call that is kept is sent again so: under its xid, by the plan that is made again of what is kept
pub record IsSentAgain (c : KeptCall) (r : ResumedCall) : Type 0 where
  pub xid : c.xid ≡ r.xid
  pub call : c.call ≡ Some r.call
  pub planned : r.plan ≡ plan_by_lists (call_payload r.xid r.call) c.read_at c.offered

abbrev pub AreSentAgain : List KeptCall → List ResumedCall → Type 0
AreSentAgain [] [] = Unit {0}
AreSentAgain [] (r ∷ rs) = ⊥
AreSentAgain (c ∷ cs) [] = ⊥
AreSentAgain (c ∷ cs) (r ∷ rs) = IsSentAgain c r × AreSentAgain cs rs

-- the memory of a call that wasn't given up wasn't revoked
abbrev pub KeepsUnlessGivenUp : ℕ → List Mark → KeptCall → Type 0
KeepsUnlessGivenUp link run c = is_abandoned link c.xid run ≡ false → is_none c.call ≡ false

-- The calls that the next link sends again are those that are kept, in their order, but for those that were given up.
abbrev pub KeptReopens : Type 0
KeptReopens = (opened : LinkParameters) (link : ℕ) (run : List Mark) (kept : KeptClient) (count : ℕ) → IsOpened opened → AskedSoFar opened link run → ClientKeeps opened kept (client opened link run) count →
    (client opened link run).ended ≡ None → AllByRecursion (KeepsUnlessGivenUp link run) kept.calls →
    AreSentAgain (filter (λ c. not (is_abandoned link c.xid run)) kept.calls) (calls_kept opened link run)

-- No call that is outstanding or waits to be sent again was completed.
abbrev pub CallsUncompleted : Type 0
CallsUncompleted = (opened : LinkParameters) (link : ℕ) (run : List Mark) → IsOpened opened → AskedSoFar opened link run →
    AllByRecursion (λ o. is_completed link o.xid run ≡ false) (numbered_calls (client opened link run).state)
