-- Which outcomes are to be handed over: those that messages brought, of calls that were neither given up nor completed, in the order
-- of their Submits.
use Rattle.std.specs.Prelude.{ℕ, Bool, not, ◌||◌, ◌==◌, List}
use Rattle.std.specs.List.{flat_map, filter, list_any}
use Rattle.nr_reduce.specs.declared.mark.Mark.{Mark}
use Rattle.nr_reduce.specs.declared.mark.LinkParameters.{LinkParameters}
use Rattle.nr_reduce.specs.History.{AcceptedCall, CompletedCall, accepted_calls, completed_calls, is_abandoned}
use Rattle.nr_reduce.specs.Run.{client}

abbrev pub is_completed : ℕ → ℕ → List Mark → Bool
is_completed link xid run = list_any (λ c. c.xid == xid) (completed_calls link run)

abbrev pub outcomes_of_call : List CompletedCall → AcceptedCall → List CompletedCall
outcomes_of_call outcomes a = filter (λ c. c.xid == a.xid) outcomes

unfoldable pub outcomes_due : LinkParameters → ℕ → List Mark → List CompletedCall
outcomes_due opened link run =
    filter (λ c. not (is_abandoned link c.xid run || is_completed link c.xid run))
    (flat_map (outcomes_of_call (client opened link run).state.outcomes) (accepted_calls link run))
