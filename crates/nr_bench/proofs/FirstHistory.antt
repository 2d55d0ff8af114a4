-- The history with which a requester is shared that was just opened.
use Rattle.std.proofs.Common.{◌≡◌, ◌≢◌, ℕ, ◌≤◌, ◌^◌, arith, List, [], ◌∷◌, Option, None, Some, refl, sym, ap, ◌∙◌}
use Rattle.nr_link.specs.Agreement.{default_terms}
use Rattle.nr_link.specs.declared.end.End.TheVariants as ends
use Rattle.nr_requester.specs.RequesterState.{RequesterSide}
use Rattle.nr_requester.specs.AfterCalls.{opened_as}
use Rattle.nr_requester.specs.Fed.{fed_bytes}
use Rattle.nr_shared.specs.declared.entry.Entry.TheVariants as entries
use Rattle.nr_shared.specs.Opening.{IsInitialHistory}

none_some : None ≡ Some ends.Memory → ⊥
none_some e = absurd cc

fresh : (r : RequesterSide) → r ≡ opened_as 1 1 16 default_terms r.staging → r.state.side.ended ≡ None
unfolding opened_as
fresh r state = ap (λ (h : RequesterSide). h.state.side.ended) state

pub is_initial_history : {O : Type 0} (link : O → ℕ) (taken : O → Option (List ℕ)) (faults : O → ℕ) (r : RequesterSide) (sink : O) → r ≡ opened_as 1 1 16 default_terms r.staging → fed_bytes r ≡ 0
    → IsInitialHistory link taken faults r sink None (entries.Initial (record { requester = r; sink = record { link = link sink; faults = faults sink; taken = taken sink }; tries = None }) ∷ [])
is_initial_history link taken faults r sink state fed = record {
  initial = record { requester = r; sink = record { link = link sink; faults = faults sink; taken = taken sink }; tries = None };
  history_is = refl;
  requester_is = refl;
  has_memory = λ bad. none_some (sym (fresh r state) ∙ bad);
  fed = omega (arith, fed);
  sink_link = refl;
  sink_taken = refl;
  sink_faults = refl;
  tries_are = refl;
  numbered = tt;
  few = refl;
}
