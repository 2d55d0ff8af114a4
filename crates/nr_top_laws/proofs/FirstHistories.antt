-- What the caller of a new shared requester knows: the history has the initial state alone.
use Rattle.std.proofs.Common.{◌≡◌, ℕ, zero, suc, List, [], ◌∷◌, ◌++◌, append-nil, None, Some, refl, sym, ap, subst, ◌∙◌}
use mathlib.Core.Option.{some-injective, some-ne-none}
use lib.ListN.{get_elem?}
use Rattle.nr_reduce.specs.declared.call.Call.{Call}
use Rattle.nr_reduce.specs.declared.mark.LinkParameters.{LinkParameters}
use Rattle.nr_reduce.specs.declared.mark.Mark.{Mark}
use Rattle.nr_turnstile.specs.Rule.{IsIn}
use Rattle.nr_shared.specs.declared.entry.Entry.{Entry}
use Rattle.nr_shared.specs.declared.entry.Entry.TheVariants as entries
use Rattle.nr_shared.specs.declared.entry.InitialState.{InitialState}
use Rattle.nr_shared.specs.Callers.{KeepsLaw}
use Rattle.nr_shared.specs.Histories.{IsCallAt, submitted_call, tries_of}
use Rattle.nr_shared.specs.LinkRuns.{AllLinks, FitsHistory, links_of}
use Rattle.nr_shared.specs.LinkStanding.{KeepsLinkLaw}
use Rattle.nr_shared.specs.Standing.{RejoinsWithin}
use Rattle.nr_shared.proofs.Calls.{closes_end, none_closes}
use Rattle.nr_shared.proofs.Output.{follow_end, full_same, none_follow, none_wrote, output_none}
use Rattle.nr_client.specs.CallerViews.{CallerView}
use Rattle.nr_client.proofs.CallerTickets.{IsKnown}

no_call : (c : InitialState) (xid k : ℕ) (call : Call) → IsCallAt (entries.Initial c ∷ []) xid k call → ⊥
no_call c xid zero call (e, at, is) = none_some (ap (submitted_call xid) (some-injective (entries.Initial c) e at) ∙ is) where
  none_some : None ≡ Some call → ⊥
  none_some wrong = absurd cc
no_call c xid (suc k) call (e, at, is) = some-ne-none e (sym at)

first_law : (c : InitialState) (opened : LinkParameters) (numbers : ℕ → ℕ) (before : List Mark) → FitsHistory (entries.Initial c ∷ []) opened numbers before → AllLinks KeepsLinkLaw (links_of opened numbers before 0 (entries.Initial c ∷ []))
unfolding links_of
first_law c opened numbers before (initial, is, fits) = (subst (λ (run : List Mark). KeepsLinkLaw opened (numbers 0) run) (sym (append-nil before)) (record { asked = fits.live.asked; granted = fits.live.granted }), tt)

law_first : (c : InitialState) → RejoinsWithin c.tries 0 → KeepsLaw (entries.Initial c ∷ [])
law_first c within = record {
  initial = c;
  is_initial = refl;
  n = 0;
  law = first_law c;
  within_tries = within;
  output = output_none (entries.Initial c ∷ []) (refl, tt);
  in_full = full_same [] (entries.Initial c) refl none_wrote;
  may_follow = follow_end [] (entries.Initial c) tt none_follow;
  in_order = ((λ is. refl), tt);
  closes_calls = closes_end [] (entries.Initial c) tt none_closes;
  last_open = λ xid k call at unclosed. absurd (no_call c xid k call at);
}

pub known_first : (v : CallerView) (c : InitialState) → v.seen ≡ entries.Initial c ∷ [] → v.mine ≡ [] → RejoinsWithin c.tries 0 → IsKnown v
known_first v c seen mine within = record {
  lies = λ k i. absurd (let j = subst (IsIn k) mine i in some-ne-none k (sym j.1));
  law = subst KeepsLaw (sym seen) (law_first c within);
}

-- a beginning of a history that begins so has its tries, or it is empty
pub first_tries : (h later rest : List Entry) (c : InitialState) → h ++ later ≡ entries.Initial c ∷ rest → (P : List Entry → Type 0) → P h → (P [] → ⊥) → tries_of h ≡ c.tries
first_tries [] later rest c same P holds never = absurd (never holds)
first_tries (e ∷ es) later rest c same P holds never = ap (λ (x : Entry). tries_of (x ∷ es)) (some-injective e (entries.Initial c) (ap (λ (l : List Entry). get_elem? l 0) same))
