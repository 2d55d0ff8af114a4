-- A requester with a number that was opened, and the link at hand when it is given back.
use Rattle.std.proofs.Common.{◌≡◌, ◌≢◌, ◌≤◌, ◌<◌, ℕ, Bool, List, [], ◌∷◌, Option, None, Some, is_some, inl, inr, sym, ap, subst, ◌∙◌, arith}
use Rattle.std.specs.Prelude.{⊤, IfSome}
use mathlib.Core.Option.{some-injective}
use lib.ListN.{get_elem?}
use Rattle.nr_link.specs.declared.agreement.SideTerms.{SideTerms}
use Rattle.nr_link.specs.declared.end.End.TheVariants as ends
use Rattle.nr_links.specs.Links.{HasOpenLink, LinkLog}
use Rattle.nr_requester.specs.AfterCalls.{numbered_terms, opened_as}
use Rattle.nr_requester.specs.Fed.{fed_bytes}
use Rattle.nr_requester.specs.RequesterState.{RequesterSide}
use Rattle.nr_turnstile.specs.Passes.{mine_of, seen_by}
use Rattle.nr_shared.specs.declared.call_rule.AnyCall.{AnyCall}
use Rattle.nr_shared.specs.declared.entry.Entry.{Entry}
use Rattle.nr_shared.specs.declared.opening.NotShared.{NotShared}
use Rattle.nr_shared.specs.declared.opening.NotShared.TheVariants as not_shared
use Rattle.nr_shared.specs.declared.shared.Pass.{Pass}
use Rattle.nr_shared.specs.declared.shared.SharedRequester.{SharedRequester}
use Rattle.nr_shared.specs.declared.source_reader.InitialSource.{InitialSource}
use Rattle.nr_shared.specs.Feeding.{address_of}
use Rattle.nr_shared.specs.Histories.{tries_of}
use Rattle.nr_shared.specs.Numbered.{IsNotShared, NumberedOpened}
use Rattle.nr_shared.specs.Opening.{GivesBack}
use Rattle.nr_shared.specs.Sharing.{SharedRests}
use Rattle.nr_shared.specs.Standing.{bytes_before}
use Rattle.nr_shared.proofs.Closed.{back_open}
use Rattle.nr_client.specs.Dialing.{session_credits}
use Rattle.nr_client.specs.Numbered.{IsNewRequester, NumberedFails}
use Rattle.nr_client.specs.SharedParts.{IsAtRest}
use Rattle.nr_client.specs.declared.client_end.ClientEnd.TheVariants as client

-- ---- A new requester

none_some : None ≡ Some ends.Memory → ⊥
none_some e = absurd cc

alive : (r : RequesterSide) (client units : ℕ) (invalidates : Bool) → r ≡ opened_as 1 1 session_credits (numbered_terms client units invalidates) r.staging → r.state.side.ended ≡ None
unfolding opened_as
alive r client units invalidates is = ap (λ (h : RequesterSide). h.state.side.ended) is

number_is : (r : RequesterSide) (client units : ℕ) (invalidates : Bool) → r ≡ opened_as 1 1 session_credits (numbered_terms client units invalidates) r.staging → r.state.side.terms.number ≡ client
unfolding opened_as
number_is r client units invalidates is = ap (λ (h : RequesterSide). h.state.side.terms.number) is

pub has_memory : (r : RequesterSide) (client units : ℕ) (invalidates : Bool) → r ≡ opened_as 1 1 session_credits (numbered_terms client units invalidates) r.staging → r.state.side.ended ≢ Some ends.Memory
has_memory r client units invalidates is bad = none_some (sym (alive r client units invalidates is) ∙ bad)

pub has_number : (r : RequesterSide) (client units : ℕ) (invalidates : Bool) → r ≡ opened_as 1 1 session_credits (numbered_terms client units invalidates) r.staging → 0 < client → 0 < r.state.side.terms.number
has_number r client units invalidates is some = subst (λ (n : ℕ). 0 < n) (sym (number_is r client units invalidates is)) some

pub few_fed : (r : RequesterSide) → fed_bytes r ≡ 0 → fed_bytes r ≤ bytes_before
few_fed r is = omega (arith, is)

-- ---- The link at hand

module _ {I O D : Type 0} (link : I → ℕ) (left given : I → Option (List ℕ)) (source_faults : I → ℕ) (sink_link : O → ℕ) (taken : O → Option (List ℕ)) (sink_faults : O → ℕ) (asked : D → Option (List (List ℕ))) (ended : D → Option LinkLog) (dialer_faults : D → ℕ) where
  -- a requester that was just shared rests
  pub opened_rests : (s : SharedRequester I O AnyCall D) (p : Pass I O AnyCall D) (r : RequesterSide) (dialer : D) (addr : List ℕ) (tries : ℕ) → SharedRests s p
      → NumberedOpened link left given source_faults asked ended dialer_faults r dialer addr tries p → IsAtRest ended s p
  opened_rests s p r dialer addr tries rests o = record {
    rests = rests;
    tries = ap (λ (l : List Entry). is_some (tries_of l)) o.seen;
    first = o.first;
    source = o.source;
    open_link = o.made.1;
  }

  -- memory ran out
  pub not_opened : (r back : RequesterSide) (terms : SideTerms) (dialer dialer' : D) (addr : List ℕ) (tries : ℕ) (why : NotShared D) → IsNewRequester terms r → why ≡ not_shared.Memory back dialer'
      → IsNotShared link left given source_faults sink_link taken sink_faults asked ended dialer_faults (λ call form. ⊤) r dialer addr tries why
      → NumberedFails link left given source_faults sink_link taken sink_faults asked ended dialer_faults tries terms addr dialer client.Memory dialer'
  not_opened r back terms dialer dialer' addr tries why new is refused =
      by (subst (λ (n : NotShared D). IsNotShared link left given source_faults sink_link taken sink_faults asked ended dialer_faults (λ call form. ⊤) r dialer addr tries n) is refused) where
        by : IsNotShared link left given source_faults sink_link taken sink_faults asked ended dialer_faults (λ call form. ⊤) r dialer addr tries (not_shared.Memory back dialer')
            → NumberedFails link left given source_faults sink_link taken sink_faults asked ended dialer_faults tries terms addr dialer client.Memory dialer'
        by (inl same) = inl same.1
        by (inr gave) = inr (r, back, (new, gave))

  -- it can be hung up, if there is one
  pub can_hang_up : (s : SharedRequester I O AnyCall D) (p : Pass I O AnyCall D) (b : InitialSource I O AnyCall D) (r : RequesterSide) (halves : Option (I × O)) (dialer : D) → IsAtRest ended s p → seen_by p.source ≡ b ∷ []
      → GivesBack link left given source_faults sink_link taken sink_faults asked ended dialer_faults (λ call form. ⊤) (seen_by p.main) (mine_of p.main) b.source.value b.dialer.value (address_of b) b.read r halves dialer
      → IfSome halves (λ h. (link h.0 ≡ sink_link h.1) × HasOpenLink (ended dialer))
  can_hang_up s p b r None dialer at seen back = tt
  can_hang_up s p b r (Some (source, sink)) dialer at seen back =
      back_open link left given source_faults sink_link taken sink_faults asked ended dialer_faults (λ call form. ⊤) (seen_by p.main) (mine_of p.main) b.source.value b.dialer.value (address_of b) b.read r source sink dialer at.tries at.rests.law.initial at.rests.law.is_initial
      (subst (λ (x : InitialSource I O AnyCall D). HasOpenLink (ended x.dialer.value)) (some-injective at.first b (ap (λ (l : List (InitialSource I O AnyCall D)). get_elem? l 0) (sym at.source ∙ seen))) at.open_link) back
