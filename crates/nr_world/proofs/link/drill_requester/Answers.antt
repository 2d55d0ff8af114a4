use Rattle.std.proofs.Common.{◌≡◌, ◌⊎◌, ◌∙◌, arith, ℕ, false, inl, inr, ap, subst, sym}
use Rattle.nr_link.specs.Agreement.{terms_with}
use Rattle.nr_link.specs.declared.agreement.SideTerms.{SideTerms}
use Rattle.nr_reduce.specs.Opening.{ClientOpened}
use Rattle.nr_requester.specs.AfterCalls.{numbered_terms}
use Rattle.nr_world.proofs.Outputs.{if_ok, numbered_client, opened_live, unnumbered_client}
use Rattle.nr_world.proofs.link.drill_requester.Goals.{else-opening-via-then-opening+else-number-gt0, else-opening-via-else-opening}
use Rattle.nr_world.proofs.link.drill_requester.Goals as goal

pub returns-then-number-gt0-clause-live : goal.returns-then-number-gt0-clause-live
returns-then-number-gt0-clause-live c = if_ok c.open_numbered.result _ _ (λ r is. opened_live r c.args.opening.credits _ is) c.open_numbered.ensures.state

pub returns-then-number-gt0-clause-stands : goal.returns-then-number-gt0-clause-stands
returns-then-number-gt0-clause-stands c =
    let terms = ap (λ (n : ℕ). numbered_terms n c.args.opening.client_units c.args.opening.invalidates) c.from.ensures ∙ numbered_client c.args.opening c.args.number c.if-opening.true in
    if_ok c.open_numbered.result _ _ (λ r h opened l xid stag by. h opened l xid stag (subst (λ (t : SideTerms). ClientOpened opened c.args.opening.credits t) (sym terms) by)) c.open_numbered.ensures.stands

pub returns-clause-live : goal.returns-clause-live
returns-clause-live c = if_ok c.open_sized.result _ _ (λ r is. opened_live r c.args.opening.credits _ is) c.open_sized.ensures.state

pub returns-clause-stands : goal.returns-clause-stands
returns-clause-stands c =
    let none : (c.args.opening.numbered ≡ false) ⊎ (c.args.number ≡ 0) = elim c.else-opening.branch [
      | else-opening-via-then-opening+else-number-gt0 w ↦ inr (omega (arith, w.if-number-gt0.false))
      | else-opening-via-else-opening w ↦ inl w.if-opening.false
    ] in
    let terms = unnumbered_client c.args.opening c.args.number none in
    if_ok c.open_sized.result _ _ (λ r h opened l xid stag by. h opened l xid stag (subst (λ (t : SideTerms). ClientOpened opened c.args.opening.credits t) (sym terms) by)) c.open_sized.ensures.stands
