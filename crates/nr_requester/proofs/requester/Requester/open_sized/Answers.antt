use Rattle.std.proofs.Common.{◌≡◌, subst}
use Rattle.std.specs.Result.{IfOk}
use Rattle.nr_link.specs.Agreement.{terms_with}
use Rattle.nr_link.specs.declared.agreement.SideTerms.{SideTerms}
use Rattle.nr_requester.specs.RequesterState.{RequesterSide}
use Rattle.nr_requester.specs.AfterCalls.{opened_as}
use Rattle.nr_requester.proofs.Views.{if_ok, opened_stands}
use Rattle.nr_requester.proofs.requester.Requester.open_sized.Goals as goal

pub returns-clause-stands : goal.returns-clause-stands
returns-clause-stands c =
    if_ok c.new.result (λ r is. opened_stands r 1 1 c.args.credits (terms_with c.args.units c.args.invalidates) is)
    (subst (λ (t : SideTerms). IfOk c.new.result (λ (r : RequesterSide). r ≡ opened_as 1 1 c.args.credits t r.staging)) c.unnumbered.ensures c.new.ensures.state)
