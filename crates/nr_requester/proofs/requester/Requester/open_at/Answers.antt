use Rattle.std.proofs.Common.{◌≡◌, subst}
use Rattle.std.specs.Result.{IfOk}
use Rattle.nr_link.specs.Agreement.{default_terms}
use Rattle.nr_link.specs.declared.agreement.SideTerms.{SideTerms}
use Rattle.nr_requester.specs.RequesterState.{RequesterSide}
use Rattle.nr_requester.specs.AfterCalls.{opened_as}
use Rattle.nr_requester.proofs.Views.{if_ok, opened_stands}
use Rattle.nr_requester.proofs.requester.Requester.open_at.Goals as goal

pub returns-clause-stands : goal.returns-clause-stands
returns-clause-stands c =
    if_ok c.new.result (λ r is. opened_stands r c.args.first_xid c.args.first_stag c.args.credits default_terms is)
    (subst (λ (t : SideTerms). IfOk c.new.result (λ (r : RequesterSide). r ≡ opened_as c.args.first_xid c.args.first_stag c.args.credits t r.staging)) c.default_terms.ensures c.new.ensures.state)
