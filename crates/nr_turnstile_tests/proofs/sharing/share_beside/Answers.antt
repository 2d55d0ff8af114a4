use Rattle.std.proofs.Common.{subst}
use Rattle.std.specs.Prelude.{◌≡◌, IfOk}
use Rattle.nr_link.specs.Agreement.{default_terms}
use Rattle.nr_requester.specs.AfterCalls.{opened_as}
use Rattle.nr_requester.specs.Fed.{fed_bytes}
use Rattle.nr_turnstile_tests.proofs.InitialHistory.{is_initial_history}
use Rattle.nr_turnstile_tests.proofs.sharing.share_beside.Goals as goal

pub shared-requires-clause-initial : goal.shared-requires-clause-initial
shared-requires-clause-initial g c = is_initial_history _ _ _ _ _
    (subst (λ r. IfOk r (λ e. e ≡ opened_as 1 1 16 default_terms e.staging)) c.expect-requester.ensures c.open.ensures.state)
    (subst (λ r. IfOk r (λ e. fed_bytes e ≡ 0)) c.expect-requester.ensures c.open.ensures.fed)
