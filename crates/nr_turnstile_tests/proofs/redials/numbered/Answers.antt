use Rattle.std.proofs.Common.{arith, false, subst}
use Rattle.std.specs.Prelude.{◌≡◌, IfOk}
use Rattle.nr_requester.specs.AfterCalls.{numbered_terms, opened_as}
use Rattle.nr_requester.specs.Fed.{fed_bytes}
use Rattle.nr_turnstile_tests.proofs.InitialHistory.{has_memory, has_number}
use Rattle.nr_turnstile_tests.proofs.redials.numbered.Goals as goal

pub returns-clause-number : goal.returns-clause-number
returns-clause-number g c = has_number (numbered_terms 5 1 false) _ (omega arith)
    (subst (λ r. IfOk r (λ e. e ≡ opened_as 1 1 16 (numbered_terms 5 1 false) e.staging)) c.expect.ensures c.open_numbered.ensures.state)

pub returns-clause-memory : goal.returns-clause-memory
returns-clause-memory g c = has_memory (numbered_terms 5 1 false) _
    (subst (λ r. IfOk r (λ e. e ≡ opened_as 1 1 16 (numbered_terms 5 1 false) e.staging)) c.expect.ensures c.open_numbered.ensures.state)

pub returns-clause-fed : goal.returns-clause-fed
returns-clause-fed g c = subst (λ r. IfOk r (λ e. fed_bytes e ≡ 0)) c.expect.ensures c.open_numbered.ensures.fed
