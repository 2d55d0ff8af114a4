use Rattle.std.proofs.Common.{subst}
use Rattle.std.specs.Prelude.{◌≡◌, IfOk, None}
use Rattle.nr_endpoint.specs.LinkState.{initial_link}
use Rattle.nr_endpoint_tests.proofs.Counting.{open_counted}
use Rattle.nr_endpoint_tests.proofs.endpoint.TestEndpoint.open_with.Goals as goal

pub invariant_of-result : goal.invariant_of-result
invariant_of-result g c =
    open_counted c.expect.result.link c.args.side 2 1 c.args.terms None (subst (λ r. IfOk r (λ e. e.link ≡ initial_link c.args.side 2 1 c.args.terms None)) c.expect.ensures c.open.ensures.state)
