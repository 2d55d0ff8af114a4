use Rattle.std.proofs.Common.{subst}
use Rattle.std.specs.Prelude.{◌≡◌, IfOk, Some}
use Rattle.nr_wire.specs.declared.hello.Side.TheVariants.{Initiator}
use Rattle.nr_endpoint.specs.LinkState.{initial_link}
use Rattle.nr_endpoint_tests.proofs.Counting.{open_counted}
use Rattle.nr_endpoint_tests.proofs.endpoint.TestEndpoint.open_again.Goals as goal

pub invariant_of-result : goal.invariant_of-result
invariant_of-result g c =
    open_counted c.expect.result.link Initiator 2 1 c.args.terms (Some c.args.earlier)
    (subst (λ r. IfOk r (λ e. e.link ≡ initial_link Initiator 2 1 c.args.terms (Some c.args.earlier))) c.expect.ensures c.open_again.ensures.state)
