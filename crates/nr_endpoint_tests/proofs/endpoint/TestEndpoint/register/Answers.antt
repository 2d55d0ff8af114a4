use Rattle.nr_endpoint_tests.proofs.Counting.{register_counted}
use Rattle.nr_endpoint_tests.proofs.endpoint.TestEndpoint.register.Goals as goal

pub invariant_of-self : goal.invariant_of-self
invariant_of-self g c =
    register_counted c.self.inside.endpoint.link c.register.new.self.link _ _ c.in-Ok.registration _ _ c.self.inside.region c.in-Ok.ensures.state c.in-Ok.ensures.held c.self.invariant
