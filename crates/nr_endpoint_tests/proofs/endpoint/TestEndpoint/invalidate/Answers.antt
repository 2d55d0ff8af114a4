use Rattle.nr_endpoint_tests.proofs.Counting.{died_counted}
use Rattle.nr_endpoint_tests.proofs.endpoint.TestEndpoint.invalidate.Goals as goal

pub invariant_of-self : goal.invariant_of-self
invariant_of-self c =
    died_counted c.self.inside.endpoint.link c.invalidate.new.self.link _ c.invalidate.result _ _ _ c.invalidate.ensures.state c.invalidate.ensures.err c.self.invariant
