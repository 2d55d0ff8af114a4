use Rattle.nr_endpoint_tests.proofs.Counting.{invalidate_counted}
use Rattle.nr_endpoint_tests.proofs.endpoint.TestEndpoint.send_invalidate.Goals as goal

pub invariant_of-self : goal.invariant_of-self
invariant_of-self g c =
    invalidate_counted c.self.inside.endpoint.link c.send_invalidate.new.self.link _ _ c.send_invalidate.result _ _ _ c.send_invalidate.ensures.state c.send_invalidate.ensures.err c.self.invariant
