use Rattle.nr_endpoint_tests.proofs.Counting.{stop_counted}
use Rattle.nr_endpoint_tests.proofs.endpoint.TestEndpoint.stop.Goals as goal

pub invariant_of-self : goal.invariant_of-self
invariant_of-self g c =
    stop_counted c.self.inside.endpoint.link c.stop.new.self.link _ c.stop.result _ _ _ c.stop.ensures.state c.stop.ensures.memory c.self.invariant
