use Rattle.nr_endpoint_tests.proofs.Counting.{drain_counted}
use Rattle.nr_endpoint_tests.proofs.endpoint.TestEndpoint.drain_in_parts.Goals as goal

pub invariant_of-self : goal.invariant_of-self
invariant_of-self c =
    drain_counted c.self.inside.endpoint.link c.drain_into.new.self.link c.drain_into.ensures.taken.0 _ _ _ c.drain_into.ensures.taken.3 c.self.invariant
