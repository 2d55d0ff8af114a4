use Rattle.nr_endpoint_tests.proofs.Counting.{next_counted}
use Rattle.nr_endpoint_tests.proofs.endpoint.TestEndpoint.next_event.Goals as goal

pub invariant_of-self : goal.invariant_of-self
invariant_of-self c =
    next_counted c.self.inside.endpoint.link c.next_event.new.self.link _ _ _ _ c.next_event.ensures.state c.self.invariant
