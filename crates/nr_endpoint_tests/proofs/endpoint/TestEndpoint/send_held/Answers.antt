use Rattle.nr_endpoint_tests.proofs.Counting.{send_held_counted}
use Rattle.nr_endpoint_tests.proofs.endpoint.TestEndpoint.send_held.Goals as goal

pub invariant_of-self : goal.invariant_of-self
invariant_of-self c = send_held_counted c.self.inside.endpoint.link c.send_held.new.self.link _ _ _ c.send_held.ensures.state c.send_held.ensures.none c.self.invariant
