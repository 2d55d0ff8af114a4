use Rattle.nr_endpoint_tests.proofs.Counting.{send_counted}
use Rattle.nr_endpoint_tests.proofs.endpoint.TestEndpoint.send_parts.Goals as goal

pub invariant_of-self : goal.invariant_of-self
invariant_of-self g c =
    send_counted c.self.inside.endpoint.link c.send_parts.new.self.link _ c.send_parts.result _ _ _ c.send_parts.ensures.state c.send_parts.ensures.err c.self.invariant
