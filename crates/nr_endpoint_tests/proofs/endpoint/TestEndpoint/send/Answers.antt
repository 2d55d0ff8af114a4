use Rattle.nr_endpoint_tests.proofs.Counting.{send_counted}
use Rattle.nr_endpoint_tests.proofs.endpoint.TestEndpoint.send.Goals as goal

pub invariant_of-self : goal.invariant_of-self
invariant_of-self g c =
    send_counted c.self.inside.endpoint.link c.send.new.self.link _ c.send.result _ _ _ c.send.ensures.state c.send.ensures.err c.self.invariant
