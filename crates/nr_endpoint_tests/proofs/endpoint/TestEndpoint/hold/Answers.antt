use Rattle.nr_endpoint_tests.proofs.Counting.{hold_counted}
use Rattle.nr_endpoint_tests.proofs.endpoint.TestEndpoint.hold.Goals as goal

pub invariant_of-self : goal.invariant_of-self
invariant_of-self g c =
    hold_counted c.self.inside.endpoint.link c.hold.new.self.link _ c.hold.result _ _ _ c.hold.ensures.state c.hold.ensures.err c.self.invariant
