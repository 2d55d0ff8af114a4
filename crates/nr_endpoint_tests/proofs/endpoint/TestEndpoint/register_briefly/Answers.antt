use Rattle.nr_endpoint_tests.proofs.Counting.{passing_counted}
use Rattle.nr_endpoint_tests.proofs.endpoint.TestEndpoint.register_briefly.Goals as goal

pub invariant_of-self : goal.invariant_of-self
invariant_of-self g c =
    passing_counted c.self.inside.endpoint.link c.register_window.new.self.link c.release_buffer-buf.new.self.link _ _ c.in-Ok.registration _ _ _ c.in-Ok.ensures.state c.in-Ok.ensures.claim c.release_buffer-buf.ensures.state c.self.invariant
