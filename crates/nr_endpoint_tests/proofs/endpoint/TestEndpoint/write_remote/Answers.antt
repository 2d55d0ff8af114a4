use Rattle.nr_endpoint_tests.proofs.Counting.{write_counted}
use Rattle.nr_endpoint_tests.proofs.endpoint.TestEndpoint.write_remote.Goals as goal

pub invariant_of-self : goal.invariant_of-self
invariant_of-self g c =
    write_counted c.self.inside.endpoint.link c.write_remote.new.self.link _ _ _ c.write_remote.result _ _ _ c.write_remote.ensures.state c.write_remote.ensures.err c.self.invariant
