use Rattle.nr_endpoint_tests.proofs.Counting.{read_counted_lem}
use Rattle.nr_endpoint_tests.proofs.endpoint.TestEndpoint.read_remote.Goals as goal

pub invariant_of-self : goal.invariant_of-self
invariant_of-self g c =
    read_counted_lem c.self.inside.endpoint.link c.read_remote.new.self.link _ _ _ _ _ c.read_remote.result _ _ _ c.read_remote.ensures.state c.read_remote.ensures.err c.self.invariant
