use Rattle.nr_endpoint_tests.proofs.Counting.{feed_one_counted}
use Rattle.nr_endpoint_tests.proofs.endpoint.TestEndpoint.feed_one.Goals as goal

pub invariant_of-self : goal.invariant_of-self
invariant_of-self g c =
    feed_one_counted c.self.inside.endpoint.link c.feed_one.new.self.link _ c.feed_one.result _ _ _ c.self.inside.region c.feed_one.ensures.state c.feed_one.ensures.memory
    c.with_piece-self-inside.ensures.sum c.self.invariant
