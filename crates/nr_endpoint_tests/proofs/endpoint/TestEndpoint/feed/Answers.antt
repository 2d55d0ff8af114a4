use Rattle.nr_endpoint_tests.proofs.Counting.{feed_counted}
use Rattle.nr_endpoint_tests.proofs.endpoint.TestEndpoint.feed.Goals as goal

pub invariant_of-self : goal.invariant_of-self
invariant_of-self g c =
    feed_counted c.self.inside.endpoint.link c.feed.new.self.link _ c.feed.result _ _ _ _ c.self.inside.region c.feed.ensures.state
    (λ is. ((c.feed.ensures.memory is).0, (c.feed.ensures.memory is).1))
    c.with_piece-self-inside.ensures.sum c.with_piece-self-inside-2.ensures.sum c.self.invariant
