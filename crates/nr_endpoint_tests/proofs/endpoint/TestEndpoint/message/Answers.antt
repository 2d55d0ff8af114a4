use Rattle.nr_endpoint_tests.proofs.Counting.{event_counted, post_counted}
use Rattle.nr_endpoint_tests.proofs.endpoint.TestEndpoint.message.Goals as goal

pub invariant_of-self : goal.invariant_of-self
invariant_of-self g c =
    post_counted c.next_event.new.self.link c.post.new.self.link _ _ _ c.post.ensures.state
    (event_counted c.self.inside.endpoint.link c.next_event.new.self.link _ _ _ c.in-Some-Message.ensures.state c.self.invariant)
