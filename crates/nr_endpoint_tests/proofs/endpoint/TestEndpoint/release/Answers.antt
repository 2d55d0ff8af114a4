use Rattle.std.proofs.Common.{subst, sym}
use Rattle.nr_endpoint_tests.specs.Counts.{IsCounted}
use Rattle.nr_endpoint_tests.proofs.Counting.{release_counted}
use Rattle.nr_endpoint_tests.proofs.endpoint.TestEndpoint.release.Goals as goal

pub invariant_of-self : goal.invariant_of-self
invariant_of-self g c =
    subst (λ r. IsCounted c.release.new.self.link c.self.inside.most c.self.inside.least r) (sym c.take.ensures.after)
    (release_counted c.self.inside.endpoint.link c.release.new.self.link _ _ _ c.self.inside.region c.release.ensures.state c.self.invariant)
