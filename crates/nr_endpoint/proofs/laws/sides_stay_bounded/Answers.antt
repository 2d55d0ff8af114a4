use Rattle.nr_endpoint.proofs.Bounds.{sides_stay_bounded_lem}
use Rattle.nr_endpoint.proofs.HelloFirst.{fpdus_follow_hello}
use Rattle.nr_endpoint.proofs.laws.sides_stay_bounded.Goals as goal

pub returns-clause-bounds : goal.returns-clause-bounds
returns-clause-bounds c = sides_stay_bounded_lem

pub returns-clause-greeted : goal.returns-clause-greeted
returns-clause-greeted c = fpdus_follow_hello
