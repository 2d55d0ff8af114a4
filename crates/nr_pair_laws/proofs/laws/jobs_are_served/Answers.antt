use Rattle.nr_pair_laws.proofs.JobAnswers.{jobs_are_served_lem}
use Rattle.nr_pair_laws.proofs.JobTypes.{jobs_are_typed_lem}
use Rattle.nr_pair_laws.proofs.laws.jobs_are_served.Goals as goal

pub returns-clause-served : goal.returns-clause-served
returns-clause-served c = jobs_are_served_lem

pub returns-clause-typed : goal.returns-clause-typed
returns-clause-typed c = jobs_are_typed_lem
