use Rattle.nr_reduce.proofs.StagsLeft.{stags_left_lem}
use Rattle.nr_reduce.proofs.Submitting.{accepted_keeps}
use Rattle.nr_reduce.proofs.run_laws.accepted_calls_keep_the_law.Goals as goal

pub returns-clause-stags : goal.returns-clause-stags
returns-clause-stags c = stags_left_lem

pub returns-clause-accepted : goal.returns-clause-accepted
returns-clause-accepted c = accepted_keeps
