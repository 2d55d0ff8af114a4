use Rattle.nr_reduce.proofs.KeptReopening.{kept_reopens}
use Rattle.nr_reduce.proofs.OutcomesApart.{calls_uncompleted}
use Rattle.nr_reduce.proofs.standing_laws.kept_calls_go_on.Goals as goal

pub returns-clause-reopens : goal.returns-clause-reopens
returns-clause-reopens c = kept_reopens

pub returns-clause-uncompleted : goal.returns-clause-uncompleted
returns-clause-uncompleted c = calls_uncompleted
