use Rattle.nr_reduce.proofs.OutcomesStay.{outcomes_stay}
use Rattle.nr_reduce.proofs.standing_laws.clients_keep_outcomes.Goals as goal

pub returns : goal.returns
returns c = outcomes_stay
