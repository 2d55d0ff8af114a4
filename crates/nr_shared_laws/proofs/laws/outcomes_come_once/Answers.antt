use Rattle.nr_shared_laws.proofs.Once.{outcomes_come_once}
use Rattle.nr_shared_laws.proofs.laws.outcomes_come_once.Goals as goal

pub returns : goal.returns
returns c = outcomes_come_once
