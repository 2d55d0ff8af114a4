use Rattle.nr_pair_laws.proofs.RefusedGets.{gets_end_for_a_cause_lem}
use Rattle.nr_pair_laws.proofs.laws.gets_end_for_a_cause.Goals as goal

pub returns : goal.returns
returns c = gets_end_for_a_cause_lem
