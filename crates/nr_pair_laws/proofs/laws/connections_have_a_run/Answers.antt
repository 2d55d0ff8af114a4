use Rattle.nr_pair_laws.proofs.Pairs.{connections_have_a_run_lem}
use Rattle.nr_pair_laws.proofs.laws.connections_have_a_run.Goals as goal

pub returns : goal.returns
returns c = connections_have_a_run_lem
