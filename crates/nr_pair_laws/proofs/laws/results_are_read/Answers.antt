use Rattle.nr_pair_laws.proofs.ReadResults.{results_are_read_lem}
use Rattle.nr_pair_laws.proofs.laws.results_are_read.Goals as goal

pub returns : goal.returns
returns c = results_are_read_lem
