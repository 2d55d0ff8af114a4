use Rattle.nr_pair_laws.proofs.FirstTrees.{roots_are_sane_lem}
use Rattle.nr_pair_laws.proofs.laws.roots_are_sane.Goals as goal

pub returns : goal.returns
returns c = roots_are_sane_lem
