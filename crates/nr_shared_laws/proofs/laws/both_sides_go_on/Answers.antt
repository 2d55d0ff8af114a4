use Rattle.nr_shared_laws.proofs.BothSides.{both_sides_go_on}
use Rattle.nr_shared_laws.proofs.laws.both_sides_go_on.Goals as goal

pub returns : goal.returns
returns c = both_sides_go_on
