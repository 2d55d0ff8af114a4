use Rattle.nr_top_laws.proofs.StatusCauses.{lines_are_read_lem, statuses_have_causes_lem}
use Rattle.nr_top_laws.proofs.laws.statuses_have_causes.Goals as goal

pub returns-clause-causes : goal.returns-clause-causes
returns-clause-causes c = statuses_have_causes_lem

pub returns-clause-lines : goal.returns-clause-lines
returns-clause-lines c = lines_are_read_lem
