use Rattle.nr_top_laws.proofs.NumberedStatuses.{numbered_lines_are_read_lem, numbered_statuses_have_causes_lem}
use Rattle.nr_top_laws.proofs.laws.numbered_statuses_have_causes.Goals as goal

pub returns-clause-causes : goal.returns-clause-causes
returns-clause-causes c = numbered_statuses_have_causes_lem

pub returns-clause-lines : goal.returns-clause-lines
returns-clause-lines c = numbered_lines_are_read_lem
