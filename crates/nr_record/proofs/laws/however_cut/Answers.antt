use Rattle.nr_record.proofs.Again.{alike}
use Rattle.nr_record.proofs.laws.however_cut.Goals as goal

pub returns : goal.returns
returns c = alike
