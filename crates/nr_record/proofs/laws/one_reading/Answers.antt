use Rattle.nr_record.proofs.Unique.{one_reading}
use Rattle.nr_record.proofs.laws.one_reading.Goals as goal

pub returns : goal.returns
returns c = one_reading
