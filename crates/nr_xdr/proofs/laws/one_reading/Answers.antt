use Rattle.nr_xdr.proofs.OneReading.{one_reading_of}
use Rattle.nr_xdr.proofs.laws.one_reading.Goals as goal

pub returns : goal.returns
returns c = one_reading_of
