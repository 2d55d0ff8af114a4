use Rattle.nr_wire.proofs.PrivateData.{terms_are_read}
use Rattle.nr_wire.proofs.laws.terms_are_read.Goals as goal

pub returns : goal.returns
returns c = terms_are_read
