use Rattle.nr_header.proofs.Messages.{header_written}
use Rattle.nr_header.proofs.laws.header_round_trip.Goals as goal

pub returns : goal.returns
returns c = header_written
