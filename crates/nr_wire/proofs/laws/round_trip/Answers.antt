use Rattle.nr_wire.proofs.Hellos.{hello_again}
use Rattle.nr_wire.proofs.Segments.{encoding_again}
use Rattle.nr_wire.proofs.laws.round_trip.Goals as goal

pub returns-clause-hello : goal.returns-clause-hello
returns-clause-hello c = hello_again

pub returns-clause-segment : goal.returns-clause-segment
returns-clause-segment c = encoding_again
