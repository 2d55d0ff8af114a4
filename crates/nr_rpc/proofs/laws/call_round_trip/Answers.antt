use Rattle.nr_rpc.proofs.Calls.{call_written}
use Rattle.nr_rpc.proofs.laws.call_round_trip.Goals as goal

pub returns : goal.returns
returns c = call_written
