use Rattle.nr_plain.proofs.KeptCalls.{server_keeps_calls}
use Rattle.nr_plain.proofs.laws.server_keeps_calls.Goals as goal

pub returns : goal.returns
returns c = server_keeps_calls
