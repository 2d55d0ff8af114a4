use Rattle.nr_rpc.proofs.Calls.{one_call}
use Rattle.nr_rpc.proofs.laws.one_call_head.Goals as goal

pub returns : goal.returns
returns c = one_call
