use Rattle.nr_reduce.proofs.Resending.{resends_keep_law}
use Rattle.nr_reduce.proofs.run_laws.calls_are_sent_again.Goals as goal

pub returns : goal.returns
returns c = resends_keep_law
