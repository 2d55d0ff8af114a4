use Rattle.nr_record_host.proofs.Completing.{completes}
use Rattle.nr_record_host.proofs.laws.record_connections_complete.Goals as goal

pub returns : goal.returns
returns c = completes
