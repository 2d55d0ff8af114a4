use Rattle.nr_top_laws.proofs.ServerStatuses.{servers_have_statuses_lem}
use Rattle.nr_top_laws.proofs.laws.servers_have_statuses.Goals as goal

pub returns : goal.returns
returns c = servers_have_statuses_lem
