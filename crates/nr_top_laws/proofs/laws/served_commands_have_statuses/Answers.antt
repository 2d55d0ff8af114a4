use Rattle.nr_top_laws.proofs.CommandStatuses.{served_commands_have_statuses_lem}
use Rattle.nr_top_laws.proofs.laws.served_commands_have_statuses.Goals as goal

pub returns : goal.returns
returns c = served_commands_have_statuses_lem
