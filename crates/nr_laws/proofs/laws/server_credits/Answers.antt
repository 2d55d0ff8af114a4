use Rattle.nr_laws.proofs.ServerCredits.{server_grants_in_range, server_grants_what_is_set}
use Rattle.nr_laws.proofs.laws.server_credits.Goals as goal

pub returns-clause-range : goal.returns-clause-range
returns-clause-range c = server_grants_in_range

pub returns-clause-set : goal.returns-clause-set
returns-clause-set c = server_grants_what_is_set
