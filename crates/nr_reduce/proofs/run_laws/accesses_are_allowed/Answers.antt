use Rattle.nr_reduce.proofs.OwnStags.{grants_own}
use Rattle.nr_reduce.proofs.Touches.{client_allows, server_allows}
use Rattle.nr_reduce.proofs.run_laws.accesses_are_allowed.Goals as goal

pub returns-clause-stags : goal.returns-clause-stags
returns-clause-stags c = grants_own

pub returns-clause-client : goal.returns-clause-client
returns-clause-client c = client_allows

pub returns-clause-server : goal.returns-clause-server
returns-clause-server c = server_allows
