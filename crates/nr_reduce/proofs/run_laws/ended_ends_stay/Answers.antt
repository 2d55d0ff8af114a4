use Rattle.nr_reduce.proofs.Steps.{ended_stays}
use Rattle.nr_reduce.specs.Client.{client_rules}
use Rattle.nr_reduce.specs.Server.{server_rules}
use Rattle.nr_reduce.proofs.run_laws.ended_ends_stay.Goals as goal

pub returns-clause-client : goal.returns-clause-client
returns-clause-client c = λ opened k end events. ended_stays (client_rules opened) k end events

pub returns-clause-server : goal.returns-clause-server
returns-clause-server c = λ opened k end events. ended_stays (server_rules opened) k end events
