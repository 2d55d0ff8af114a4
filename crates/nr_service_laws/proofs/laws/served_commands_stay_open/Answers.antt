use Rattle.nr_service_laws.proofs.OpenLinks.{served_clients_stay_lem, served_commands_stay_lem}
use Rattle.nr_service_laws.proofs.laws.served_commands_stay_open.Goals as goal

pub returns-clause-clients : goal.returns-clause-clients
returns-clause-clients c = served_clients_stay_lem

pub returns-clause-requesters : goal.returns-clause-requesters
returns-clause-requesters c = served_commands_stay_lem
