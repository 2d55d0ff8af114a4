use Rattle.nr_laws.proofs.NeitherEnds.{links_stay, matched_calls_complete, no_access_denied, clients_stay}
use Rattle.nr_laws.proofs.completion.matched_links_stay.Goals as goal

pub returns-clause-stays : goal.returns-clause-stays
returns-clause-stays c = links_stay

pub returns-clause-complete : goal.returns-clause-complete
returns-clause-complete c = matched_calls_complete

pub returns-clause-allowed : goal.returns-clause-allowed
returns-clause-allowed c = no_access_denied

pub returns-clause-clients : goal.returns-clause-clients
returns-clause-clients c = clients_stay
