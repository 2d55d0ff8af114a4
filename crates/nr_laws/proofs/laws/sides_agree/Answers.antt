use Rattle.nr_laws.proofs.MatchedSizes.{sides_agree, client_goes_by_agreement, server_goes_by_agreement}
use Rattle.nr_laws.proofs.laws.sides_agree.Goals as goal

pub returns-clause-same : goal.returns-clause-same
returns-clause-same c = sides_agree

pub returns-clause-client : goal.returns-clause-client
returns-clause-client c = client_goes_by_agreement

pub returns-clause-server : goal.returns-clause-server
returns-clause-server c = server_goes_by_agreement
