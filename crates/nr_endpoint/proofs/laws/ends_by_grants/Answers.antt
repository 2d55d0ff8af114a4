use Rattle.nr_endpoint.proofs.GrantLaws.{grants_end_alike, offers_deny_alike}
use Rattle.nr_endpoint.proofs.laws.ends_by_grants.Goals as goal

pub returns-clause-ends : goal.returns-clause-ends
returns-clause-ends c = grants_end_alike

pub returns-clause-offers : goal.returns-clause-offers
returns-clause-offers c = offers_deny_alike
