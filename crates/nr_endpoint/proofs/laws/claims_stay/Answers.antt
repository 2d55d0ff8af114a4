use Rattle.nr_endpoint.proofs.ClaimLaws.{claims_stay_lem}
use Rattle.nr_endpoint.proofs.laws.claims_stay.Goals as goal

pub returns : goal.returns
returns c = claims_stay_lem
