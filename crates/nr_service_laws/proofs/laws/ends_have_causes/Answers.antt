use Rattle.nr_service_laws.proofs.EndCauses.{ends_have_causes_lem}
use Rattle.nr_service_laws.proofs.PeerEnds.{ends_say_lem}
use Rattle.nr_service_laws.proofs.laws.ends_have_causes.Goals as goal

pub returns-clause-causes : goal.returns-clause-causes
returns-clause-causes c = ends_have_causes_lem

pub returns-clause-says : goal.returns-clause-says
returns-clause-says c = ends_say_lem
