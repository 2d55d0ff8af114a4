use Rattle.nr_endpoint.proofs.AgreesByHellos.{agrees_by_hellos_lem}
use Rattle.nr_endpoint.proofs.KeptSizes.{keeps_sizes_lem}
use Rattle.nr_endpoint.proofs.laws.agrees_by_hellos.Goals as goal

pub returns-clause-by_hellos : goal.returns-clause-by_hellos
returns-clause-by_hellos c = agrees_by_hellos_lem

pub returns-clause-sizes : goal.returns-clause-sizes
returns-clause-sizes c = keeps_sizes_lem
