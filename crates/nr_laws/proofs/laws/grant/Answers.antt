use Rattle.nr_laws.proofs.Granted.{submits_within}
use Rattle.nr_laws.proofs.laws.grant.Goals as goal

pub returns : goal.returns
returns c = submits_within
