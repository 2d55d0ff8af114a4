use Rattle.nr_regions.proofs.Contents.{allowed_iff, same_denial}
use Rattle.nr_regions.proofs.laws.allowed_accesses.Goals as goal

pub returns-clause-allowed : goal.returns-clause-allowed
returns-clause-allowed c = allowed_iff

pub returns-clause-denied : goal.returns-clause-denied
returns-clause-denied c = same_denial
