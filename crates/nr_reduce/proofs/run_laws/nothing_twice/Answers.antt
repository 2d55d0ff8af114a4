use Rattle.nr_reduce.specs.Matched.{IsPrefixOf}
use Rattle.nr_reduce.proofs.Once.{executes_once}
use Rattle.nr_reduce.proofs.Placing.{completes_once, xids_differ}
use Rattle.nr_reduce.proofs.run_laws.nothing_twice.Goals as goal

pub returns-clause-executes : goal.returns-clause-executes
returns-clause-executes c = executes_once IsPrefixOf

pub returns-clause-completes : goal.returns-clause-completes
returns-clause-completes c = completes_once IsPrefixOf

pub returns-clause-xids : goal.returns-clause-xids
returns-clause-xids c = xids_differ IsPrefixOf
