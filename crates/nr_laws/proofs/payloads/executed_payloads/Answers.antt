use Rattle.nr_laws.proofs.ExecutedPayloads.{executes_have_plans}
use Rattle.nr_laws.proofs.OwnPayloads.{payloads_are_own}
use Rattle.nr_laws.proofs.payloads.executed_payloads.Goals as goal

pub returns-clause-planned : goal.returns-clause-planned
returns-clause-planned c = executes_have_plans

pub returns-clause-own : goal.returns-clause-own
returns-clause-own c = payloads_are_own
