use Rattle.nr_pair_laws.proofs.RefusedCalls.{gets_are_refused_for_rights_lem}
use Rattle.nr_pair_laws.proofs.Refusals.{files_refuse_for_rights_lem}
use Rattle.nr_pair_laws.proofs.laws.files_refuse_for_rights.Goals as goal

pub returns-clause-results : goal.returns-clause-results
returns-clause-results c = files_refuse_for_rights_lem

pub returns-clause-calls : goal.returns-clause-calls
returns-clause-calls c = gets_are_refused_for_rights_lem
