use Rattle.nr_service_laws.proofs.NotClosed.{served_not_closed_lem}
use Rattle.nr_service_laws.proofs.ServedLaws.{served_keep_laws_lem, served_not_ended_lem}
use Rattle.nr_service_laws.proofs.laws.commands_keep_the_law.Goals as goal

pub returns-clause-laws : goal.returns-clause-laws
returns-clause-laws c = served_keep_laws_lem

pub returns-clause-open : goal.returns-clause-open
returns-clause-open c = served_not_ended_lem

pub returns-clause-not_closed : goal.returns-clause-not_closed
returns-clause-not_closed c = served_not_closed_lem
