use Rattle.nr_service_laws.proofs.CompleteCommands.{served_commands_complete_lem, served_commands_have_causes_lem}
use Rattle.nr_service_laws.proofs.laws.served_commands_complete.Goals as goal

pub returns-clause-causes : goal.returns-clause-causes
returns-clause-causes c = served_commands_have_causes_lem

pub returns-clause-complete : goal.returns-clause-complete
returns-clause-complete c = served_commands_complete_lem
