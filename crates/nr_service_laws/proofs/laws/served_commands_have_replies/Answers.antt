use Rattle.nr_service_laws.proofs.ServedOutcomes.{served_clients_have_replies_lem, served_commands_end_lem}
use Rattle.nr_service_laws.proofs.laws.served_commands_have_replies.Goals as goal

pub returns-clause-outcomes : goal.returns-clause-outcomes
returns-clause-outcomes c = served_clients_have_replies_lem

pub returns-clause-ends : goal.returns-clause-ends
returns-clause-ends c = served_commands_end_lem
