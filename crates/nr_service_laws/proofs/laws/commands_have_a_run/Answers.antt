use Rattle.nr_service_laws.proofs.Commands.{commands_have_a_run_lem}
use Rattle.nr_service_laws.proofs.laws.commands_have_a_run.Goals as goal

pub returns : goal.returns
returns c = commands_have_a_run_lem
