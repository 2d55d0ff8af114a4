use Rattle.nr_service_laws.proofs.Commands.{sessions_begin_lem}
use Rattle.nr_service_laws.proofs.laws.sessions_begin.Goals as goal

pub returns : goal.returns
returns c = sessions_begin_lem
