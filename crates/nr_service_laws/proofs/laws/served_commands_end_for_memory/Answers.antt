use Rattle.nr_service_laws.proofs.EndCauses.{served_end_for_memory_lem}
use Rattle.nr_service_laws.proofs.laws.served_commands_end_for_memory.Goals as goal

pub returns : goal.returns
returns c = served_end_for_memory_lem
