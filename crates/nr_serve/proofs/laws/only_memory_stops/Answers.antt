use Rattle.nr_serve.proofs.Completing.{only_memory}
use Rattle.nr_serve.proofs.laws.only_memory_stops.Goals as goal

pub returns : goal.returns
returns c = only_memory
