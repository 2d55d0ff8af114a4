use Rattle.nr_host_laws.proofs.TypedMarks.{connections_are_typed_lem}
use Rattle.nr_host_laws.proofs.laws.connections_are_typed.Goals as goal

pub returns : goal.returns
returns c = connections_are_typed_lem
