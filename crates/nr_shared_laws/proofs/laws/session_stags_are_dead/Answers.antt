use Rattle.nr_shared_laws.proofs.Once.{session_stags_are_dead}
use Rattle.nr_shared_laws.proofs.laws.session_stags_are_dead.Goals as goal

pub returns : goal.returns
returns c = session_stags_are_dead
