use Rattle.nr_plain.proofs.ChangesOnce.{changes_once_lem}
use Rattle.nr_plain.proofs.numbered.changes_once.Goals as goal

pub returns : goal.returns
returns c = changes_once_lem
