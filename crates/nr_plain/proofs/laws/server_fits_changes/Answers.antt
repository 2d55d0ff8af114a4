use Rattle.nr_plain.proofs.ChangesFit.{server_fits_changes}
use Rattle.nr_plain.proofs.laws.server_fits_changes.Goals as goal

pub returns : goal.returns
returns c = server_fits_changes
