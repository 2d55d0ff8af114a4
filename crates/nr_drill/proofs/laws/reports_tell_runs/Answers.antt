use Rattle.nr_drill.proofs.Told.{reports_tell}
use Rattle.nr_drill.proofs.laws.reports_tell_runs.Goals as goal

pub returns : goal.returns
returns c = reports_tell
