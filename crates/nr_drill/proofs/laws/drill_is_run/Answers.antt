use Rattle.nr_drill.proofs.Headed.{drill_is_run}
use Rattle.nr_drill.proofs.laws.drill_is_run.Goals as goal

pub returns : goal.returns
returns c = drill_is_run
