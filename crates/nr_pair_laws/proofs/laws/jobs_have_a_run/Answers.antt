use Rattle.nr_pair_laws.proofs.JobRuns.{jobs_have_a_run_lem}
use Rattle.nr_pair_laws.proofs.laws.jobs_have_a_run.Goals as goal

pub returns : goal.returns
returns c = jobs_have_a_run_lem
