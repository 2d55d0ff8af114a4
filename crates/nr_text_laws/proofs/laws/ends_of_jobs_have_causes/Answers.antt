use Rattle.nr_text_laws.proofs.EndedJobs.{ends_of_jobs_have_causes_lem}
use Rattle.nr_text_laws.proofs.laws.ends_of_jobs_have_causes.Goals as goal

pub returns : goal.returns
returns c = ends_of_jobs_have_causes_lem
