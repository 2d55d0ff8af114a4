use Rattle.nr_pair_laws.proofs.JobAnswers.{jobs_give_the_file_lem, jobs_read_the_file_lem}
use Rattle.nr_pair_laws.proofs.laws.jobs_get_the_file.Goals as goal

pub returns-clause-reads : goal.returns-clause-reads
returns-clause-reads c = jobs_read_the_file_lem

pub returns-clause-gives : goal.returns-clause-gives
returns-clause-gives c = jobs_give_the_file_lem
