use Rattle.nr_pair_laws.proofs.Waiting.{commands_make_client_marks_lem, jobs_make_client_marks_lem, sides_are_interleaved_lem}
use Rattle.nr_pair_laws.proofs.laws.sides_are_interleaved.Goals as goal

pub returns-clause-lists : goal.returns-clause-lists
returns-clause-lists c = sides_are_interleaved_lem

pub returns-clause-of_commands : goal.returns-clause-of_commands
returns-clause-of_commands c = commands_make_client_marks_lem

pub returns-clause-of_jobs : goal.returns-clause-of_jobs
returns-clause-of_jobs c = jobs_make_client_marks_lem
