use Rattle.nr_plain.proofs.TurnAnswers.{answered_as_run, old_calls}
use Rattle.nr_plain.proofs.numbered.answers_are_those_of_runs.Goals as goal

pub returns-clause-answered : goal.returns-clause-answered
returns-clause-answered c = answered_as_run

pub returns-clause-old : goal.returns-clause-old
returns-clause-old c = old_calls
