use Rattle.nr_drill.proofs.LessSteps.{steps_leave_less}
use Rattle.nr_drill.proofs.EndingDrains.{drains_end}
use Rattle.nr_drill.proofs.KeptTypes.{steps_keep_types}
use Rattle.nr_drill.proofs.LessPlain.{plain_answers, plain_answers_in_bytes}
use Rattle.nr_drill.proofs.SomeRuns.{plain_drains_end}
use Rattle.nr_drill.proofs.laws.drains_end.Goals as goal

pub returns-clause-steps : goal.returns-clause-steps
returns-clause-steps c = steps_leave_less

pub returns-clause-types : goal.returns-clause-types
returns-clause-types c = steps_keep_types

pub returns-clause-end : goal.returns-clause-end
returns-clause-end c = drains_end

pub returns-clause-answers : goal.returns-clause-answers
returns-clause-answers c = plain_answers

pub returns-clause-bytes : goal.returns-clause-bytes
returns-clause-bytes c = plain_answers_in_bytes

pub returns-clause-plain : goal.returns-clause-plain
returns-clause-plain c = plain_drains_end
