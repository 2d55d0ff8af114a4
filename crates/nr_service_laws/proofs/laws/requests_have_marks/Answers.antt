use Rattle.nr_service_laws.proofs.Extending.{does_after}
use Rattle.nr_service_laws.proofs.SeveralCalls.{does_asks, does_follows}
use Rattle.nr_service_laws.proofs.OutcomesInOrder.{followed_outcomes}
use Rattle.nr_service_laws.proofs.laws.requests_have_marks.Goals as goal

pub returns-clause-asks : goal.returns-clause-asks
returns-clause-asks g c = λ reads call v w result asks. does_asks reads call v w result asks

pub returns-clause-follows : goal.returns-clause-follows
returns-clause-follows g c = λ request v w result follows. does_follows request v w result follows

pub returns-clause-outcomes : goal.returns-clause-outcomes
returns-clause-outcomes g c = λ request v w result follows. followed_outcomes request v w result follows

pub returns-clause-goes_on : goal.returns-clause-goes_on
returns-clause-goes_on g c = λ given result u v w first later on one two. does_after given result u v w first later on one two
