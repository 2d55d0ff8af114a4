use Rattle.nr_reduce.proofs.NewStags.{stags_are_new}
use Rattle.nr_reduce.proofs.LeftClients.{left_links_stay}
use Rattle.nr_reduce.proofs.GoingOn.{calls_go_on}
use Rattle.nr_reduce.proofs.run_laws.reopened_links_go_on.Goals as goal

pub returns-clause-stags : goal.returns-clause-stags
returns-clause-stags c = stags_are_new

pub returns-clause-stays : goal.returns-clause-stays
returns-clause-stays c = left_links_stay

pub returns-clause-calls : goal.returns-clause-calls
returns-clause-calls c = calls_go_on
