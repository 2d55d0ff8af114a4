use Rattle.nr_pair_laws.proofs.LongerJournals.{files_in_longer_journals_lem}
use Rattle.nr_pair_laws.proofs.PlacedCalls.{answered_in_longer_journals_lem}
use Rattle.nr_pair_laws.proofs.laws.answered_in_longer_journals.Goals as goal

pub returns-clause-answered : goal.returns-clause-answered
returns-clause-answered c = answered_in_longer_journals_lem

pub returns-clause-files : goal.returns-clause-files
returns-clause-files c = files_in_longer_journals_lem
