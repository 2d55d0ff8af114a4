use Rattle.nr_laws.proofs.ReopenedLinks.{reopened_links_agree, no_call_is_left_over}
use Rattle.nr_laws.proofs.EarlierStags.{earlier_stags_are_dead}
use Rattle.nr_laws.proofs.OpenedAgain.{reopened_links_are_opened}
use Rattle.nr_laws.proofs.laws.reopening.Goals as goal

pub returns-clause-opened : goal.returns-clause-opened
returns-clause-opened c = reopened_links_are_opened

pub returns-clause-agree : goal.returns-clause-agree
returns-clause-agree c = reopened_links_agree

pub returns-clause-calls : goal.returns-clause-calls
returns-clause-calls c = no_call_is_left_over

pub returns-clause-stags : goal.returns-clause-stags
returns-clause-stags c = earlier_stags_are_dead
