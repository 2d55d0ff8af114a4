use Rattle.nr_requester.proofs.ReopenedLinks.{first_links_are_kept, first_links_resend_none}
use Rattle.nr_requester.proofs.StopsOn.{first_links_stop}
use Rattle.nr_requester.proofs.laws.first_links_are_kept.Goals as goal

pub returns-clause-kept : goal.returns-clause-kept
returns-clause-kept c = first_links_are_kept

pub returns-clause-none : goal.returns-clause-none
returns-clause-none c = first_links_resend_none

pub returns-clause-stopped : goal.returns-clause-stopped
returns-clause-stopped c = first_links_stop
