use Rattle.nr_requester.proofs.CallsGoOn.{calls_go_on}
use Rattle.nr_requester.proofs.NextBegins.{next_begins}
use Rattle.nr_requester.proofs.NextOpened.{next_links_are_opened}
use Rattle.nr_requester.proofs.laws.calls_go_on.Goals as goal

pub returns-clause-next : goal.returns-clause-next
returns-clause-next c = calls_go_on

pub returns-clause-begins : goal.returns-clause-begins
returns-clause-begins c = next_begins

pub returns-clause-opens : goal.returns-clause-opens
returns-clause-opens c = next_links_are_opened
