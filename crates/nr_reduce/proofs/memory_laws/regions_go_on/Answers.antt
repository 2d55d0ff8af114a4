use Rattle.nr_reduce.proofs.MemorySteps.{received_one, offered_later, offered_closed, offered_registered}
use Rattle.nr_reduce.proofs.memory_laws.regions_go_on.Goals as goal

pub returns-clause-accesses : goal.returns-clause-accesses
returns-clause-accesses c = received_one

pub returns-clause-later : goal.returns-clause-later
returns-clause-later c = offered_later

pub returns-clause-closed : goal.returns-clause-closed
returns-clause-closed c = offered_closed

pub returns-clause-registered : goal.returns-clause-registered
returns-clause-registered c = offered_registered
