use Rattle.nr_reduce.proofs.MemorySteps.{denied_alike, holds_later, holds_access, holds_closed, holds_registered}
use Rattle.nr_reduce.proofs.memory_laws.memory_follows_regions.Goals as goal

pub returns-clause-denies : goal.returns-clause-denies
returns-clause-denies c = denied_alike

pub returns-clause-stands : goal.returns-clause-stands
returns-clause-stands c = holds_later

pub returns-clause-access : goal.returns-clause-access
returns-clause-access c = holds_access

pub returns-clause-closed : goal.returns-clause-closed
returns-clause-closed c = holds_closed

pub returns-clause-registered : goal.returns-clause-registered
returns-clause-registered c = holds_registered
