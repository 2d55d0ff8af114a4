use Rattle.nr_plain.proofs.EntryCalls.{entries_have_calls}
use Rattle.nr_plain.proofs.Standings.{finding_is_standing}
use Rattle.nr_plain.proofs.numbered.finding_is_standing.Goals as goal

pub returns-clause-standing : goal.returns-clause-standing
returns-clause-standing c = finding_is_standing

pub returns-clause-calls : goal.returns-clause-calls
returns-clause-calls c = entries_have_calls
