use Rattle.nr_capture_laws.proofs.WritableRuns.{read_back, writable}
use Rattle.nr_capture_laws.proofs.laws.runs_are_read_back.Goals as goal

pub returns-clause-writable : goal.returns-clause-writable
returns-clause-writable c = writable

pub returns-clause-read : goal.returns-clause-read
returns-clause-read c = read_back
