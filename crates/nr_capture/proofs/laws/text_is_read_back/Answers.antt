use Rattle.nr_capture.proofs.WrittenCaptures.{capture_back}
use Rattle.nr_capture.proofs.ReadCaptures.{read_writable}
use Rattle.nr_capture.proofs.laws.text_is_read_back.Goals as goal

pub returns-clause-written : goal.returns-clause-written
returns-clause-written c = capture_back

pub returns-clause-read : goal.returns-clause-read
returns-clause-read c = read_writable
