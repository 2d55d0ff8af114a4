use Rattle.nr_capture.proofs.WrittenCaptures.{read_of}
use Rattle.nr_capture.proofs.printing.write_capture.Goals as goal

pub returns-clause-read : goal.returns-clause-read
returns-clause-read c = read_of c.args.capture.now c.opening.result c.marks.result.now c.written.result c.opening.ensures.capture c.opening.ensures.is c.marks.ensures c.written.ensures
