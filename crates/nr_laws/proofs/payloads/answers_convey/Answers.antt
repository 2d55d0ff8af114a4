use Rattle.nr_laws.proofs.ReturnedWrites.{answers_convey}
use Rattle.nr_laws.proofs.payloads.answers_convey.Goals as goal

pub returns : goal.returns
returns c = answers_convey
