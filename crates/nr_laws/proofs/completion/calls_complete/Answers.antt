use Rattle.nr_laws.proofs.SettledLinks.{calls_complete_lem}
use Rattle.nr_laws.proofs.completion.calls_complete.Goals as goal

pub returns : goal.returns
returns c = calls_complete_lem
