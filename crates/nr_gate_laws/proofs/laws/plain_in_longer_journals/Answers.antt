use Rattle.nr_gate_laws.proofs.GatedReplies.{plain_in_longer_journals}
use Rattle.nr_gate_laws.proofs.laws.plain_in_longer_journals.Goals as goal

pub returns : goal.returns
returns c = plain_in_longer_journals
