use Rattle.nr_plain.proofs.OneEntry.{one_at_most}
use Rattle.nr_plain.proofs.journal_laws.calls_add_one_entry_at_most.Goals as goal

pub returns : goal.returns
returns c = one_at_most
