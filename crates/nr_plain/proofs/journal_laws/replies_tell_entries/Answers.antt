use Rattle.nr_plain.proofs.Added.{added}
use Rattle.nr_plain.proofs.journal_laws.replies_tell_entries.Goals as goal

pub returns : goal.returns
returns c = added
