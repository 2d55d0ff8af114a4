use Rattle.std.proofs.Common.{Ok}
use Rattle.nr_plain.proofs.Procedures.{tree_kept}
use Rattle.nr_plain.proofs.journal_laws.failures_leave_the_tree.Goals as goal

pub returns : goal.returns
returns c t by space now p a e = tree_kept t by space now p (Ok a) e
