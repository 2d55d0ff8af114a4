use Rattle.std.proofs.Common.{sym}
use Rattle.nr_script.proofs.Counts.{none_counted, no_seconds}
use Rattle.nr_script.proofs.draft.Draft.new.Goals as goal

pub invariant_of-result : goal.invariant_of-result
invariant_of-result c = rw (c.new.ensures.items) (c.requires, none_counted, sym no_seconds)
