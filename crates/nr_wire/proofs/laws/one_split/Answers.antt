use Rattle.nr_wire.proofs.Splits.{split_Splits, one_split as no_other, split_append}
use Rattle.nr_wire.proofs.laws.one_split.Goals as goal

pub returns-clause-exists : goal.returns-clause-exists
returns-clause-exists c = split_Splits

pub returns-clause-only : goal.returns-clause-only
returns-clause-only c = no_other

pub returns-clause-goes_on : goal.returns-clause-goes_on
returns-clause-goes_on c = split_append
