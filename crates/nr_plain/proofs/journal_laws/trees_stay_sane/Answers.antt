use Rattle.nr_plain.proofs.SaneTrees.{procedure_sane, tree_sane}
use Rattle.nr_plain.proofs.journal_laws.trees_stay_sane.Goals as goal

pub returns-clause-step : goal.returns-clause-step
returns-clause-step c = procedure_sane

pub returns-clause-tree : goal.returns-clause-tree
returns-clause-tree c = tree_sane
