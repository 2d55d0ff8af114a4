use Rattle.nr_text_laws.proofs.Finding.{paths_in_one_tree_lem, texts_in_one_tree_lem}
use Rattle.nr_text_laws.proofs.laws.paths_in_one_tree.Goals as goal

pub returns-clause-same : goal.returns-clause-same
returns-clause-same c = paths_in_one_tree_lem

pub returns-clause-kept : goal.returns-clause-kept
returns-clause-kept c = texts_in_one_tree_lem
