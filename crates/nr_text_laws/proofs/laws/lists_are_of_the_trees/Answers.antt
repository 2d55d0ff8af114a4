use Rattle.nr_text_laws.proofs.ListingNames.{lists_are_of_the_directory_lem}
use Rattle.nr_text_laws.proofs.ListingWalks.{lists_are_of_the_trees_lem}
use Rattle.nr_text_laws.proofs.laws.lists_are_of_the_trees.Goals as goal

pub returns-clause-trees : goal.returns-clause-trees
returns-clause-trees c = lists_are_of_the_trees_lem

pub returns-clause-names : goal.returns-clause-names
returns-clause-names c = lists_are_of_the_directory_lem
