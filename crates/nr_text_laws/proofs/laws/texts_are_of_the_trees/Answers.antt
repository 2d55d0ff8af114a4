use Rattle.nr_text_laws.proofs.Commands.{texts_are_of_the_trees_lem}
use Rattle.nr_text_laws.proofs.laws.texts_are_of_the_trees.Goals as goal

pub returns : goal.returns
returns c = texts_are_of_the_trees_lem
