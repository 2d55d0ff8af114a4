use Rattle.nr_text_laws.proofs.Nodes.{links_are_of_the_node_lem, stats_are_of_the_node_lem}
use Rattle.nr_text_laws.proofs.laws.texts_are_of_the_node.Goals as goal

pub returns-clause-stat : goal.returns-clause-stat
returns-clause-stat c = stats_are_of_the_node_lem

pub returns-clause-link : goal.returns-clause-link
returns-clause-link c = links_are_of_the_node_lem
