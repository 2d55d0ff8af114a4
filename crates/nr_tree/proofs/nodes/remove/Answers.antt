use Rattle.nr_tree.proofs.NodeMaps.{nodes_remove}
use Rattle.nr_tree.proofs.nodes.remove.Goals as goal

pub returns : goal.returns
returns c = nodes_remove _ _ _ c.remove.ensures.updates.0
