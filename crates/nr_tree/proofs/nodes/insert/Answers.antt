use Rattle.std.proofs.Common.{ap, ◌∙◌}
use Rattle.std.specs.FinMap as map
use Rattle.nr_tree.specs.Tree.{nodes_of}
use Rattle.nr_tree.specs.declared.node.Node.{Node}
use Rattle.nr_tree.proofs.NodeMaps.{nodes_insert}
use Rattle.nr_tree.proofs.nodes.insert.Goals as goal

pub returns-clause-ok : goal.returns-clause-ok
returns-clause-ok c =
    nodes_insert _ _ _ _ c.in_ok-insert.ensures.updates.0
    ∙ ap (λ (node : Node). map.insert (nodes_of c.args.nodes.now.entries) c.args.number node) c.in_ok-kept.ensures
