use Rattle.std.proofs.Common.{◌<◌, IfSome, subst, sym}
use Rattle.std.specs.FinMap as map
use Rattle.nr_tree.specs.Tree.{Tree, nodes_of}
use Rattle.nr_tree.specs.declared.node.Node.{Node}
use Rattle.nr_tree.specs.Changes.{node_without_entry}
use Rattle.nr_tree.proofs.NodeMaps.{stays_changed}
use Rattle.nr_tree.proofs.table.NodeTable.remove_entry.Goals as goal

pub drop_name_of-requires : goal.drop_name_of-requires
drop_name_of-requires c =
    stays_changed (nodes_of c.self.inside.nodes.entries) (nodes_of c.remove_entry_from.new.nodes.entries) c.args.dir c.args.number (node_without_entry c.args.now c.args.name.now c.is_dir_at-is_subdirectory.result) (λ n. 0 < n.metadata.links)
    c.remove_entry_from.ensures c.requires.counted (subst (λ (t : Tree). IfSome (map.get t.nodes c.args.number) (λ (n : Node). 0 < n.metadata.links)) (sym c.self.view_is) c.requires.linked)
