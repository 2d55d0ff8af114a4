use Rattle.std.proofs.Common.{◌<◌, ◌^◌, IfSome, subst, sym, ap, ◌∙◌, false}
use Rattle.std.specs.FinMap as map
use Rattle.nr_tree.specs.Tree.{Tree, nodes_of, nodes_with_change}
use Rattle.nr_tree.specs.declared.node.Node.{Node}
use Rattle.nr_tree.specs.Changes.{tree_with_link, node_with_entry, node_with_link}
use Rattle.nr_tree.proofs.NodeMaps.{stays_changed, changes_commute}
use Rattle.nr_tree.proofs.table.NodeTable.add_link.Goals as goal

pub add_link_to-requires : goal.add_link_to-requires
add_link_to-requires c =
    stays_changed (nodes_of c.self.inside.nodes.entries) (nodes_of c.add_entry_to.new.nodes.entries) c.args.dir c.args.number (node_with_entry c.args.now c.args.name.items c.args.number false) (λ n. n.metadata.links < 2 ^ 31)
    c.in_ok-add_entry_to.ensures.ok (λ z. c.requires.other (sym z)) (subst (λ (t : Tree). IfSome (map.get t.nodes c.args.number) (λ (n : Node). n.metadata.links < 2 ^ 31)) (sym c.self.view_is) c.requires.links)

pub returns-clause-ok : goal.returns-clause-ok
returns-clause-ok c =
    ap (λ m. record { next = c.self.inside.next; nodes = m }) (c.add_link_to.ensures ∙ ap (λ m. nodes_with_change m c.args.number (node_with_link c.args.now c.args.dir)) c.in_ok-add_entry_to.ensures.ok
    ∙ changes_commute (nodes_of c.self.inside.nodes.entries) c.args.dir c.args.number (node_with_entry c.args.now c.args.name.items c.args.number false) (node_with_link c.args.now c.args.dir) c.requires.other)
    ∙ ap (λ (t : Tree). tree_with_link t c.args.now c.args.dir c.args.name.items c.args.number) c.self.view_is
