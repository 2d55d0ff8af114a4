use Rattle.std.proofs.Common.{ap, ◌∙◌}
use Rattle.nr_tree.specs.Tree.{nodes_of}
use Rattle.std.specs.FinMap as map
use Rattle.nr_tree.proofs.NodeMaps.{stays, undone}
use Rattle.nr_tree.proofs.nodes.insert_with_entry.Goals as goal

pub add_entry_to-requires : goal.add_entry_to-requires
add_entry_to-requires c = stays (nodes_of c.args.nodes.now.entries) _ c.args.number c.args.dir c.args.node _ c.in_ok-insert.ensures.ok c.requires.other c.requires.free

pub returns-in-Err-clause-err : goal.returns-in-Err-clause-err
returns-in-Err-clause-err c =
    c.remove.ensures ∙ ap (λ m. map.remove m c.args.number) (c.in-Err.ensures.err ∙ c.in_ok-insert.ensures.ok)
    ∙ undone (nodes_of c.args.nodes.now.entries) c.args.number c.args.node c.requires.fresh
