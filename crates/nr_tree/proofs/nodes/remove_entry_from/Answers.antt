use Rattle.std.proofs.Common.{ap, refl, sym, ◌∙◌, subst, IsSome, Some, cond, IsTrue, ◌≤◌}
use Rattle.std.specs.Ordering.{nat_cmp}
use Rattle.std.specs.BTreeMap.{is_at}
use Rattle.std.specs.Map.{lookup}
use Rattle.nr_tree.specs.Tree.{is_dir}
use Rattle.nr_tree.specs.Changes.{node_without_entry}
use Rattle.nr_tree.proofs.NodeMaps.{nodes_changed, nodes_absent, known, one_le}
use Rattle.nr_tree.proofs.nodes.remove_entry_from.Goals as goal

pub remove_entry-requires-clause-is : goal.remove_entry-requires-clause-is
remove_entry-requires-clause-is c = (known c.args.nodes.now.entries c.args.dir (λ n. IsTrue (is_dir n) × (1 ≤ n.metadata.links)) c.in-Some.node.now (sym c.in-Some.ensures.value) c.requires).0

pub remove_entry-requires-clause-counted : goal.remove_entry-requires-clause-counted
remove_entry-requires-clause-counted c = one_le c.args.is_subdirectory c.in-Some.node.now.metadata.links (known c.args.nodes.now.entries c.args.dir (λ n. IsTrue (is_dir n) × (1 ≤ n.metadata.links)) c.in-Some.node.now (sym c.in-Some.ensures.value) c.requires).1

pub returns-in-Some : goal.returns-in-Some
returns-in-Some c = nodes_changed c.args.nodes.now.entries _ c.args.dir (node_without_entry c.args.now c.args.name.now c.args.is_subdirectory) c.in-Some.node.now (sym c.in-Some.ensures.value)
    (λ q. ((c.get_mut.follows.holds c.remove_entry.new.self).3 (subst IsSome c.in-Some.ensures.value refl)).0 q
    ∙ ap (λ v. cond (is_at (nat_cmp c.args.dir) q) (Some v) (lookup (is_at (nat_cmp q)) c.args.nodes.now.entries)) c.remove_entry.ensures)

pub returns-in-None : goal.returns-in-None
returns-in-None c = nodes_absent c.args.nodes.now.entries _ c.args.dir _ (sym c.in-None.ensures.value) (ap (λ m. m.entries) c.get_mut.follows.holds-at-none)
