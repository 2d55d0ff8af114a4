use Rattle.std.proofs.Common.{ap, refl, sym, ◌∙◌, subst, IsSome, Some, cond}
use Rattle.std.specs.Ordering.{nat_cmp}
use Rattle.std.specs.BTreeMap.{is_at}
use Rattle.std.specs.Map.{lookup}
use Rattle.nr_tree.specs.Changes.{node_with_entry, node_without_entry}
use Rattle.nr_tree.specs.private.Room.{HasEntryFor}
use Rattle.nr_tree.proofs.NodeMaps.{nodes_changed, nodes_absent, known}
use Rattle.nr_tree.proofs.nodes.replace_entry_in.Goals as goal

pub replace_entry-requires : goal.replace_entry-requires
replace_entry-requires c = known c.args.nodes.now.entries c.args.dir (HasEntryFor c.args.name.items c.args.was_subdirectory) c.in-Some.node.now (sym c.in-Some.ensures.value) c.requires

pub returns-in-Some : goal.returns-in-Some
returns-in-Some c = nodes_changed c.args.nodes.now.entries _ c.args.dir (λ n. node_with_entry c.args.now c.args.name.items c.args.number c.args.is_subdirectory (node_without_entry c.args.now c.args.name.items c.args.was_subdirectory n)) c.in-Some.node.now (sym c.in-Some.ensures.value)
    (λ q. ((c.get_mut.follows.holds c.replace_entry.new.self).3 (subst IsSome c.in-Some.ensures.value refl)).0 q
    ∙ ap (λ v. cond (is_at (nat_cmp c.args.dir) q) (Some v) (lookup (is_at (nat_cmp q)) c.args.nodes.now.entries)) c.replace_entry.ensures)

pub returns-in-None : goal.returns-in-None
returns-in-None c = nodes_absent c.args.nodes.now.entries _ c.args.dir _ (sym c.in-None.ensures.value) (ap (λ m. m.entries) c.get_mut.follows.holds-at-none)
