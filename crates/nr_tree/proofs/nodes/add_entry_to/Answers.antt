use Rattle.std.proofs.Common.{ap, refl, sym, ◌∙◌, subst, IsSome, Some, cond}
use Rattle.std.specs.Ordering.{nat_cmp}
use Rattle.std.specs.BTreeMap.{is_at}
use Rattle.std.specs.Map.{lookup}
use Rattle.nr_tree.specs.Changes.{node_with_entry}
use Rattle.nr_tree.specs.private.Room.{HasRoomFor}
use Rattle.nr_tree.proofs.NodeMaps.{nodes_changed, nodes_same, nodes_absent, known, on_ok, on_err}
use Rattle.nr_tree.proofs.nodes.add_entry_to.Goals as goal

pub add_entry-requires : goal.add_entry-requires
add_entry-requires c = known c.args.nodes.now.entries c.args.dir (HasRoomFor c.args.name.items) c.in-Some.node.now (sym c.in-Some.ensures.value) c.requires

pub returns-in-Some-clause-ok : goal.returns-in-Some-clause-ok
returns-in-Some-clause-ok c = on_ok c.add_entry.result
    (λ e. nodes_changed c.args.nodes.now.entries _ c.args.dir (node_with_entry c.args.now c.args.name.items c.args.number c.args.is_subdirectory) c.in-Some.node.now (sym c.in-Some.ensures.value)
    (λ q. ((c.get_mut.follows.holds c.add_entry.new.self).3 (subst IsSome c.in-Some.ensures.value refl)).0 q
    ∙ ap (λ v. cond (is_at (nat_cmp c.args.dir) q) (Some v) (lookup (is_at (nat_cmp q)) c.args.nodes.now.entries)) e))
    c.add_entry.ensures.ok

pub returns-in-Some-clause-err : goal.returns-in-Some-clause-err
returns-in-Some-clause-err c = on_err c.add_entry.result
    (λ e. nodes_same c.args.nodes.now.entries _ c.args.dir c.in-Some.node.now (sym c.in-Some.ensures.value)
    (λ q. ((c.get_mut.follows.holds c.add_entry.new.self).3 (subst IsSome c.in-Some.ensures.value refl)).0 q
    ∙ ap (λ v. cond (is_at (nat_cmp c.args.dir) q) (Some v) (lookup (is_at (nat_cmp q)) c.args.nodes.now.entries)) e))
    c.add_entry.ensures.err

pub returns-in-None-clause-ok : goal.returns-in-None-clause-ok
returns-in-None-clause-ok c = nodes_absent c.args.nodes.now.entries _ c.args.dir _ (sym c.in-None.ensures.value) (ap (λ m. m.entries) c.get_mut.follows.holds-at-none)
