use Rattle.std.proofs.Common.{ap, refl, sym, ◌∙◌, subst, IsSome, Some, cond}
use Rattle.std.specs.Ordering.{nat_cmp}
use Rattle.std.specs.BTreeMap.{is_at}
use Rattle.std.specs.Map.{lookup}
use Rattle.nr_tree.specs.Tree.{is_regular}
use Rattle.nr_tree.specs.Changes.{node_with_size}
use Rattle.nr_tree.proofs.NodeMaps.{nodes_changed, nodes_absent, there}
use Rattle.nr_tree.proofs.nodes.size_node.Goals as goal

pub set_size-requires-clause-regular : goal.set_size-requires-clause-regular
set_size-requires-clause-regular c = there c.args.nodes.now.entries c.args.number is_regular c.in-Some.node.now (sym c.in-Some.ensures.value) c.requires.regular

pub returns-in-Some : goal.returns-in-Some
returns-in-Some c = nodes_changed c.args.nodes.now.entries _ c.args.number (node_with_size c.args.now c.args.size) c.in-Some.node.now (sym c.in-Some.ensures.value)
    (λ q. ((c.get_mut.follows.holds c.set_size.new.self).3 (subst IsSome c.in-Some.ensures.value refl)).0 q
    ∙ ap (λ v. cond (is_at (nat_cmp c.args.number) q) (Some v) (lookup (is_at (nat_cmp q)) c.args.nodes.now.entries)) c.set_size.ensures)

pub returns-in-None : goal.returns-in-None
returns-in-None c = nodes_absent c.args.nodes.now.entries _ c.args.number _ (sym c.in-None.ensures.value) (ap (λ m. m.entries) c.get_mut.follows.holds-at-none)
