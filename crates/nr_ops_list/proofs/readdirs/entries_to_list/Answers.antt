use Rattle.std.proofs.Common.{◌≡◌, Option, Some, subst, sym}
use Rattle.nr_nfs_base.specs.declared.status.Status.TheVariants.{Toosmall}
use Rattle.nr_tree.specs.Rules.{first}
use Rattle.nr_ops_list.specs.declared.listings.Limits.{Limits}
use Rattle.nr_ops_list.specs.private.Sizes.{are_within, rules_by}
use Rattle.nr_ops_list.proofs.Rooms.{Answered, answers_within, refused_without_limits}
use Rattle.nr_ops_list.proofs.Live.{entries_live}
use Rattle.nr_ops_list.proofs.readdirs.entries_to_list.Goals as goal

pub range_within-requires : goal.range_within-requires
range_within-requires c =
    entries_live c.args.tree.now c.args.request.now.dir.now c.in_ok-node.node.now c.in_ok-dir.dir.now c.facts.ensures c.in_ok-node.ensures.1 c.in_ok-dir.ensures.1

pub returns-in-Some : goal.returns-in-Some
returns-in-Some c =
    subst (λ (o : Option Limits). Answered c.args.tree.now c.args.caller.now c.args.request.now.dir.now c.args.request.now.cookie c.args.request.now.verifier (are_within c.args.tree.now o) c.range_within.result) (sym c.in-Some.is)
    (answers_within c.args.tree.now c.args.caller.now c.args.request.now.dir.now c.args.request.now.cookie c.args.request.now.verifier c.in_ok-node.node.now c.in_ok-node.ensures.0 c.in_ok-node.ensures.1 c.in_ok-dir.ensures.0
    c.in_ok-dir.dir.now c.facts.ensures c.in_ok-dir.ensures.1 c.in-Some.limits c.range_within.result c.range_within.ensures)

pub returns-in-None : goal.returns-in-None
returns-in-None c =
    subst (λ (o : Option Limits). first (rules_by c.args.tree.now c.args.caller.now c.args.request.now.dir.now c.args.request.now.cookie c.args.request.now.verifier (are_within c.args.tree.now o)) ≡ Some Toosmall) (sym c.in-None.is)
    (refused_without_limits c.args.tree.now c.args.caller.now c.args.request.now.dir.now c.args.request.now.cookie c.args.request.now.verifier c.in_ok-node.node.now c.in_ok-node.ensures.0 c.in_ok-node.ensures.1 c.in_ok-dir.ensures.0)
