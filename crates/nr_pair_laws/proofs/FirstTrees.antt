-- The tree with a root alone is sane and holds bytes.
use Rattle.std.proofs.Common.{◌≡◌, Bool, true, false, cond, Option, None, Some, sym, subst, ◌∙◌}
use Rattle.std.specs.Cmp.{nat_cmp_total}
use Rattle.std.specs.FinMap.{empty, get, get-empty, get-insert}
use Rattle.std.specs.Ordering.{eq_by_cmp, nat_cmp}
use Rattle.nr_nfs_base.specs.declared.time.Time.{Time}
use Rattle.nr_tree.specs.Roots.{root_node, root_only}
use Rattle.nr_tree.specs.declared.node.Node.{Node}
use Rattle.nr_tree.proofs.Roots.{sane_root_only}
use Rattle.nr_byte_laws.specs.InBytes.{HoldsBytes, IsInBytes}
use Rattle.nr_pair_laws.specs.FirstTrees.{RootsAreSane}

insert_at : (b : Bool) (w node : Node) (o : Option Node) → cond b (Some w) o ≡ Some node → HoldsBytes w.content → (o ≡ Some node → HoldsBytes node.content) → HoldsBytes node.content
insert_at true w node o e own k = let same : w ≡ node = cc in subst (λ (x : Node). HoldsBytes x.content) same own
insert_at false w node o e own k = k e

root_in_bytes : (now : Time) → IsInBytes (root_only now)
root_in_bytes now n node e =
    insert_at (eq_by_cmp nat_cmp n 1) (root_node now) node (get empty n) (sym (get-insert nat_cmp_total empty 1 (root_node now) n) ∙ e) tt
    (λ none. let wrong : None ≡ Some node = sym (get-empty nat_cmp n) ∙ none in absurd cc)

pub roots_are_sane_lem : RootsAreSane
roots_are_sane_lem now = (sane_root_only now, root_in_bytes now)
