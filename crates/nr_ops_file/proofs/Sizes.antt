-- A file with another size has the links that it had.
use Rattle.std.proofs.Common.{◌≡◌, ℕ, Option, None, Some, refl, ap, ◌∙◌}
use Rattle.std.specs.Option.{option_map_or}
use Rattle.std.specs.FinMap.{get, insert}
use Rattle.nr_nfs_base.specs.declared.time.Time.{Time}
use Rattle.nr_tree.specs.Changes.{node_with_size, tree_with_size}
use Rattle.nr_tree.specs.Steps.{links_at}
use Rattle.nr_tree.specs.Tree.{Tree, value_at}
use Rattle.nr_tree.specs.declared.node.Node.{Node}
use Rattle.nr_tree.proofs.SkeletonChanges.{with_change_at, value_at_metadata}

abbrev links_of : Node → ℕ
links_of node = node.metadata.links

links_by : (t : Tree) (now : Time) (n size : ℕ) (o : Option Node) → get t.nodes n ≡ o → links_at (tree_with_size t now n size) n ≡ links_at t n
links_by t now n size None e = ap (λ (o : Option Node). value_at links_of 0 (option_map_or (λ node. insert t.nodes n (node_with_size now size node)) o t.nodes) n) e
links_by t now n size (Some v) e =
    ap (λ m. value_at links_of 0 m n) (with_change_at t.nodes n v (node_with_size now size) e)
    ∙ ap (λ (f : ℕ → ℕ). f n) (value_at_metadata links_of 0 t.nodes n v (node_with_size now size v) e refl)

pub links_with_size : (t : Tree) (now : Time) (n size : ℕ) → links_at (tree_with_size t now n size) n ≡ links_at t n
links_with_size t now n size = links_by t now n size (get t.nodes n) refl
