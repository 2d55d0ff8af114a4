-- The code of a tree, by which proofs distinguish it from another.
use Rattle.std.specs.Prelude.{ℕ, refl}
use Rattle.std.specs.Coded.{Coded, code_by, coded×, coded_ℕ}
use Rattle.std.specs.Ordering.{nat_cmp}
use Rattle.std.specs.FinMap as map
use Rattle.nr_tree.specs.Tree.{Tree}
use Rattle.nr_tree.specs.declared.node.Node.{Node}
use Rattle.nr_tree.specs.contracts.node.Node as node

abbrev pub tree_code : Coded Tree
tree_code =
    code_by (ℕ × map.FinMap nat_cmp Node) (coded× coded_ℕ (map.code coded_ℕ node.the_row.coded)) (λ m. (m.next, m.nodes))
    (λ p. record { next = p.0; nodes = p.1 }) (λ _. refl)
