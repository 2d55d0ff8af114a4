-- The tree of a drill is sane: it is the one that is made of a root alone by adding its nodes.
use Rattle.std.specs.Prelude.{◌≡◌, ℕ, zero, suc, ◌<◌, ◌≤◌, []}
use Rattle.std.specs.Cmp.{nat_cmp_total}
use Rattle.std.specs.FinMap.{get, same_map, nat_cmp-IsAntisymmetric}
use Rattle.std.proofs.Common.{refl, sym, subst, ◌∙◌, ◌⊎◌, inl, inr, arith}
use Rattle.std.proofs.lemmas.Bool.{cases_lt}
use Rattle.nr_tree.specs.Tree.{Tree}
use Rattle.nr_tree.specs.Sane.{IsSane}
use Rattle.nr_tree.specs.Changes.{tree_with_node}
use Rattle.nr_tree.specs.Drill.{time_zero, mode_666, drill_node, hello, link, many, file_name, hello_node, link_node, many_node, with_root, with_hello, with_link, with_many, IsDrillWith, IsDrill}
use Rattle.nr_tree.specs.declared.node.Node.{Node}
use Rattle.nr_tree.specs.declared.node.Content.TheVariants.{Regular}
use Rattle.nr_tree.proofs.Roots.{sane_root_only}
use Rattle.nr_tree.proofs.StepLemmas.{sane_add_node}
use Rattle.nr_tree.proofs.DrillLemmas.{can_add_hello, can_add_link, can_add_many, can_add_file, drill_begins, drill_more}

-- ===== one that is sane, for each number of files

record SaneDrill (count : ℕ) : Type 0 where
  tree : Tree
  is : IsDrillWith count tree
  sane : IsSane tree

file_node : Node
file_node = drill_node mode_666 1 4 (Regular [])

with_files : (count : ℕ) → SaneDrill count
unfolding file_node
with_files zero =
    let one = sane_add_node with_root time_zero 1 hello hello_node (sane_root_only time_zero) can_add_hello in
    let two = sane_add_node with_hello time_zero 1 link link_node one can_add_link in
    record { tree = with_many; is = drill_begins; sane = sane_add_node with_link time_zero 1 many (many_node 0) two can_add_many }
with_files (suc i) =
    let d = with_files i in
    record {
      tree = tree_with_node d.tree time_zero 4 (file_name i) file_node;
      is = drill_more i d.tree d.is;
      sane = sane_add_node d.tree time_zero 4 (file_name i) file_node d.sane (can_add_file i d.tree d.is);
    }

-- ===== no two differ

module _ (count : ℕ) (t u : Tree) (one : IsDrillWith count t) (two : IsDrillWith count u) where
  same_node : (n : ℕ) → get t.nodes n ≡ get u.nodes n
  same_node zero = one.nothing_else 0 (inl refl) ∙ sym (two.nothing_else 0 (inl refl))
  same_node (suc zero) = one.root ∙ sym two.root
  same_node (suc (suc zero)) = one.hello_file ∙ sym two.hello_file
  same_node (suc (suc (suc zero))) = one.link_node ∙ sym two.link_node
  same_node (suc (suc (suc (suc zero)))) = one.many_directory ∙ sym two.many_directory
  same_node (suc (suc (suc (suc (suc n))))) = by (cases_lt n count)
    where
      all : ℕ
      all = suc (suc (suc (suc (suc n))))

      by : (n < count) ⊎ (count ≤ n) → get t.nodes all ≡ get u.nodes all
      by (inl lt) = one.files all (omega arith) (omega (arith, lt)) ∙ sym (two.files all (omega arith) (omega (arith, lt)))
      by (inr le) = one.nothing_else all (inr (omega (arith, le))) ∙ sym (two.nothing_else all (inr (omega (arith, le))))

  same_tree : t ≡ u
  same_tree =
      let next : t.next ≡ u.next = one.next ∙ sym two.next in
      let nodes : t.nodes ≡ u.nodes = same_map nat_cmp_total nat_cmp-IsAntisymmetric t.nodes u.nodes same_node in
      (λ i. record { next = next i; nodes = nodes i })

pub drill_sane : (t : Tree) → IsDrill t → IsSane t
drill_sane t is = let d = with_files 100 in subst IsSane (sym (same_tree 100 t d.tree is d.is)) d.sane
