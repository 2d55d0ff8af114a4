-- What a sane tree promises of an entry that is to be taken out.
use Rattle.std.proofs.Common.{◌≡◌, ℕ, zero, suc, ◌+◌, ◌<◌, ◌≤◌, Bool, true, false, eqb, List, Option, None, Some, IfSome, IsTrue, refl, ap, sym, ◌∙◌, subst, arith, inl, inr, ◌⊎◌}
use Rattle.std.proofs.lemmas.Bool.{cases_eq, cond-false, eq-eqb}
use Rattle.std.specs.FinMap.{get}
use Rattle.nr_tree.specs.Entries.{Entry, entry_of_name}
use Rattle.nr_tree.specs.DirectoryGraph.{DirectoryGraph, sum_below, name_count, name_count_in, one_if, IsConsistent}
use Rattle.nr_tree.specs.Tree.{Tree, value_at, is_dir}
use Rattle.nr_tree.specs.Sane.{IsSane, skeleton}
use Rattle.nr_tree.specs.Changes.{entry_at}
use Rattle.nr_tree.specs.declared.node.Node.{Node}
use Rattle.nr_tree.proofs.Lists.{Each_found, count_list_without}
use Rattle.nr_tree.proofs.SkeletonChanges.{value_at_at}
use Rattle.nr_tree.proofs.Paths.{differ, dir_below}
use Rattle.nr_tree.proofs.EntryRemoved.{has_entries}
use Rattle.nr_tree.proofs.Contents.{directory_at, node_at, Named}
use Rattle.nr_tree.proofs.Renames.{two_links}

part_of_sum : (n d : ℕ) (f : ℕ → ℕ) → d < n → f d ≤ sum_below n f
part_of_sum zero d f lt = absurd (omega arith)
part_of_sum (suc n) d f lt = by (cases_eq d n) (λ less. part_of_sum n d f less) where
  by : (d ≡ n) ⊎ (d ≡ n → ⊥) → (d < n → f d ≤ sum_below n f) → f d ≤ sum_below n f + f n
  by (inl e) k = rw (e) (omega arith)
  by (inr ne) k = omega (arith, k (omega (arith, ne, lt)))

-- a file that an entry names has a link
pub file_linked : (s : DirectoryGraph) (d : ℕ) (name : List ℕ) (e : Entry) → IsConsistent s None → entry_of_name name (s.entries d) ≡ Some e → s.dir e.number ≡ false → 0 < s.links e.number
file_linked s d name e sound found file =
    let live : s.live e.number ≡ true = Each_found (λ x. s.live x.number ≡ true) name (s.entries d) e found (sound.names_live d) in
    let links : s.links e.number ≡ name_count s e.number + 0 = sound.links e.number live ∙ cond-false (s.dir e.number) _ _ file in
    let here : name_count_in (s.entries d) e.number ≤ name_count s e.number =
    part_of_sum s.next d (λ q. name_count_in (s.entries q) e.number) (dir_below s None d sound (has_entries s d name e sound found)) in
    omega (arith, links, here, count_list_without (λ x. eqb x.number e.number) name (s.entries d) e found, ap one_if (eq-eqb e.number e.number refl))

pub record IsRemovable (t : Tree) (d n : ℕ) : Type 0 where
  pub is : IfSome (get t.nodes d) (λ v. IsTrue (is_dir v) × (1 ≤ v.metadata.links))
  pub apart : n ≡ d → ⊥
  pub linked : IfSome (get t.nodes n) (λ v. 0 < v.metadata.links)

true_is : (b : Bool) → b ≡ true → IsTrue b
true_is b e = e

pub file_may_leave : (t : Tree) (d : ℕ) (name : List ℕ) (e : Entry) → IsSane t → entry_at t d name ≡ Some e → value_at is_dir false t.nodes e.number ≡ false → IsRemovable t d e.number
file_may_leave t d name e sane found file =
    let s : DirectoryGraph = skeleton t in
    let is : s.dir d ≡ true = has_entries s d name e sane.skeleton found in
    let v : (v : Node) × (get t.nodes d ≡ Some v) × (is_dir v ≡ true) = directory_at t.nodes d is in
    let live : s.live e.number ≡ true = Each_found (λ x. s.live x.number ≡ true) name (s.entries d) e found (sane.skeleton.names_live d) in
    let w : Named t.nodes e.number = node_at t.nodes e.number live in
    let two : 2 ≤ s.links d = two_links s d sane.skeleton is in
    let links : s.links d ≡ v.0.metadata.links = value_at_at (λ (node : Node). node.metadata.links) 0 t.nodes d v.0 v.1 in
    let some : 0 < s.links e.number = file_linked s d name e sane.skeleton found file in
    let same : s.links e.number ≡ w.0.metadata.links = value_at_at (λ (node : Node). node.metadata.links) 0 t.nodes e.number w.0 w.1 in
    record {
      is = subst (λ (o : Option Node). IfSome o (λ x. IsTrue (is_dir x) × (1 ≤ x.metadata.links))) (sym v.1) (true_is (is_dir v.0) v.2, omega (arith, two, links));
      apart = λ z. differ s.dir d e.number is file (sym z);
      linked = subst (λ (o : Option Node). IfSome o (λ x. 0 < x.metadata.links)) (sym w.1) (omega (arith, some, same));
    }
