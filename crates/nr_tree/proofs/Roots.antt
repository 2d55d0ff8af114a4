-- A root alone is a sane tree.
use Rattle.std.proofs.Common.{◌≡◌, ℕ, ◌≤◌, true, false, [], Option, None, Some, refl, ap, sym, ◌∙◌, subst, arith, inl, inr, ◌⊎◌}
use Rattle.std.proofs.lemmas.Bool.{cases_eq, both_ways}
use Rattle.std.specs.Option.{option_map_or}
use Rattle.std.specs.Ordering.{nat_cmp}
use Rattle.std.specs.FinMap.{FinMap, empty, get-empty}
use Rattle.nr_nfs_base.specs.declared.time.Time.{Time}
use Rattle.nr_tree.specs.DirectoryGraph.{DirectoryGraph, set, expected_links, IsConsistent, links_max}
use Rattle.nr_tree.specs.Tree.{value_at, is_dir, entries_in}
use Rattle.nr_tree.specs.Sane.{IsSane, skeleton}
use Rattle.nr_tree.specs.Roots.{root_node, root_only}
use Rattle.nr_tree.specs.declared.node.Node.{Node}
use Rattle.nr_tree.proofs.Lists.{set_other, set_same}
use Rattle.nr_tree.proofs.SkeletonChanges.{value_at_insert}
use Rattle.nr_tree.proofs.Contents.{Fit, fit_insert}

abbrev Nodes : Type 0
Nodes = FinMap nat_cmp Node

value_at_empty : {A : Type 0} (f : Node → A) (z : A) → value_at f z empty ≡ (λ q. z)
value_at_empty f z = λ i q. ap (λ (o : Option Node). option_map_or f o z) (get-empty nat_cmp q) i

value_at_root : {A : Type 0} (f : Node → A) (z : A) (now : Time) → value_at f z (root_only now).nodes ≡ set 1 (f (root_node now)) (λ q. z)
value_at_root {A = A} f z now = value_at_insert f z empty 1 (root_node now) ∙ ap (λ (g : ℕ → A). set 1 (f (root_node now)) g) (value_at_empty f z)

abbrev lone : DirectoryGraph
lone = record {
  next = 2;
  live = set 1 true (λ q. false);
  dir = set 1 true (λ q. false);
  entries = λ q. [];
  parent = set 1 1 (λ q. 0);
  links = set 1 2 (λ q. 0);
}

is_lone : (now : Time) → skeleton (root_only now) ≡ lone
is_lone now = λ i. record {
  next = 2;
  live = value_at_root (λ node. true) false now i;
  dir = value_at_root is_dir false now i;
  entries = (value_at_root entries_in [] now ∙ set_same 1 [] (λ q. []) refl) i;
  parent = value_at_root (λ node. node.parent) 0 now i;
  links = value_at_root (λ node. node.metadata.links) 0 now i;
}

only : (n : ℕ) → set 1 true (λ q. false) n ≡ true → n ≡ 1
only n t = by (cases_eq n 1) where
  by : (n ≡ 1) ⊎ (n ≡ 1 → ⊥) → n ≡ 1
  by (inl e) = e
  by (inr ne) = absurd (both_ways (set 1 true (λ q. false) n) (set_other 1 true (λ q. false) n ne) t)

links_lone : (n : ℕ) → n ≡ 1 → lone.links n ≡ expected_links lone None n
links_lone n e = subst (λ (k : ℕ). lone.links k ≡ expected_links lone None k) (sym e) refl

sound_lone : IsConsistent lone None
sound_lone = record {
  root = refl;
  root_parent = refl;
  root_unnamed = refl;
  numbers = λ n t. (let e : n ≡ 1 = only n t in omega (arith, e), let e : n ≡ 1 = only n t in omega (arith, e));
  dirs_live = λ n t. t;
  dirs_alone = λ n f. refl;
  detached_live = λ h same. absurd cc;
  names_live = λ d. tt;
  parents = λ d. tt;
  once = λ n t ne. absurd (ne (only n t));
  below = λ n t. inl ([], only n t);
  links = λ n t. links_lone n (only n t);
  links_limit = λ n t. subst (λ (k : ℕ). lone.links k ≤ links_max) (sym (only n t)) (omega arith);
}

none_fit : Fit empty
none_fit n node e = let q : None ≡ Some node = sym (get-empty nat_cmp n) ∙ e in absurd cc

pub sane_root_only : (now : Time) → IsSane (root_only now)
sane_root_only now = record {
  contents = fit_insert empty 1 (root_node now) none_fit (omega arith, tt);
  skeleton = subst (λ (k : DirectoryGraph). IsConsistent k None) (sym (is_lone now)) sound_lone;
}
