-- REMOVE, RMDIR and the old target of RENAME keep a tree sane.
use Rattle.std.proofs.Common.{◌≡◌, ℕ, ◌+◌, ◌-◌, ◌≤◌, Bool, true, false, cond, leb, ◌||◌, List, [], None, Some, refl, ap, sym, ◌∙◌, subst, arith, inl, inr, ◌⊎◌}
use Rattle.std.proofs.lemmas.Bool.{cases_Bool, both_ways, cond-false, leb-true, or_cases, or_parts}
use Rattle.std.specs.Option.{option_map_or}
use Rattle.std.specs.Ordering.{nat_cmp}
use Rattle.std.specs.FinMap.{FinMap, get, insert, remove}
use Rattle.nr_nfs_base.specs.declared.time.Time.{Time}
use Rattle.nr_tree.specs.Entries.{Entry, list_without}
use Rattle.nr_tree.specs.DirectoryGraph.{DirectoryGraph, entry_removed, IsConsistent, name_count, detached_count}
use Rattle.nr_tree.specs.Tree.{Tree, value_at, nodes_with_change, is_dir}
use Rattle.nr_tree.specs.Sane.{IsSane, skeleton_of, skeleton}
use Rattle.nr_tree.specs.Changes.{node_without_entry, node_without_link, tree_without_entry, nodes_with_name_dropped, entry_at}
use Rattle.nr_tree.specs.declared.node.Node.{Node}
use Rattle.nr_tree.proofs.Lists.{set_here_lem, set_other, set_all}
use Rattle.nr_tree.proofs.SkeletonChanges.{skeleton_of_node_without_entry, skeleton_of_node_without_link, skeleton_of_remove, value_at_at}
use Rattle.nr_tree.proofs.Paths.{detached_unnamed, detached_count_self}
use Rattle.nr_tree.proofs.EntryRemoved.{sound_entry_removed, has_entries}
use Rattle.nr_tree.proofs.LinkDropped.{sound_link_dropped, sound_node_removed}
use Rattle.nr_tree.proofs.Contents.{Fit, fit_insert, fit_remove, fit_with_change, fit_node_without_entry, directory_at, node_at, Named}

abbrev Nodes : Type 0
Nodes = FinMap nat_cmp Node

-- what the detached node leaves: another number is seen as before
pub record IsLeft (s : DirectoryGraph) (h : ℕ) (t : DirectoryGraph) : Type 0 where
  pub sound : IsConsistent t None
  pub other : (q : ℕ) → (q ≡ h → ⊥) → (t.live q ≡ s.live q) × (t.dir q ≡ s.dir q) × (t.entries q ≡ s.entries q) × (t.parent q ≡ s.parent q) × (t.links q ≡ s.links q)
  pub no_dir : t.dir h ≡ false

module _ (next : ℕ) (nodes : Nodes) (h : ℕ) (now : Time) (sound : IsConsistent (skeleton_of next nodes) (Some h)) (fit : Fit nodes)
    (bare : (skeleton_of next nodes).dir h ≡ true → (skeleton_of next nodes).entries h ≡ []) where
  abbrev s : DirectoryGraph
  s = skeleton_of next nodes

  abbrev rest : Nodes
  rest = nodes_with_name_dropped nodes now h

  no_entries : (s.dir h ≡ true) ⊎ (s.dir h ≡ false) → s.entries h ≡ []
  no_entries (inl t) = bare t
  no_entries (inr f) = sound.dirs_alone h f

  file_links : s.dir h ≡ false → s.links h ≡ name_count s h + 1
  file_links f =
      let sums : name_count s h + detached_count (Some h) h ≡ name_count s h + 1 = omega (arith, detached_count_self h) in
      sound.links h (sound.detached_live h refl) ∙ cond-false (s.dir h) _ _ f ∙ sums

  alone_by : (s.dir h ≡ true) ⊎ (s.dir h ≡ false) → (s.dir h ≡ true) ⊎ (s.links h ≤ 1) → name_count s h ≡ 0
  alone_by (inl t) last = detached_unnamed s h sound t
  alone_by (inr f) (inl t) = absurd (both_ways (s.dir h) f t)
  alone_by (inr f) (inr few) = omega (arith, few, file_links f)

  removed_is : name_count s h ≡ 0 → IsLeft s h (skeleton_of next (remove nodes h))
  removed_is alone =
      subst (λ (k : DirectoryGraph). IsLeft s h k) (sym (skeleton_of_remove next nodes h)) (record {
        sound = sound_node_removed s h sound alone (no_entries (cases_Bool (s.dir h)));
        other = λ q ne. (set_other h false s.live q ne, set_other h false s.dir q ne, set_other h [] s.entries q ne, set_other h 0 s.parent q ne, set_other h 0 s.links q ne);
        no_dir = set_here_lem h false s.dir;
      })

  kept_is : (w : Node) → get nodes h ≡ Some w → s.dir h ≡ false → IsLeft s h (skeleton_of next (insert nodes h (node_without_link now w)))
  kept_is w e f =
      subst (λ (k : DirectoryGraph). IsLeft s h k) (sym (skeleton_of_node_without_link next nodes h w now e)) (record {
        sound = sound_link_dropped s h sound f;
        other = λ q ne. (refl, refl, refl, refl, set_other h (s.links h - 1) s.links q ne);
        no_dir = f;
      })

  last_by : (w : Node) → get nodes h ≡ Some w → (is_dir w ≡ true) ⊎ (leb w.metadata.links 1 ≡ true) → (s.dir h ≡ true) ⊎ (s.links h ≤ 1)
  last_by w e (inl t) = inl (value_at_at is_dir false nodes h w e ∙ t)
  last_by w e (inr few) = let at : s.links h ≡ w.metadata.links = value_at_at (λ node. node.metadata.links) 0 nodes h w e in inr (omega (arith, at, leb-true w.metadata.links 1 few))

  leave_by : (w : Node) (b : Bool) → get nodes h ≡ Some w → (is_dir w || leb w.metadata.links 1) ≡ b
      → (IsLeft s h (skeleton_of next (cond b (remove nodes h) (insert nodes h (node_without_link now w))))) × Fit (cond b (remove nodes h) (insert nodes h (node_without_link now w)))
  leave_by w true e test =
      (removed_is (alone_by (cases_Bool (s.dir h)) (last_by w e (or_cases (is_dir w) (leb w.metadata.links 1) test))), fit_remove nodes h fit)
  leave_by w false e test =
      let f : s.dir h ≡ false = value_at_at is_dir false nodes h w e ∙ (or_parts (is_dir w) (leb w.metadata.links 1) test).0 in
      (kept_is w e f, fit_insert nodes h (node_without_link now w) fit (fit h w e))

  pub remove_entry_from : IsLeft s h (skeleton_of next rest) × Fit rest
  remove_entry_from =
      let w : Named nodes h = node_at nodes h (sound.detached_live h refl) in
      let way : rest ≡ cond (is_dir w.0 || leb w.0.metadata.links 1) (remove nodes h) (insert nodes h (node_without_link now w.0)) =
      ap (λ o. option_map_or (λ node. cond (is_dir node || leb node.metadata.links 1) (remove nodes h) (insert nodes h (node_without_link now node))) o nodes) w.1 in
      subst (λ (m : Nodes). IsLeft s h (skeleton_of next m) × Fit m) (sym way) (leave_by w.0 (is_dir w.0 || leb w.0.metadata.links 1) w.1 refl)

-- ===== the entry is taken out, and its node left

pub record IsRemoval (t : Tree) (d : ℕ) (name : List ℕ) (e : Entry) (u : Tree) : Type 0 where
  pub sane : IsSane u
  pub left : IsLeft (entry_removed (skeleton t) d name e.number) e.number (skeleton u)

pub removal : (t : Tree) (now : Time) (d : ℕ) (name : List ℕ) (e : Entry) → IsSane t → entry_at t d name ≡ Some e
    → ((skeleton t).dir e.number ≡ true → (skeleton t).entries e.number ≡ []) → IsRemoval t d name e (tree_without_entry t now d name e.number)
removal t now d name e sane found bare =
    let s : DirectoryGraph = skeleton t in
    let is : s.dir d ≡ true = has_entries s d name e sane.skeleton found in
    let v : (v : Node) × (get t.nodes d ≡ Some v) × (is_dir v ≡ true) = directory_at t.nodes d is in
    let b : Bool = value_at is_dir false t.nodes e.number in
    let nodes : Nodes = nodes_with_change t.nodes d (node_without_entry now name b) in
    let way : skeleton_of t.next nodes ≡ entry_removed s d name e.number = skeleton_of_node_without_entry t.next t.nodes d v.0 now name e.number b v.1 v.2 refl in
    let sound : IsConsistent (skeleton_of t.next nodes) (Some e.number) = subst (λ (k : DirectoryGraph). IsConsistent k (Some e.number)) (sym way) (sound_entry_removed s d name e sane.skeleton found) in
    let fit : Fit nodes = fit_with_change t.nodes d v.0 (node_without_entry now name b) v.1 sane.contents (λ f. fit_node_without_entry now name b v.0 v.0.content refl f) in
    let empty : (skeleton_of t.next nodes).dir e.number ≡ true → (skeleton_of t.next nodes).entries e.number ≡ [] = λ dir.
    (let none : s.entries e.number ≡ [] = bare (sym (ap (λ (k : DirectoryGraph). k.dir e.number) way) ∙ dir) in
    ap (λ (k : DirectoryGraph). k.entries e.number) way
    ∙ set_all (λ es. es ≡ []) d (list_without name (s.entries d)) s.entries e.number (λ z. ap (list_without name) (ap s.entries (sym z) ∙ none)) (λ ne. none)) in
    let out : IsLeft (skeleton_of t.next nodes) e.number (skeleton_of t.next (nodes_with_name_dropped nodes now e.number)) × Fit (nodes_with_name_dropped nodes now e.number) = remove_entry_from t.next nodes e.number now sound fit empty in
    record {
      sane = record { contents = out.1; skeleton = out.0.sound };
      left = subst (λ (k : DirectoryGraph). IsLeft k e.number (skeleton_of t.next (nodes_with_name_dropped nodes now e.number))) way out.0;
    }

pub sane_tree_without_entry : (t : Tree) (now : Time) (d : ℕ) (name : List ℕ) (e : Entry) → IsSane t → entry_at t d name ≡ Some e
    → ((skeleton t).dir e.number ≡ true → (skeleton t).entries e.number ≡ []) → IsSane (tree_without_entry t now d name e.number)
sane_tree_without_entry t now d name e sane found bare = (removal t now d name e sane found bare).sane
