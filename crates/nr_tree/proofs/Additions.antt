-- Each change of a tree keeps it sane.
use Rattle.std.proofs.Common.{◌≡◌, ℕ, ◌+◌, ◌<◌, Bool, true, false, List, [], ◌∷◌, ◌++◌, None, Some, refl, ap, sym, ◌∙◌, subst, arith}
use Rattle.std.specs.Ordering.{nat_cmp}
use Rattle.std.specs.FinMap.{FinMap, get, insert}
use Rattle.nr_nfs_base.specs.declared.time.Time.{Time}
use Rattle.nr_tree.specs.Entries.{Entry, entry_of_name}
use Rattle.nr_tree.specs.DirectoryGraph.{DirectoryGraph, set, one_if, node_added, link_added, entry_added, IsConsistent, LiesBelow, links_max}
use Rattle.nr_tree.specs.Tree.{Tree, nodes_with_change, is_dir, entries_in}
use Rattle.nr_tree.specs.Sane.{IsSane, skeleton_of, skeleton}
use Rattle.nr_tree.specs.Changes.{node_with_entry, node_with_link, tree_with_node, tree_with_link}
use Rattle.nr_tree.specs.Steps.{IsFree, IsNew}
use Rattle.nr_tree.specs.declared.node.Node.{Node}
use Rattle.nr_tree.proofs.Lists.{set_here_lem, set_other, set_same}
use Rattle.nr_tree.proofs.SkeletonChanges.{skeleton_of_node_with_entry, skeleton_of_node_with_link, skeleton_of_new, new_entry, value_at_at}
use Rattle.nr_tree.proofs.Paths.{differ, none_below}
use Rattle.nr_tree.proofs.EntryAdded.{sound_entry_added}
use Rattle.nr_tree.proofs.NodeAdded.{sound_node_added, not_dir}
use Rattle.nr_tree.proofs.LinkDropped.{sound_link_added}
use Rattle.nr_tree.proofs.Files.{parent_free}
use Rattle.nr_tree.proofs.Contents.{Fit, fit_insert, fit_with_change, fit_node_with_entry, directory_at, node_at, Named}

abbrev Nodes : Type 0
Nodes = FinMap nat_cmp Node

-- ===== an entry for the detached node

module _ (next : ℕ) (nodes : Nodes) (h d : ℕ) (now : Time) (name : List ℕ) (b : Bool) (sound : IsConsistent (skeleton_of next nodes) (Some h)) (fit : Fit nodes) where
  abbrev s : DirectoryGraph
  s = skeleton_of next nodes

  abbrev after : Nodes
  after = nodes_with_change nodes d (node_with_entry now name h b)

  -- but for the parent of the detached node, which a change of its own may set
  pub add_entry_to : s.dir d ≡ true → b ≡ s.dir h → (b ≡ true → s.links d < links_max) → (b ≡ true → LiesBelow s (Some h) d h → ⊥)
      → IsConsistent (record (skeleton_of next after) { parent = set h d (skeleton_of next after).parent }) None
  add_entry_to is kind room apart =
      let v : (v : Node) × (get nodes d ≡ Some v) × (is_dir v ≡ true) = directory_at nodes d is in
      let e : Entry = new_entry v.0 name h in
      let put : IsConsistent (entry_added s d e) None = sound_entry_added s d e sound is (λ t. room (kind ∙ t)) (λ t. apart (kind ∙ t)) in
      let path : record (skeleton_of next after) { parent = set h d (skeleton_of next after).parent } ≡ entry_added s d e =
      ap (λ (k : DirectoryGraph). record k { parent = set h d k.parent }) (skeleton_of_node_with_entry next nodes d v.0 now name h b v.1 v.2)
      ∙ ap (λ (c : Bool). record s { entries = set d (s.entries d ++ e ∷ []) s.entries; parent = set h d s.parent; links = set d (s.links d + one_if c) s.links }) kind in
      subst (λ (k : DirectoryGraph). IsConsistent k None) (sym path) put

  pub add_entry_to_fit : s.dir d ≡ true → IsFree s d name → Fit after
  add_entry_to_fit is free =
      let v : (v : Node) × (get nodes d ≡ Some v) × (is_dir v ≡ true) = directory_at nodes d is in
      let none : entry_of_name name (entries_in v.0) ≡ None = ap (entry_of_name name) (sym (value_at_at entries_in [] nodes d v.0 v.1)) ∙ free.free in
      fit_with_change nodes d v.0 (node_with_entry now name h b) v.1 fit (λ f. fit_node_with_entry now name h b v.0 v.0.content refl f none free.not_empty free.not_too_long)

  pub add_entry_to_live : s.dir d ≡ true → (skeleton_of next after).live ≡ s.live
  add_entry_to_live is =
      let v : (v : Node) × (get nodes d ≡ Some v) × (is_dir v ≡ true) = directory_at nodes d is in
      ap (λ (k : DirectoryGraph). k.live) (skeleton_of_node_with_entry next nodes d v.0 now name h b v.1 v.2)

  pub add_entry_to_parent : s.dir d ≡ true → s.parent h ≡ d → set h d (skeleton_of next after).parent ≡ (skeleton_of next after).parent
  add_entry_to_parent is at =
      let v : (v : Node) × (get nodes d ≡ Some v) × (is_dir v ≡ true) = directory_at nodes d is in
      set_same h d (skeleton_of next after).parent (ap (λ (k : DirectoryGraph). k.parent h) (skeleton_of_node_with_entry next nodes d v.0 now name h b v.1 v.2) ∙ at)

-- ===== CREATE, MKDIR, SYMLINK, MKNOD

pub sane_tree_with_node : (t : Tree) (now : Time) (d : ℕ) (name : List ℕ) (node : Node) → IsSane t → (skeleton t).dir d ≡ true → IsFree (skeleton t) d name → IsNew node d
    → (is_dir node ≡ true → (skeleton t).links d < links_max) → IsSane (tree_with_node t now d name node)
sane_tree_with_node t now d name node sane is free new room =
    let s : DirectoryGraph = skeleton t in
    let nodes : Nodes = insert t.nodes t.next node in
    let S : DirectoryGraph = skeleton_of (t.next + 1) nodes in
    let way : S ≡ node_added s (is_dir node) node.parent = skeleton_of_new t.next t.nodes node new.empty new.links in
    let sound : IsConsistent S (Some t.next) = subst (λ (k : DirectoryGraph). IsConsistent k (Some t.next)) (sym way) (sound_node_added s (is_dir node) node.parent sane.skeleton) in
    let fit : Fit nodes = fit_insert t.nodes t.next node sane.contents new.fit in
    let ne : d ≡ t.next → ⊥ = differ s.dir d t.next is (not_dir s (is_dir node) node.parent sane.skeleton) in
    let dir : S.dir d ≡ true = ap (λ (k : DirectoryGraph). k.dir d) way ∙ set_other t.next (is_dir node) s.dir d ne ∙ is in
    let kind : is_dir node ≡ S.dir t.next = sym (ap (λ (k : DirectoryGraph). k.dir t.next) way ∙ set_here_lem t.next (is_dir node) s.dir) in
    let links : S.links d ≡ s.links d = ap (λ (k : DirectoryGraph). k.links d) way ∙ set_other t.next (1 + one_if (is_dir node)) s.links d ne in
    let parent : S.parent t.next ≡ d = ap (λ (k : DirectoryGraph). k.parent t.next) way ∙ set_here_lem t.next node.parent s.parent ∙ new.parent in
    let bare : S.entries t.next ≡ [] = ap (λ (k : DirectoryGraph). k.entries t.next) way ∙ set_here_lem t.next [] s.entries in
    let same : S.entries d ≡ s.entries d = ap (λ (k : DirectoryGraph). k.entries d) way ∙ set_other t.next [] s.entries d ne in
    let ok : IsFree S d name = record { free = ap (entry_of_name name) same ∙ free.free; not_empty = free.not_empty; not_too_long = free.not_too_long } in
    let put : IsConsistent (record (skeleton_of (t.next + 1) (tree_with_node t now d name node).nodes) { parent = set t.next d (skeleton_of (t.next + 1) (tree_with_node t now d name node).nodes).parent }) None =
    add_entry_to (t.next + 1) nodes t.next d now name (is_dir node) sound fit dir kind (λ b. let less : s.links d < links_max = room b in omega (arith, links, less)) (λ b below. none_below S t.next d sound bare ne below) in
    record {
      contents = add_entry_to_fit (t.next + 1) nodes t.next d now name (is_dir node) sound fit dir ok;
      skeleton = subst (λ (f : ℕ → ℕ). IsConsistent (record (skeleton_of (t.next + 1) (tree_with_node t now d name node).nodes) { parent = f }) None)
          (add_entry_to_parent (t.next + 1) nodes t.next d now name (is_dir node) sound fit dir parent) put;
    }

-- ===== LINK

pub sane_tree_with_link : (t : Tree) (now : Time) (d : ℕ) (name : List ℕ) (h : ℕ) → IsSane t → (skeleton t).dir d ≡ true → IsFree (skeleton t) d name
    → (skeleton t).live h ≡ true → (skeleton t).dir h ≡ false → (skeleton t).links h < links_max → IsSane (tree_with_link t now d name h)
sane_tree_with_link t now d name h sane is free live file room =
    let s : DirectoryGraph = skeleton t in
    let w : Named t.nodes h = node_at t.nodes h live in
    let nodes : Nodes = nodes_with_change t.nodes h (node_with_link now d) in
    let S : DirectoryGraph = skeleton_of t.next nodes in
    let way : S ≡ record (link_added s h) { parent = set h d s.parent } = skeleton_of_node_with_link t.next t.nodes h w.0 now d w.1 in
    let fit : Fit nodes = fit_with_change t.nodes h w.0 (node_with_link now d) w.1 sane.contents (λ f. f) in
    let lifted : IsConsistent (record (link_added s h) { parent = set h d s.parent }) (Some h) = parent_free (link_added s h) (Some h) h d (sound_link_added s h sane.skeleton live file room) file in
    let sound : IsConsistent S (Some h) = subst (λ (k : DirectoryGraph). IsConsistent k (Some h)) (sym way) lifted in
    let dir : S.dir d ≡ true = ap (λ (k : DirectoryGraph). k.dir d) way ∙ is in
    let kind : false ≡ S.dir h = sym (ap (λ (k : DirectoryGraph). k.dir h) way ∙ file) in
    let parent : S.parent h ≡ d = ap (λ (k : DirectoryGraph). k.parent h) way ∙ set_here_lem h d s.parent in
    let ok : IsFree S d name = record { free = ap (λ (k : DirectoryGraph). entry_of_name name (k.entries d)) way ∙ free.free; not_empty = free.not_empty; not_too_long = free.not_too_long } in
    let put : IsConsistent (record (skeleton_of t.next (tree_with_link t now d name h).nodes) { parent = set h d (skeleton_of t.next (tree_with_link t now d name h).nodes).parent }) None =
    add_entry_to t.next nodes h d now name false sound fit dir kind (λ b. absurd cc) (λ b. absurd cc) in
    record {
      contents = add_entry_to_fit t.next nodes h d now name false sound fit dir ok;
      skeleton = subst (λ (f : ℕ → ℕ). IsConsistent (record (skeleton_of t.next (tree_with_link t now d name h).nodes) { parent = f }) None)
          (add_entry_to_parent t.next nodes h d now name false sound fit dir parent) put;
    }
