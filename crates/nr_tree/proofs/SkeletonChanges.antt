-- What a change of one node does to the skeleton.
use Rattle.std.proofs.Common.{◌≡◌, ℕ, ◌+◌, ◌-◌, Bool, true, false, cond, eqb, List, [], ◌∷◌, ◌++◌, Option, None, Some, refl, ap, sym, ◌∙◌, arith}
use Rattle.std.specs.Option.{option_map_or}
use Rattle.std.specs.Ordering.{nat_cmp, eq_by_cmp}
use Rattle.std.specs.Cmp.{nat_cmp_total}
use Rattle.std.specs.FinMap.{FinMap, get, insert, remove, get-insert, get-remove}
use Rattle.std.proofs.lemmas.Bool.Decides.{nat_tests}
use Rattle.nr_nfs_base.specs.declared.time.Time.{Time}
use Rattle.nr_tree.specs.Entries.{Entry, Entries, list_without}
use Rattle.nr_tree.specs.DirectoryGraph.{DirectoryGraph, set, one_if, node_added, link_added, link_dropped, node_removed, entry_removed}
use Rattle.nr_tree.specs.Tree.{value_at, nodes_with_change, is_dir, is_directory, entries_in}
use Rattle.nr_tree.specs.Sane.{skeleton_of}
use Rattle.nr_tree.specs.Changes.{next_cookie_of, on_entries, node_with_entry, node_without_entry, node_with_link, node_without_link, node_with_new_name}
use Rattle.nr_tree.specs.declared.node.Node.{Node}
use Rattle.nr_tree.specs.declared.node.Content.{Content}
use Rattle.nr_tree.specs.declared.node.Content.TheVariants.{Regular, Directory, Block, Character, Link, Socket, Fifo}
use Rattle.nr_tree.proofs.Lists.{set_same}

abbrev Nodes : Type 0
Nodes = FinMap nat_cmp Node

same_test : (q k : ℕ) → eq_by_cmp nat_cmp q k ≡ eqb q k
same_test q k = grind (arith, nat_tests)

other_test : (q k : ℕ) → eq_by_cmp nat_cmp k q ≡ eqb q k
other_test q k = grind (arith, nat_tests)

seen_cond : {A : Type 0} (f : Node → A) (z : A) (b : Bool) (o p : Option Node) → option_map_or f (cond b o p) z ≡ cond b (option_map_or f o z) (option_map_or f p z)
seen_cond f z true o p = refl
seen_cond f z false o p = refl

pub value_at_insert : {A : Type 0} (f : Node → A) (z : A) (nodes : Nodes) (k : ℕ) (v : Node) → value_at f z (insert nodes k v) ≡ set k (f v) (value_at f z nodes)
value_at_insert f z nodes k v = λ i q.
    (ap (λ o. option_map_or f o z) (get-insert nat_cmp_total nodes k v q)
    ∙ seen_cond f z (eq_by_cmp nat_cmp q k) (Some v) (get nodes q)
    ∙ ap (λ b. cond b (f v) (value_at f z nodes q)) (same_test q k)) i

pub value_at_remove : {A : Type 0} (f : Node → A) (z : A) (nodes : Nodes) (k : ℕ) → value_at f z (remove nodes k) ≡ set k z (value_at f z nodes)
value_at_remove f z nodes k = λ i q.
    (ap (λ o. option_map_or f o z) (get-remove nat_cmp_total nodes k q)
    ∙ seen_cond f z (eq_by_cmp nat_cmp q k) None (get nodes q)
    ∙ ap (λ b. cond b z (value_at f z nodes q)) (same_test q k)) i

pub value_at_at : {A : Type 0} (f : Node → A) (z : A) (nodes : Nodes) (k : ℕ) (v : Node) → get nodes k ≡ Some v → value_at f z nodes k ≡ f v
value_at_at f z nodes k v e = ap (λ o. option_map_or f o z) e

-- a node that replaces this one, and looks the same
pub value_at_metadata : {A : Type 0} (f : Node → A) (z : A) (nodes : Nodes) (k : ℕ) (v w : Node) → get nodes k ≡ Some v → f w ≡ f v → value_at f z (insert nodes k w) ≡ value_at f z nodes
value_at_metadata f z nodes k v w e same = value_at_insert f z nodes k w ∙ set_same k (f w) (value_at f z nodes) (value_at_at f z nodes k v e ∙ sym same)

pub with_change_at : (nodes : Nodes) (k : ℕ) (v : Node) (change : Node → Node) → get nodes k ≡ Some v → nodes_with_change nodes k change ≡ insert nodes k (change v)
with_change_at nodes k v change e = ap (λ o. option_map_or (λ node. insert nodes k (change node)) o nodes) e

pub same_kind : (change : Entries → Entries) (c : Content) → is_directory (on_entries change c) ≡ is_directory c
same_kind change (Regular bytes) = refl
same_kind change (Directory entries) = refl
same_kind change (Block device) = refl
same_kind change (Character device) = refl
same_kind change (Link path) = refl
same_kind change Socket = refl
same_kind change Fifo = refl

abbrev pub new_entry : Node → List ℕ → ℕ → Entry
new_entry dir name n = record { cookie = next_cookie_of dir.content; name = name; number = n }

one_more : (now : Time) (name : List ℕ) (n : ℕ) (b : Bool) (v : Node) (c : Content) → v.content ≡ c → is_directory c ≡ true → entries_in (node_with_entry now name n b v) ≡ entries_in v ++ new_entry v name n ∷ []
one_more now name n b v (Directory entries) e t = rw (e) refl
one_more now name n b v (Regular bytes) e t = absurd cc
one_more now name n b v (Block device) e t = absurd cc
one_more now name n b v (Character device) e t = absurd cc
one_more now name n b v (Link path) e t = absurd cc
one_more now name n b v Socket e t = absurd cc
one_more now name n b v Fifo e t = absurd cc

pub one_less : (now : Time) (name : List ℕ) (b : Bool) (v : Node) (c : Content) → v.content ≡ c → is_directory c ≡ true → entries_in (node_without_entry now name b v) ≡ list_without name (entries_in v)
one_less now name b v (Directory entries) e t = rw (e) refl
one_less now name b v (Regular bytes) e t = absurd cc
one_less now name b v (Block device) e t = absurd cc
one_less now name b v (Character device) e t = absurd cc
one_less now name b v (Link path) e t = absurd cc
one_less now name b v Socket e t = absurd cc
one_less now name b v Fifo e t = absurd cc

module _ (next : ℕ) (nodes : Nodes) where
  abbrev s : DirectoryGraph
  s = skeleton_of next nodes

  -- an entry more: `entry_added` but for the parent of what it names
  pub skeleton_of_node_with_entry : (d : ℕ) (v : Node) (now : Time) (name : List ℕ) (n : ℕ) (b : Bool) → get nodes d ≡ Some v → is_dir v ≡ true
      → skeleton_of next (nodes_with_change nodes d (node_with_entry now name n b))
      ≡ record s { entries = set d (s.entries d ++ new_entry v name n ∷ []) s.entries; links = set d (s.links d + one_if b) s.links }
  skeleton_of_node_with_entry d v now name n b e t =
      let w : Node = node_with_entry now name n b v in
      let es : entries_in w ≡ s.entries d ++ new_entry v name n ∷ [] =
      one_more now name n b v v.content refl t ∙ ap (λ (l : List Entry). l ++ new_entry v name n ∷ []) (sym (value_at_at entries_in [] nodes d v e)) in
      let ls : w.metadata.links ≡ s.links d + one_if b = ap (λ (k : ℕ). k + one_if b) (sym (value_at_at (λ node. node.metadata.links) 0 nodes d v e)) in
      ap (skeleton_of next) (with_change_at nodes d v (node_with_entry now name n b) e) ∙ λ i. record {
        next = next;
        live = value_at_metadata (λ node. true) false nodes d v w e refl i;
        dir = value_at_metadata is_dir false nodes d v w e (same_kind _ v.content) i;
        entries = (value_at_insert entries_in [] nodes d w ∙ ap (λ (l : List Entry). set d l s.entries) es) i;
        parent = value_at_metadata (λ node. node.parent) 0 nodes d v w e refl i;
        links = (value_at_insert (λ node. node.metadata.links) 0 nodes d w ∙ ap (λ (k : ℕ). set d k s.links) ls) i;
      }

  -- an entry less: `entry_removed`
  pub skeleton_of_node_without_entry : (d : ℕ) (v : Node) (now : Time) (name : List ℕ) (h : ℕ) (b : Bool) → get nodes d ≡ Some v → is_dir v ≡ true → b ≡ s.dir h
      → skeleton_of next (nodes_with_change nodes d (node_without_entry now name b)) ≡ entry_removed s d name h
  skeleton_of_node_without_entry d v now name h b e t kind =
      let w : Node = node_without_entry now name b v in
      let es : entries_in w ≡ list_without name (s.entries d) =
      one_less now name b v v.content refl t ∙ ap (λ (l : List Entry). list_without name l) (sym (value_at_at entries_in [] nodes d v e)) in
      let ls : w.metadata.links ≡ s.links d - one_if (s.dir h) = ap (λ (k : ℕ). k - one_if b) (sym (value_at_at (λ node. node.metadata.links) 0 nodes d v e)) ∙ ap (λ (c : Bool). s.links d - one_if c) kind in
      ap (skeleton_of next) (with_change_at nodes d v (node_without_entry now name b) e) ∙ λ i. record {
        next = next;
        live = value_at_metadata (λ node. true) false nodes d v w e refl i;
        dir = value_at_metadata is_dir false nodes d v w e (same_kind _ v.content) i;
        entries = (value_at_insert entries_in [] nodes d w ∙ ap (λ (l : List Entry). set d l s.entries) es) i;
        parent = value_at_metadata (λ node. node.parent) 0 nodes d v w e refl i;
        links = (value_at_insert (λ node. node.metadata.links) 0 nodes d w ∙ ap (λ (k : ℕ). set d k s.links) ls) i;
      }

  pub skeleton_of_node_with_link : (h : ℕ) (v : Node) (now : Time) (d : ℕ) → get nodes h ≡ Some v → skeleton_of next (nodes_with_change nodes h (node_with_link now d)) ≡ record (link_added s h) { parent = set h d s.parent }
  skeleton_of_node_with_link h v now d e =
      let w : Node = node_with_link now d v in
      let ls : w.metadata.links ≡ s.links h + 1 = ap (λ (k : ℕ). k + 1) (sym (value_at_at (λ node. node.metadata.links) 0 nodes h v e)) in
      ap (skeleton_of next) (with_change_at nodes h v (node_with_link now d) e) ∙ λ i. record {
        next = next;
        live = value_at_metadata (λ node. true) false nodes h v w e refl i;
        dir = value_at_metadata is_dir false nodes h v w e refl i;
        entries = value_at_metadata entries_in [] nodes h v w e refl i;
        parent = value_at_insert (λ node. node.parent) 0 nodes h w i;
        links = (value_at_insert (λ node. node.metadata.links) 0 nodes h w ∙ ap (λ (k : ℕ). set h k s.links) ls) i;
      }

  pub skeleton_of_node_without_link : (h : ℕ) (v : Node) (now : Time) → get nodes h ≡ Some v → skeleton_of next (insert nodes h (node_without_link now v)) ≡ link_dropped s h
  skeleton_of_node_without_link h v now e =
      let w : Node = node_without_link now v in
      let ls : w.metadata.links ≡ s.links h - 1 = ap (λ (k : ℕ). k - 1) (sym (value_at_at (λ node. node.metadata.links) 0 nodes h v e)) in
      λ i. record {
        next = next;
        live = value_at_metadata (λ node. true) false nodes h v w e refl i;
        dir = value_at_metadata is_dir false nodes h v w e refl i;
        entries = value_at_metadata entries_in [] nodes h v w e refl i;
        parent = value_at_metadata (λ node. node.parent) 0 nodes h v w e refl i;
        links = (value_at_insert (λ node. node.metadata.links) 0 nodes h w ∙ ap (λ (k : ℕ). set h k s.links) ls) i;
      }

  pub skeleton_of_remove : (h : ℕ) → skeleton_of next (remove nodes h) ≡ node_removed s h
  skeleton_of_remove h = λ i. record {
    next = next;
    live = value_at_remove (λ node. true) false nodes h i;
    dir = value_at_remove is_dir false nodes h i;
    entries = value_at_remove entries_in [] nodes h i;
    parent = value_at_remove (λ node. node.parent) 0 nodes h i;
    links = value_at_remove (λ node. node.metadata.links) 0 nodes h i;
  }

  pub skeleton_of_node_with_new_name : (h : ℕ) (v : Node) (now : Time) (d : ℕ) → get nodes h ≡ Some v → skeleton_of next (nodes_with_change nodes h (node_with_new_name now d)) ≡ record s { parent = set h d s.parent }
  skeleton_of_node_with_new_name h v now d e =
      let w : Node = node_with_new_name now d v in
      ap (skeleton_of next) (with_change_at nodes h v (node_with_new_name now d) e) ∙ λ i. record {
        next = next;
        live = value_at_metadata (λ node. true) false nodes h v w e refl i;
        dir = value_at_metadata is_dir false nodes h v w e refl i;
        entries = value_at_metadata entries_in [] nodes h v w e refl i;
        parent = value_at_insert (λ node. node.parent) 0 nodes h w i;
        links = value_at_metadata (λ node. node.metadata.links) 0 nodes h v w e refl i;
      }

  -- a new node: `node_added`
  pub skeleton_of_new : (node : Node) → entries_in node ≡ [] → node.metadata.links ≡ 1 + one_if (is_dir node) → skeleton_of (next + 1) (insert nodes next node) ≡ node_added s (is_dir node) node.parent
  skeleton_of_new node bare links = λ i. record {
    next = next + 1;
    live = value_at_insert (λ node. true) false nodes next node i;
    dir = value_at_insert is_dir false nodes next node i;
    entries = (value_at_insert entries_in [] nodes next node ∙ ap (λ (l : List Entry). set next l s.entries) bare) i;
    parent = value_at_insert (λ node. node.parent) 0 nodes next node i;
    links = (value_at_insert (λ node. node.metadata.links) 0 nodes next node ∙ ap (λ (k : ℕ). set next k s.links) links) i;
  }
