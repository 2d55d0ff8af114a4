-- What a sane tree promises before each step, and that each step leaves it sane.
use Rattle.std.proofs.Common.{◌≡◌, ℕ, ◌+◌, ◌-◌, ◌<◌, ◌≤◌, ◌^◌, ◌==◌, if◌then◌else◌, Bool, true, false, List, [], ◌++◌, length, take, drop, replicate, Option, None, Some, IfSome, IsTrue, Result, Ok, Err, OnOk, OnErr, refl, ap, sym, ◌∙◌, subst, arith, inl, inr, ◌⊎◌}
use Rattle.std.proofs.lemmas.Bool.{cases_Bool, false_from_ne_true}
use Rattle.std.proofs.lemmas.List.{length-append, length-take, length-drop, length-replicate}
use Rattle.std.specs.Option.{option_map, option_map_or}
use Rattle.std.specs.FinMap.{get, insert}
use Rattle.nr_nfs_base.specs.declared.time.Time.{Time}
use Rattle.nr_tree.specs.Bytes.{with_length, with_bytes_at}
use Rattle.nr_tree.specs.Entries.{Entry, entry_of_name}
use Rattle.nr_tree.specs.DirectoryGraph.{DirectoryGraph, links_max}
use Rattle.nr_tree.specs.Tree.{Tree, is_dir, is_regular, is_directory, is_regular_content, entries_in}
use Rattle.nr_tree.specs.Sane.{IsSane, IsValidContent, skeleton, file_size_max}
use Rattle.nr_tree.specs.private.Room.{HasRoomIn, HasRoomFor}
use Rattle.nr_tree.specs.Steps.{IsBounded, IsFree, CanAddNode, CanAddLink, CanRemoveEntry, is_live_at, is_dir_at, is_regular_at, entries_at, links_at}
use Rattle.nr_tree.specs.Changes.{next_cookie_of, on_bytes, node_with_bytes, node_with_size, node_with_metadata, entry_at, tree_with_node, tree_without_entry, tree_with_link, tree_with_piece, tree_with_bytes, tree_with_size, tree_with_metadata}
use Rattle.nr_tree.specs.declared.node.Node.{Node}
use Rattle.nr_tree.specs.declared.node.Metadata.{Metadata}
use Rattle.nr_tree.specs.declared.node.Content.{Content}
use Rattle.nr_tree.specs.declared.node.Content.TheVariants.{Regular, Directory, Block, Character, Link, Socket, Fifo}
use Rattle.nr_tree.proofs.SkeletonChanges.{value_at_at}
use Rattle.nr_tree.proofs.Paths.{differ}
use Rattle.nr_tree.proofs.EntryRemoved.{has_entries}
use Rattle.nr_tree.proofs.Contents.{directory_at, node_at, Named}
use Rattle.nr_tree.proofs.Additions.{sane_tree_with_node, sane_tree_with_link}
use Rattle.nr_tree.proofs.Removals.{sane_tree_without_entry}
use Rattle.nr_tree.proofs.Renames.{two_links, not_gone}
use Rattle.nr_tree.proofs.SameSkeleton.{IsSameInSkeleton, sane_same_skeleton}
use Rattle.nr_tree.proofs.RemovalReady.{IsRemovable, file_may_leave}

-- whatever a step answers, the tree is sane
pub sane_either : {A E : Type 0} (r : Result A E) (old new done : Tree) → OnOk r (new ≡ done) → OnErr r (new ≡ old) → IsSane old → IsSane done → IsSane new
sane_either (Ok x) old new done ok err sane good = subst IsSane (sym ok) good
sane_either (Err e) old new done ok err sane good = subst IsSane (sym err) sane

-- ===== a node added

none_by : (o : Option Node) → option_map_or (λ (node : Node). true) o false ≡ false → o ≡ None
none_by None e = refl
none_by (Some v) e = absurd cc

pub next_free : (t : Tree) → IsSane t → get t.nodes t.next ≡ None
next_free t sane = none_by (get t.nodes t.next) (false_from_ne_true (is_live_at t t.next) (λ live. omega (arith, (sane.skeleton.numbers t.next live).1)))

pub not_next : (t : Tree) (d : ℕ) → IsSane t → is_dir_at t d ≡ true → d ≡ t.next → ⊥
not_next t d sane is z = omega (arith, z, (sane.skeleton.numbers d (sane.skeleton.dirs_live d is)).1)

room_by : (name : List ℕ) (v : Node) (c : Content) → v.content ≡ c → is_directory c ≡ true → entry_of_name name (entries_in v) ≡ None → next_cookie_of v.content < 2 ^ 63 → HasRoomIn name v.content
room_by name v (Directory d) e t free below =
    let none : entry_of_name name d.list ≡ None = rw (e) at free in
    let cookie : d.next_cookie < 2 ^ 63 = rw (e) at below in
    rw (e) (none, cookie)
room_by name v (Regular bytes) e t free below = absurd cc
room_by name v (Block device) e t free below = absurd cc
room_by name v (Character device) e t free below = absurd cc
room_by name v (Link path) e t free below = absurd cc
room_by name v Socket e t free below = absurd cc
room_by name v Fifo e t free below = absurd cc

few_links : (k l : ℕ) → k ≡ l → k ≤ links_max → l < 2 ^ 31
few_links k l e le = omega (arith, e, le)

pub has_room : (t : Tree) (d : ℕ) (name : List ℕ) → IsSane t → IsBounded t → is_dir_at t d ≡ true → IsFree (skeleton t) d name → IfSome (get t.nodes d) (λ n. HasRoomFor name n)
has_room t d name sane bounded is free =
    let v : (v : Node) × (get t.nodes d ≡ Some v) × (is_dir v ≡ true) = directory_at t.nodes d is in
    let none : entry_of_name name (entries_in v.0) ≡ None = ap (entry_of_name name) (sym (value_at_at entries_in [] t.nodes d v.0 v.1)) ∙ free.free in
    let links : links_at t d ≡ v.0.metadata.links = value_at_at (λ (node : Node). node.metadata.links) 0 t.nodes d v.0 v.1 in
    subst (λ (o : Option Node). IfSome o (λ n. HasRoomFor name n)) (sym v.1)
    (room_by name v.0 v.0.content refl v.2 none (bounded.cookies d v.0 v.1), few_links (links_at t d) v.0.metadata.links links (sane.skeleton.links_limit d (sane.skeleton.dirs_live d is)))

pub sane_add_node : (t : Tree) (now : Time) (d : ℕ) (name : List ℕ) (node : Node) → IsSane t → CanAddNode t d name node → IsSane (tree_with_node t now d name node)
sane_add_node t now d name node sane can = sane_tree_with_node t now d name node sane can.directory can.free can.new can.links

-- ===== a link added

pub other_node : (t : Tree) (d : ℕ) (name : List ℕ) (h : ℕ) → CanAddLink t d name h → d ≡ h → ⊥
other_node t d name h can = differ (is_dir_at t) d h can.directory can.file

pub links_left : (t : Tree) (d : ℕ) (name : List ℕ) (h : ℕ) → IsSane t → CanAddLink t d name h → IfSome (get t.nodes h) (λ n. n.metadata.links < 2 ^ 31)
links_left t d name h sane can =
    let w : Named t.nodes h = node_at t.nodes h can.live in
    let links : links_at t h ≡ w.0.metadata.links = value_at_at (λ (node : Node). node.metadata.links) 0 t.nodes h w.0 w.1 in
    subst (λ (o : Option Node). IfSome o (λ n. n.metadata.links < 2 ^ 31)) (sym w.1) (few_links (links_at t h) w.0.metadata.links links (sane.skeleton.links_limit h can.live))

pub sane_add_link : (t : Tree) (now : Time) (d : ℕ) (name : List ℕ) (h : ℕ) → IsSane t → CanAddLink t d name h → IsSane (tree_with_link t now d name h)
sane_add_link t now d name h sane can = sane_tree_with_link t now d name h sane can.directory can.free can.live can.file can.links

-- ===== an entry removed

pub number_found : (o : Option Entry) (n : ℕ) → option_map (λ (e : Entry). e.number) o ≡ Some n → (e : Entry) × (o ≡ Some e) × (e.number ≡ n)
number_found None n p = absurd cc
number_found (Some e) n p = (e, refl, cc)

directory_may_leave : (t : Tree) (d : ℕ) (name : List ℕ) (e : Entry) → IsSane t → entry_at t d name ≡ Some e → is_dir_at t e.number ≡ true → entries_at t e.number ≡ [] → IsRemovable t d e.number
directory_may_leave t d name e sane found dir bare =
    let s : DirectoryGraph = skeleton t in
    let is : s.dir d ≡ true = has_entries s d name e sane.skeleton found in
    let v : (v : Node) × (get t.nodes d ≡ Some v) × (is_dir v ≡ true) = directory_at t.nodes d is in
    let w : (v : Node) × (get t.nodes e.number ≡ Some v) × (is_dir v ≡ true) = directory_at t.nodes e.number dir in
    let two : 2 ≤ s.links d = two_links s d sane.skeleton is in
    let links : s.links d ≡ v.0.metadata.links = value_at_at (λ (node : Node). node.metadata.links) 0 t.nodes d v.0 v.1 in
    let some : 2 ≤ s.links e.number = two_links s e.number sane.skeleton dir in
    let same : s.links e.number ≡ w.0.metadata.links = value_at_at (λ (node : Node). node.metadata.links) 0 t.nodes e.number w.0 w.1 in
    record {
      is = subst (λ (o : Option Node). IfSome o (λ x. IsTrue (is_dir x) × (1 ≤ x.metadata.links))) (sym v.1) (v.2, omega (arith, two, links));
      apart = λ z. not_gone s d e.number name e is found (λ t. bare) (sym z);
      linked = subst (λ (o : Option Node). IfSome o (λ x. 0 < x.metadata.links)) (sym w.1) (omega (arith, some, same));
    }

pub may_leave : (t : Tree) (d : ℕ) (name : List ℕ) (e : Entry) → IsSane t → entry_at t d name ≡ Some e → (is_dir_at t e.number ≡ true → entries_at t e.number ≡ []) → IsRemovable t d e.number
may_leave t d name e sane found bare = by (cases_Bool (is_dir_at t e.number)) where
  by : (is_dir_at t e.number ≡ true) ⊎ (is_dir_at t e.number ≡ false) → IsRemovable t d e.number
  by (inl dir) = directory_may_leave t d name e sane found dir (bare dir)
  by (inr file) = file_may_leave t d name e sane found file

module _ (t : Tree) (d : ℕ) (name : List ℕ) (h : ℕ) (sane : IsSane t) (can : CanRemoveEntry t d name h) where
  named : (e : Entry) × (entry_at t d name ≡ Some e) × (e.number ≡ h)
  named = number_found (entry_at t d name) h can.entry

  empty : is_dir_at t named.0.number ≡ true → entries_at t named.0.number ≡ []
  empty = subst (λ (k : ℕ). is_dir_at t k ≡ true → entries_at t k ≡ []) (sym named.2) can.empty

  pub removable : IsRemovable t d h
  removable = subst (λ (k : ℕ). IsRemovable t d k) named.2 (may_leave t d name named.0 sane named.1 empty)

  pub sane_remove_entry : (now : Time) → IsSane (tree_without_entry t now d name h)
  sane_remove_entry now = subst (λ (k : ℕ). IsSane (tree_without_entry t now d name k)) named.2 (sane_tree_without_entry t now d name named.0 sane named.1 empty)

-- ===== bytes and attributes

regular_node : (o : Option Node) → option_map_or is_regular o false ≡ true → (v : Node) × (o ≡ Some v) × (is_regular v ≡ true)
regular_node None t = absurd cc
regular_node (Some v) t = (v, refl, t)

pub regular_at : (t : Tree) (n : ℕ) → is_regular_at t n ≡ true → IfSome (get t.nodes n) (λ v. IsTrue (is_regular v))
regular_at t n is =
    let v : (v : Node) × (get t.nodes n ≡ Some v) × (is_regular v ≡ true) = regular_node (get t.nodes n) is in
    subst (λ (o : Option Node). IfSome o (λ x. IsTrue (is_regular x))) (sym v.1) v.2

abbrev bytes_changed : Time → (List ℕ → List ℕ) → Node → Node
bytes_changed now change node = record node { content = on_bytes change node.content; metadata = record node.metadata { mtime = now; ctime = now } }

same_with_bytes : (now : Time) (change : List ℕ → List ℕ) (v : Node) (c : Content) → v.content ≡ c → is_regular_content c ≡ true → IsValidContent c
    → ((bytes : List ℕ) → length bytes ≤ file_size_max → length (change bytes) ≤ file_size_max) → IsSameInSkeleton v (bytes_changed now change v)
same_with_bytes now change v (Regular bytes) e t fit within = record {
  dir = rw (e) refl;
  entries = rw (e) refl;
  parent = refl;
  links = refl;
  fit = rw (e) (within bytes fit);
}
same_with_bytes now change v (Directory d) e t fit within = absurd cc
same_with_bytes now change v (Block device) e t fit within = absurd cc
same_with_bytes now change v (Character device) e t fit within = absurd cc
same_with_bytes now change v (Link path) e t fit within = absurd cc
same_with_bytes now change v Socket e t fit within = absurd cc
same_with_bytes now change v Fifo e t fit within = absurd cc

length_with_length : (bytes : List ℕ) (len : ℕ) → length (with_length bytes len) ≡ len
length_with_length bytes len =
    omega (arith, length-append (take len bytes) (replicate {A = ℕ} (len - length bytes) 0), length-take len bytes, length-replicate {A = ℕ} (len - length bytes) 0)

written_within : (offset : ℕ) (piece bytes : List ℕ) → offset + length piece ≤ file_size_max → length bytes ≤ file_size_max → length (with_bytes_at bytes offset piece) ≤ file_size_max
written_within offset piece bytes le fit =
    omega (
      arith,
      le,
      fit,
      length-append (with_length bytes offset) (piece ++ drop (offset + length piece) bytes),
      length_with_length bytes offset,
      length-append piece (drop (offset + length piece) bytes),
      length-drop (offset + length piece) bytes,
    )

sane_bytes : (t : Tree) (now : Time) (n : ℕ) (change : List ℕ → List ℕ) → IsSane t → is_regular_at t n ≡ true
    → ((bytes : List ℕ) → length bytes ≤ file_size_max → length (change bytes) ≤ file_size_max)
    → (v : Node) × (get t.nodes n ≡ Some v) × IsSameInSkeleton v (bytes_changed now change v)
sane_bytes t now n change sane is within =
    let v : (v : Node) × (get t.nodes n ≡ Some v) × (is_regular v ≡ true) = regular_node (get t.nodes n) is in
    (v.0, v.1, same_with_bytes now change v.0 v.0.content refl v.2 (sane.contents n v.0 v.1) within)

sane_piece : (t : Tree) (now : Time) (n offset : ℕ) (piece : List ℕ) → IsSane t → is_regular_at t n ≡ true → offset + length piece ≤ file_size_max → IsSane (tree_with_piece t now n offset piece)
sane_piece t now n offset piece sane is le =
    let q : (v : Node) × (get t.nodes n ≡ Some v) × IsSameInSkeleton v (bytes_changed now (λ bytes. with_bytes_at bytes offset piece) v) =
    sane_bytes t now n (λ bytes. with_bytes_at bytes offset piece) sane is (λ bytes fit. written_within offset piece bytes le fit) in
    sane_same_skeleton t n q.0 (node_with_bytes now offset piece) sane q.1 q.2

sane_write_by : (b : Bool) (t done : Tree) → IsSane t → IsSane done → IsSane (if b then t else done)
sane_write_by true t done sane good = sane
sane_write_by false t done sane good = good

pub sane_write : (t : Tree) (now : Time) (n offset : ℕ) (piece : List ℕ) → IsSane t → is_regular_at t n ≡ true → offset + length piece ≤ file_size_max → IsSane (tree_with_bytes t now n offset piece)
sane_write t now n offset piece sane is le = sane_write_by (length piece == 0) t (tree_with_piece t now n offset piece) sane (sane_piece t now n offset piece sane is le)

pub sane_set_size : (t : Tree) (now : Time) (n size : ℕ) → IsSane t → is_regular_at t n ≡ true → size ≤ file_size_max → IsSane (tree_with_size t now n size)
sane_set_size t now n size sane is le =
    let q : (v : Node) × (get t.nodes n ≡ Some v) × IsSameInSkeleton v (bytes_changed now (λ bytes. with_length bytes size) v) =
    sane_bytes t now n (λ bytes. with_length bytes size) sane is (λ bytes fit. omega (arith, le, length_with_length bytes size)) in
    sane_same_skeleton t n q.0 (node_with_size now size) sane q.1 q.2

metadata_by : (t : Tree) (n : ℕ) (metadata : Metadata) (o : Option Node) → get t.nodes n ≡ o → IsSane t → metadata.links ≡ option_map_or (λ (node : Node). node.metadata.links) o 0
    → IsSane (tree_with_metadata t n metadata)
metadata_by t n metadata None e sane links = subst (λ (m : Tree). IsSane m) (sym (ap (λ (o : Option Node). record t { nodes = option_map_or (λ node. insert t.nodes n (node_with_metadata metadata node)) o t.nodes }) e)) sane
metadata_by t n metadata (Some v) e sane links =
    sane_same_skeleton t n v (node_with_metadata metadata) sane e (record { dir = refl; entries = refl; parent = refl; links = links; fit = sane.contents n v e })

pub sane_set_metadata : (t : Tree) (n : ℕ) (metadata : Metadata) → IsSane t → metadata.links ≡ links_at t n → IsSane (tree_with_metadata t n metadata)
sane_set_metadata t n metadata sane links = metadata_by t n metadata (get t.nodes n) refl sane links
