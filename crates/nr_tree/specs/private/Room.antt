-- Where an entry may be put: a directory in which the name is free, with a cookie and a link left.
use Rattle.std.specs.Prelude.{ℕ, ◌≡◌, ◌<◌, ◌≤◌, ◌^◌, Bool, true, List, None, is_some, IsTrue}
use Rattle.nr_nfs_base.specs.declared.time.Time.{Time}
use Rattle.nr_tree.specs.Changes.{node_without_entry}
use Rattle.nr_tree.specs.Entries.{entry_of_name}
use Rattle.nr_tree.specs.DirectoryGraph.{one_if}
use Rattle.nr_tree.specs.Tree.{is_dir, entries_in}
use Rattle.nr_tree.specs.declared.node.Node.{Node}
use Rattle.nr_tree.specs.declared.node.Content.{Content}
use Rattle.nr_tree.specs.declared.node.Content.TheVariants.{Regular, Directory, Block, Character, Link, Socket, Fifo}

abbrev pub HasRoomIn : List ℕ → Content → Type 0
HasRoomIn name (Directory d) = (entry_of_name name d.list ≡ None) × (d.next_cookie < 2 ^ 63)
HasRoomIn name (Regular bytes) = ⊥
HasRoomIn name (Block device) = ⊥
HasRoomIn name (Character device) = ⊥
HasRoomIn name (Link path) = ⊥
HasRoomIn name Socket = ⊥
HasRoomIn name Fifo = ⊥

abbrev pub HasRoomFor : List ℕ → Node → Type 0
HasRoomFor name node = HasRoomIn name node.content × (node.metadata.links < 2 ^ 31)

-- when the entry of a name may be replaced by another: it is there, and its link is counted
abbrev pub HasEntryIn : List ℕ → Content → Type 0
HasEntryIn name (Directory d) = (is_some (entry_of_name name d.list) ≡ true) × (d.next_cookie < 2 ^ 63)
HasEntryIn name (Regular bytes) = ⊥
HasEntryIn name (Block device) = ⊥
HasEntryIn name (Character device) = ⊥
HasEntryIn name (Link path) = ⊥
HasEntryIn name Socket = ⊥
HasEntryIn name Fifo = ⊥

abbrev pub HasEntryFor : List ℕ → Bool → Node → Type 0
HasEntryFor name is_subdirectory node = HasEntryIn name node.content × (one_if is_subdirectory ≤ node.metadata.links) × (node.metadata.links < 2 ^ 31)

-- when the entry of the name `target` may be replaced after that of the name `source`, in the same directory, was taken out
abbrev pub HasEntryAfterRemoval : Time → (source : List ℕ) → (is_subdirectory : Bool) → (target : List ℕ) → (was_subdirectory : Bool) → Node → Type 0
HasEntryAfterRemoval now source is_subdirectory target was_subdirectory node = HasEntryFor target was_subdirectory (node_without_entry now source is_subdirectory node)

-- a directory with the entry of a name that is to be taken out
abbrev pub IsSource : List ℕ → Node → Type 0
IsSource name node = IsTrue (is_dir node) × (2 ≤ node.metadata.links) × (is_some (entry_of_name name (entries_in node)) ≡ true)
