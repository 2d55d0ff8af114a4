-- What the changing procedures make of a tree. Each is for a moment, now.
use Rattle.std.specs.Prelude.{ℕ, ◌+◌, ◌-◌, ◌==◌, Bool, false, ◌||◌, if◌then◌else◌, nat_le, List, [], length, Option}
use Rattle.std.specs.Option.{option_map_or}
use Rattle.std.specs.Ordering.{nat_cmp}
use Rattle.std.specs.FinMap.{FinMap, get, insert, remove}
use Rattle.nr_nfs_base.specs.declared.time.Time.{Time}
use Rattle.nr_tree.specs.Entries.{Entry, Entries, entry_of_name, entries_with, entries_without}
use Rattle.nr_tree.specs.Bytes.{with_length, with_bytes_at}
use Rattle.nr_tree.specs.DirectoryGraph.{one_if}
use Rattle.nr_tree.specs.Tree.{Tree, value_at, nodes_with_change, is_dir, entries_in}
use Rattle.nr_tree.specs.declared.node.Node.{Node}
use Rattle.nr_tree.specs.declared.node.Metadata.{Metadata}
use Rattle.nr_tree.specs.declared.node.Content.{Content}
use Rattle.nr_tree.specs.declared.node.Content.TheVariants.{Regular, Directory, Block, Character, Link, Socket, Fifo}

-- a directory's entries after a change; nothing else has any
abbrev pub on_entries : (Entries → Entries) → Content → Content
on_entries change (Regular bytes) = Regular bytes
on_entries change (Directory entries) = Directory (change entries)
on_entries change (Block device) = Block device
on_entries change (Character device) = Character device
on_entries change (Link path) = Link path
on_entries change Socket = Socket
on_entries change Fifo = Fifo

-- the cookie that the next entry of a directory gets
abbrev pub next_cookie_of : Content → ℕ
next_cookie_of (Regular bytes) = 0
next_cookie_of (Directory entries) = entries.next_cookie
next_cookie_of (Block device) = 0
next_cookie_of (Character device) = 0
next_cookie_of (Link path) = 0
next_cookie_of Socket = 0
next_cookie_of Fifo = 0

-- one more entry, put last; a subdirectory is one more link
abbrev pub node_with_entry : Time → List ℕ → ℕ → Bool → Node → Node
node_with_entry now name n is_subdirectory dir = record dir {
  content = on_entries (λ d. entries_with d name n) dir.content;
  metadata = record dir.metadata { links = dir.metadata.links + one_if is_subdirectory; mtime = now; ctime = now };
}

-- one entry less
abbrev pub node_without_entry : Time → List ℕ → Bool → Node → Node
node_without_entry now name is_subdirectory dir = record dir {
  content = on_entries (λ d. entries_without d name) dir.content;
  metadata = record dir.metadata { links = dir.metadata.links - one_if is_subdirectory; mtime = now; ctime = now };
}

-- a file with one link more, from this directory, or one less (a file's parent is the directory that got its last entry, and means
-- nothing)
abbrev pub node_with_link : Time → ℕ → Node → Node
node_with_link now parent node = record node { parent = parent; metadata = record node.metadata { links = node.metadata.links + 1; ctime = now } }

abbrev pub node_without_link : Time → Node → Node
node_without_link now node = record node { metadata = record node.metadata { links = node.metadata.links - 1; ctime = now } }

-- a node under another name, in this directory
abbrev pub node_with_new_name : Time → ℕ → Node → Node
node_with_new_name now parent node = record node { parent = parent; metadata = record node.metadata { ctime = now } }

-- the bytes of a regular file after a change
abbrev pub on_bytes : (List ℕ → List ℕ) → Content → Content
on_bytes change (Regular bytes) = Regular (change bytes)
on_bytes change (Directory entries) = Directory entries
on_bytes change (Block device) = Block device
on_bytes change (Character device) = Character device
on_bytes change (Link path) = Link path
on_bytes change Socket = Socket
on_bytes change Fifo = Fifo

abbrev pub node_with_size : Time → ℕ → Node → Node
node_with_size now size node = record node { content = on_bytes (λ bytes. with_length bytes size) node.content; metadata = record node.metadata { mtime = now; ctime = now } }

abbrev pub node_with_bytes : Time → ℕ → List ℕ → Node → Node
node_with_bytes now offset piece node = record node { content = on_bytes (λ bytes. with_bytes_at bytes offset piece) node.content; metadata = record node.metadata { mtime = now; ctime = now } }

-- a node with other attributes
abbrev pub node_with_metadata : Metadata → Node → Node
node_with_metadata metadata node = record node { metadata = metadata }

-- a piece written over the bytes of a file
abbrev pub tree_with_piece : Tree → Time → ℕ → ℕ → List ℕ → Tree
tree_with_piece t now n offset piece = record t { nodes = nodes_with_change t.nodes n (node_with_bytes now offset piece) }

-- WRITE: the same, but no bytes leave the file as it is
abbrev pub tree_with_bytes : Tree → Time → ℕ → ℕ → List ℕ → Tree
tree_with_bytes t now n offset piece = if length piece == 0 then t else tree_with_piece t now n offset piece

-- SETATTR, CREATE of a file that is there: a file cut, or filled up with zeros
abbrev pub tree_with_size : Tree → Time → ℕ → ℕ → Tree
tree_with_size t now n size = record t { nodes = nodes_with_change t.nodes n (node_with_size now size) }

-- SETATTR: other attributes
abbrev pub tree_with_metadata : Tree → ℕ → Metadata → Tree
tree_with_metadata t n metadata = record t { nodes = nodes_with_change t.nodes n (node_with_metadata metadata) }

-- CREATE, MKDIR, SYMLINK, MKNOD: a new node under the next number, and its entry
abbrev pub tree_with_node : Tree → Time → ℕ → List ℕ → Node → Tree
tree_with_node t now d name node = record {
  next = t.next + 1;
  nodes = nodes_with_change (insert t.nodes t.next node) d (node_with_entry now name t.next (is_dir node));
}

-- a node whose entry is gone: a directory goes, a file with its last link
abbrev pub nodes_with_name_dropped : FinMap nat_cmp Node → Time → ℕ → FinMap nat_cmp Node
nodes_with_name_dropped nodes now h = option_map_or (λ node. if is_dir node || nat_le node.metadata.links 1 then remove nodes h else insert nodes h (node_without_link now node)) (get nodes h) nodes

-- REMOVE, RMDIR: an entry is taken out, that of a directory or of another node
abbrev pub nodes_without_entry : FinMap nat_cmp Node → Time → ℕ → List ℕ → ℕ → Bool → FinMap nat_cmp Node
nodes_without_entry nodes now d name h is_directory = nodes_with_name_dropped (nodes_with_change nodes d (node_without_entry now name is_directory)) now h

abbrev pub tree_without_entry : Tree → Time → ℕ → List ℕ → ℕ → Tree
tree_without_entry t now d name h = record t { nodes = nodes_without_entry t.nodes now d name h (value_at is_dir false t.nodes h) }

-- LINK: one more entry of a file
abbrev pub tree_with_link : Tree → Time → ℕ → List ℕ → ℕ → Tree
tree_with_link t now d name h = record t { nodes = nodes_with_change (nodes_with_change t.nodes h (node_with_link now d)) d (node_with_entry now name h false) }

-- the node that a directory has under a name
abbrev pub entry_at : Tree → ℕ → List ℕ → Option Entry
entry_at t d name = entry_of_name name (value_at entries_in [] t.nodes d)

-- RENAME: the old target entry goes, the source entry goes, a new entry is put last
abbrev pub tree_without_target : Tree → Time → ℕ → List ℕ → Tree
tree_without_target t now d name = option_map_or (λ e. tree_without_entry t now d name e.number) (entry_at t d name) t

abbrev pub nodes_with_entry_moved : FinMap nat_cmp Node → Time → ℕ → List ℕ → ℕ → List ℕ → ℕ → Bool → FinMap nat_cmp Node
nodes_with_entry_moved nodes now from name to name_to h is_directory =
    nodes_with_change (nodes_with_change (nodes_with_change nodes from (node_without_entry now name is_directory)) to (node_with_entry now name_to h is_directory)) h (node_with_new_name now to)

abbrev pub tree_with_entry_moved : Tree → Time → ℕ → List ℕ → ℕ → List ℕ → ℕ → Tree
tree_with_entry_moved t now from name to name_to h = record t { nodes = nodes_with_entry_moved t.nodes now from name to name_to h (value_at is_dir false t.nodes h) }

abbrev pub tree_with_new_name : Tree → Time → ℕ → List ℕ → ℕ → List ℕ → ℕ → Tree
tree_with_new_name t now from name to name_to h = tree_with_entry_moved (tree_without_target t now to name_to) now from name to name_to h
