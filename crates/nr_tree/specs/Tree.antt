-- A tree of files: a node under each number, and the next number to be given.
use Rattle.std.specs.Prelude.{ℕ, Bool, true, false, List, [], length}
use Rattle.std.specs.Option.{option_map_or}
use Rattle.std.specs.Ordering.{nat_cmp}
use Rattle.std.specs.FinMap.{FinMap, get, insert, from_entries}
use Rattle.nr_nfs_base.specs.declared.attributes.Attributes.{Attributes}
use Rattle.nr_nfs_base.specs.declared.attributes.SpecialData.{SpecialData}
use Rattle.nr_nfs_base.specs.declared.file_type.FileType.{FileType}
use Rattle.nr_nfs_base.specs.declared.file_type.FileType.TheVariants as types
use Rattle.nr_tree.specs.Entries.{Entry}
use Rattle.nr_tree.specs.declared.node.Node.{Node}
use Rattle.nr_tree.specs.declared.node.Content.{Content}
use Rattle.nr_tree.specs.declared.node.Content.TheVariants.{Regular, Directory, Block, Character, Link, Socket, Fifo}

pub record Tree : Type 0 where
  pub next : ℕ
  pub nodes : FinMap nat_cmp Node

-- the map of a tree's nodes, from its entries
abbrev pub nodes_of : List (ℕ × Node) → FinMap nat_cmp Node
nodes_of es = from_entries es

abbrev pub type_of : Content → FileType
type_of (Regular bytes) = types.Reg
type_of (Directory entries) = types.Dir
type_of (Block device) = types.Blk
type_of (Character device) = types.Chr
type_of (Link path) = types.Lnk
type_of Socket = types.Sock
type_of Fifo = types.Fifo

-- bytes of a regular file, of a link's path; nothing else has a size
abbrev pub bytes_of : Content → List ℕ
bytes_of (Regular bytes) = bytes
bytes_of (Directory entries) = []
bytes_of (Block device) = []
bytes_of (Character device) = []
bytes_of (Link path) = path
bytes_of Socket = []
bytes_of Fifo = []

abbrev pub entries_of : Content → List Entry
entries_of (Regular bytes) = []
entries_of (Directory entries) = entries.list
entries_of (Block device) = []
entries_of (Character device) = []
entries_of (Link path) = []
entries_of Socket = []
entries_of Fifo = []

abbrev pub no_device : SpecialData
no_device = record { major = 0; minor = 0 }

abbrev pub device_of : Content → SpecialData
device_of (Regular bytes) = no_device
device_of (Directory entries) = no_device
device_of (Block device) = device
device_of (Character device) = device
device_of (Link path) = no_device
device_of Socket = no_device
device_of Fifo = no_device

abbrev pub is_directory : Content → Bool
is_directory (Regular bytes) = false
is_directory (Directory entries) = true
is_directory (Block device) = false
is_directory (Character device) = false
is_directory (Link path) = false
is_directory Socket = false
is_directory Fifo = false

abbrev pub is_regular_content : Content → Bool
is_regular_content (Regular bytes) = true
is_regular_content (Directory entries) = false
is_regular_content (Block device) = false
is_regular_content (Character device) = false
is_regular_content (Link path) = false
is_regular_content Socket = false
is_regular_content Fifo = false

abbrev pub is_dir : Node → Bool
is_dir node = is_directory node.content

abbrev pub is_regular : Node → Bool
is_regular node = is_regular_content node.content

abbrev pub entries_in : Node → List Entry
entries_in node = entries_of node.content

-- what a caller sees of a node (RFC 1813 section 2.5, fattr3)
abbrev pub attributes_of : ℕ → Node → Attributes
attributes_of number node = record {
  file_type = type_of node.content;
  mode = node.metadata.mode;
  nlink = node.metadata.links;
  uid = node.metadata.uid;
  gid = node.metadata.gid;
  size = length (bytes_of node.content);
  used = length (bytes_of node.content);
  rdev = device_of node.content;
  fsid = 1;
  fileid = number;
  atime = node.metadata.atime;
  mtime = node.metadata.mtime;
  ctime = node.metadata.ctime;
}

-- what is seen of a number: of the node under it, and otherwise this
abbrev pub value_at : {A : Type 0} → (Node → A) → A → FinMap nat_cmp Node → ℕ → A
value_at f z nodes n = option_map_or f (get nodes n) z

-- the nodes with a change of the one under a number, if there is one
abbrev pub nodes_with_change : FinMap nat_cmp Node → ℕ → (Node → Node) → FinMap nat_cmp Node
nodes_with_change nodes n change = option_map_or (λ node. insert nodes n (change node)) (get nodes n) nodes
