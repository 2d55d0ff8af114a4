-- What holds of every tree.
use Rattle.std.specs.Prelude.{◌≡◌, ℕ, ◌<◌, ◌≤◌, true, false, [], length, None, Some}
use Rattle.std.specs.Ordering.{nat_cmp}
use Rattle.std.specs.FinMap.{FinMap, get}
use Rattle.nr_tree.specs.Entries.{CookiesAscend, NamesAreValid}
use Rattle.nr_tree.specs.DirectoryGraph.{DirectoryGraph, IsConsistent}
use Rattle.nr_tree.specs.Tree.{Tree, value_at, is_dir, entries_in}
use Rattle.nr_tree.specs.declared.node.Node.{Node}
use Rattle.nr_tree.specs.declared.node.Content.{Content}
use Rattle.nr_tree.specs.declared.node.Content.TheVariants.{Regular, Directory, Block, Character, Link, Socket, Fifo}
use Rattle.nr_nfs_base.specs.Limits.{link_target_max}

-- the maximum size of a file, and of a path, in bytes
abbrev pub file_size_max : ℕ
file_size_max = 16777216

-- what a node holds by itself: names and cookies of a directory, the size of a file and of a path
abbrev pub IsValidContent : Content → Type 0
IsValidContent (Regular bytes) = length bytes ≤ file_size_max
IsValidContent (Directory entries) = CookiesAscend 1 entries.list entries.next_cookie × NamesAreValid entries.list
IsValidContent (Block device) = Unit {0}
IsValidContent (Character device) = Unit {0}
IsValidContent (Link path) = (0 < length path) × (length path ≤ link_target_max)
IsValidContent Socket = Unit {0}
IsValidContent Fifo = Unit {0}

-- what the nodes are to one another
abbrev pub skeleton_of : ℕ → FinMap nat_cmp Node → DirectoryGraph
skeleton_of next nodes = record {
  next = next;
  live = value_at (λ node. true) false nodes;
  dir = value_at is_dir false nodes;
  entries = value_at entries_in [] nodes;
  parent = value_at (λ node. node.parent) 0 nodes;
  links = value_at (λ node. node.metadata.links) 0 nodes;
}

abbrev pub skeleton : Tree → DirectoryGraph
skeleton t = skeleton_of t.next t.nodes

pub record IsSane (t : Tree) : Type 0 where
  pub contents : (n : ℕ) (node : Node) → get t.nodes n ≡ Some node → IsValidContent node.content
  pub skeleton : IsConsistent (skeleton t) None
