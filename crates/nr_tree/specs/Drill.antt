-- The tree that a drill begins with: below a root a file, a symbolic link and a directory of a hundred empty files.
use Rattle.std.specs.Prelude.{◌≡◌, ℕ, zero, suc, ◌+◌, ◌/◌, ◌%◌, ◌<◌, ◌≤◌, List, [], ◌∷◌, ◌++◌, None, Some, ◌⊎◌}
use Rattle.std.specs.FinMap.{get}
use Rattle.nr_nfs_base.specs.declared.time.Time.{Time}
use Rattle.nr_tree.specs.Entries.{Entry}
use Rattle.nr_tree.specs.Tree.{Tree}
use Rattle.nr_tree.specs.Changes.{tree_with_node}
use Rattle.nr_tree.specs.Roots.{root_only}
use Rattle.nr_tree.specs.declared.node.Node.{Node}
use Rattle.nr_tree.specs.declared.node.Content.{Content}
use Rattle.nr_tree.specs.declared.node.Content.TheVariants.{Regular, Directory, Link}

abbrev pub time_zero : Time
time_zero = record { seconds = 0; nanoseconds = 0 }

-- of uid 0 and gid 0, with all times zero
abbrev pub drill_node : ℕ → ℕ → ℕ → Content → Node
drill_node mode links parent content = record {
  metadata = record { mode = mode; links = links; uid = 0; gid = 0; atime = time_zero; mtime = time_zero; ctime = time_zero };
  parent = parent;
  verifier = None;
  content = content;
}

-- the modes 0777 and 0666
abbrev pub mode_777 : ℕ
mode_777 = 511

abbrev pub mode_666 : ℕ
mode_666 = 438

-- hello, link, many; f00 to f99
abbrev pub hello : List ℕ
hello = 104 ∷ 101 ∷ 108 ∷ 108 ∷ 111 ∷ []

abbrev pub link : List ℕ
link = 108 ∷ 105 ∷ 110 ∷ 107 ∷ []

abbrev pub many : List ℕ
many = 109 ∷ 97 ∷ 110 ∷ 121 ∷ []

abbrev pub file_name : ℕ → List ℕ
file_name i = 102 ∷ (48 + i / 10) ∷ (48 + i % 10) ∷ []

abbrev pub root_entries : List Entry
root_entries = record { cookie = 1; name = hello; number = 2 } ∷ record { cookie = 2; name = link; number = 3 } ∷ record { cookie = 3; name = many; number = 4 } ∷ []

-- the first n entries of `many`: cookies from 1 on, numbers from 5 on
abbrev pub many_entries : ℕ → List Entry
many_entries zero = []
many_entries (suc i) = many_entries i ++ record { cookie = i + 1; name = file_name i; number = i + 5 } ∷ []

-- the first nodes, and the tree as they are added: a root alone, then each entry of the root
abbrev pub hello_node : Node
hello_node = drill_node mode_666 1 1 (Regular hello)

abbrev pub link_node : Node
link_node = drill_node mode_777 1 1 (Link hello)

abbrev pub many_node : ℕ → Node
many_node count = drill_node mode_777 2 1 (Directory (record { next_cookie = count + 1; list = many_entries count }))

abbrev pub with_root : Tree
with_root = root_only time_zero

abbrev pub with_hello : Tree
with_hello = tree_with_node with_root time_zero 1 hello hello_node

abbrev pub with_link : Tree
with_link = tree_with_node with_hello time_zero 1 link link_node

abbrev pub with_many : Tree
with_many = tree_with_node with_link time_zero 1 many (many_node 0)

-- the tree with n files in `many`
pub record IsDrillWith (count : ℕ) (t : Tree) : Type 0 where
  pub next : t.next ≡ count + 5
  pub root : get t.nodes 1 ≡ Some (drill_node mode_777 3 1 (Directory (record { next_cookie = 4; list = root_entries })))
  pub hello_file : get t.nodes 2 ≡ Some (drill_node mode_666 1 1 (Regular hello))
  pub link_node : get t.nodes 3 ≡ Some (drill_node mode_777 1 1 (Link hello))
  pub many_directory : get t.nodes 4 ≡ Some (drill_node mode_777 2 1 (Directory (record { next_cookie = count + 1; list = many_entries count })))
  pub files : (n : ℕ) → 5 ≤ n → n < count + 5 → get t.nodes n ≡ Some (drill_node mode_666 1 4 (Regular []))
  pub nothing_else : (n : ℕ) → (n ≡ 0) ⊎ (count + 5 ≤ n) → get t.nodes n ≡ None

abbrev pub IsDrill : Tree → Type 0
IsDrill t = IsDrillWith 100 t
