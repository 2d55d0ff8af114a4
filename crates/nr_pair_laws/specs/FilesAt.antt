-- What a path leads to in a tree, whoever asks. The rights of a caller are not looked at, nor whether a name stands after
-- that of a directory: `.` leads from each node to itself.
use Rattle.std.specs.Prelude.{◌≡◌, ℕ, suc, ◌<◌, ◌≤◌, ◌^◌, List, [], ◌∷◌, ◌++◌, Option, Some}
use Rattle.std.specs.Option.{option_and_then, option_map}
use Rattle.nr_reduce.specs.declared.mark.Entry.{Entry}
use Rattle.nr_tree.specs.Rules.{handle_of, node_of_handle}
use Rattle.nr_tree.specs.Tree.{Tree}
use Rattle.nr_tree.specs.declared.node.Content.{Content}
use Rattle.nr_tree.specs.declared.node.Node.{Node}
use Rattle.nr_ops_list.specs.Lookup.{found_by}
use Rattle.nr_plain.specs.Journal.{tree_at}
use Rattle.nr_plain.specs.Setup.{Setup}

-- the handle to which a name leads in the directory that a handle names (RFC 1813 section 3.3.3)
abbrev pub handle_in : Tree → (dir name : List ℕ) → Option (List ℕ)
handle_in t dir name = option_map handle_of (found_by t (record { dir = dir; name = name }))

-- the handle to which names lead from a directory, one after another
abbrev pub handle_along : Tree → (dir : List ℕ) → (names : List (List ℕ)) → Option (List ℕ)
handle_along t dir [] = Some dir
handle_along t dir (name ∷ names) = option_and_then (λ (h : List ℕ). handle_along t h names) (handle_in t dir name)

-- the content of the node that a handle names
abbrev pub content_at : Tree → List ℕ → Option Content
content_at t h = option_map (λ (node : Node). node.content) (node_of_handle t h)

-- the content of the node to which names lead
abbrev pub content_along : Tree → (dir : List ℕ) → (names : List (List ℕ)) → Option Content
content_along t dir names = option_and_then (content_at t) (handle_along t dir names)

-- From a directory each beginning of a path leads in the second tree to what it leads to in the first, or to nothing in both, and the content at the
-- end of the path is the same.
pub record KeepsPath (dir : List ℕ) (names : List (List ℕ)) (t u : Tree) : Type 0 where
  pub leads : (before after : List (List ℕ)) → before ++ after ≡ names → handle_along u dir before ≡ handle_along t dir before
  pub content : content_along u dir names ≡ content_along t dir names

-- No entry of a journal from this place on, up to that one, changes what a path leads to.
abbrev pub KeepPath : Setup → List Entry → (dir : List ℕ) → (names : List (List ℕ)) → (from to : ℕ) → Type 0
KeepPath s J dir names from to = (k : ℕ) → from ≤ k → k < to → KeepsPath dir names (tree_at s J k) (tree_at s J (suc k))

-- the number of each node fits in the eight bytes of a handle
abbrev pub NumbersFit : Setup → List Entry → Type 0
NumbersFit s J = (k : ℕ) → (tree_at s J k).next < 2 ^ 64
