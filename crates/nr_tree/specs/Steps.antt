-- When each step of a tree may be taken.
use Rattle.std.specs.Prelude.{◌≡◌, ℕ, ◌+◌, ◌<◌, ◌≤◌, ◌^◌, Bool, true, false, if◌then◌else◌, List, [], length, Option, None, Some}
use Rattle.std.specs.Option.{option_map}
use Rattle.std.specs.FinMap.{get}
use Rattle.nr_nfs_base.specs.Limits.{name_length_max}
use Rattle.nr_tree.specs.Entries.{Entry, entry_of_name}
use Rattle.nr_tree.specs.DirectoryGraph.{DirectoryGraph, one_if, LiesBelow, links_max}
use Rattle.nr_tree.specs.Tree.{Tree, value_at, is_dir, is_regular, entries_in, bytes_of}
use Rattle.nr_tree.specs.Pages.{pages_of}
use Rattle.nr_tree.specs.Sane.{IsValidContent, skeleton}
use Rattle.nr_tree.specs.Changes.{entry_at, next_cookie_of}
use Rattle.nr_tree.specs.declared.node.Node.{Node}

abbrev pub is_live_at : Tree → ℕ → Bool
is_live_at t n = value_at (λ node. true) false t.nodes n

abbrev pub is_dir_at : Tree → ℕ → Bool
is_dir_at t n = value_at is_dir false t.nodes n

abbrev pub is_regular_at : Tree → ℕ → Bool
is_regular_at t n = value_at is_regular false t.nodes n

-- how many pages of the file under a number hold a byte that isn't 0; none if and only if there is no regular file
abbrev pub pages_at : Tree → ℕ → Option ℕ
pages_at t n = if is_regular_at t n then Some (pages_of (value_at (λ node. bytes_of node.content) [] t.nodes n)) else None

abbrev pub entries_at : Tree → ℕ → List Entry
entries_at t n = value_at entries_in [] t.nodes n

abbrev pub links_at : Tree → ℕ → ℕ
links_at t n = value_at (λ node. node.metadata.links) 0 t.nodes n

-- the next number and each next cookie are below a limit
pub record IsBelow (limit : ℕ) (t : Tree) : Type 0 where
  pub next : t.next < limit
  pub cookies : (n : ℕ) (node : Node) → get t.nodes n ≡ Some node → next_cookie_of node.content < limit

-- far from the end of 64 bits
abbrev pub IsBounded : Tree → Type 0
IsBounded t = IsBelow (2 ^ 63) t

-- a name that a directory may get: it is free there, and has 1 to 255 bytes
pub record IsFree (s : DirectoryGraph) (d : ℕ) (name : List ℕ) : Type 0 where
  pub free : entry_of_name name (s.entries d) ≡ None
  pub not_empty : 0 < length name
  pub not_too_long : length name ≤ name_length_max

-- a node as it is made in a directory: without entries, with the links that it has once it is named there; the first entry of a new directory gets cookie 1
pub record IsNew (node : Node) (d : ℕ) : Type 0 where
  pub fit : IsValidContent node.content
  pub empty : entries_in node ≡ []
  pub first_cookie : next_cookie_of node.content ≤ 1
  pub parent : node.parent ≡ d
  pub links : node.metadata.links ≡ 1 + one_if (is_dir node)

pub record CanAddNode (t : Tree) (d : ℕ) (name : List ℕ) (node : Node) : Type 0 where
  pub directory : is_dir_at t d ≡ true
  pub free : IsFree (skeleton t) d name
  pub new : IsNew node d
  pub links : is_dir node ≡ true → links_at t d < links_max

pub record CanAddLink (t : Tree) (d : ℕ) (name : List ℕ) (h : ℕ) : Type 0 where
  pub directory : is_dir_at t d ≡ true
  pub free : IsFree (skeleton t) d name
  pub live : is_live_at t h ≡ true
  pub file : is_dir_at t h ≡ false
  pub links : links_at t h < links_max

-- the entry is there, and leads to no directory with entries
pub record CanRemoveEntry (t : Tree) (d : ℕ) (name : List ℕ) (h : ℕ) : Type 0 where
  pub entry : option_map (λ (e : Entry). e.number) (entry_at t d name) ≡ Some h
  pub empty : is_dir_at t h ≡ true → entries_at t h ≡ []

-- the target of a RENAME: none, or another node that is no directory with entries
abbrev pub IsFreeTarget : DirectoryGraph → ℕ → Option Entry → Type 0
IsFreeTarget s h None = Unit {0}
IsFreeTarget s h (Some g) = (g.number ≡ h → ⊥) × (s.dir g.number ≡ true → s.entries g.number ≡ [])

pub record CanRename (t : Tree) (from : ℕ) (name : List ℕ) (to : ℕ) (name_to : List ℕ) (h : ℕ) : Type 0 where
  pub entry : option_map (λ (e : Entry). e.number) (entry_at t from name) ≡ Some h
  pub dir : is_dir_at t to ≡ true
  pub not_empty : 0 < length name_to
  pub not_too_long : length name_to ≤ name_length_max
  pub target : IsFreeTarget (skeleton t) h (entry_at t to name_to)
  pub links : is_dir_at t h ≡ true → (to ≡ from → ⊥) → links_at t to < links_max
  pub apart : is_dir_at t h ≡ true → LiesBelow (skeleton t) None to h → ⊥
