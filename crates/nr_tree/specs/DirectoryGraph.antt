-- What a tree's nodes are to one another: who is a directory, which entries it has, whose child it is, and how many links each has.
use Rattle.std.specs.Prelude.{◌≡◌, ◌≢◌, ℕ, zero, suc, ◌+◌, ◌<◌, ◌≤◌, ◌==◌, Bool, true, false, List, [], ◌∷◌, ◌++◌, ◌-◌, Option, None, Some, if◌then◌else◌, ◌⊎◌}
use Rattle.nr_tree.specs.Entries.{Entry, Each, count, list_without}

pub record DirectoryGraph : Type 0 where
  pub next : ℕ
  pub live : ℕ → Bool
  pub dir : ℕ → Bool
  pub entries : ℕ → List Entry
  pub parent : ℕ → ℕ
  pub links : ℕ → ℕ

abbrev pub sum_below : ℕ → (ℕ → ℕ) → ℕ
sum_below zero f = 0
sum_below (suc n) f = sum_below n f + f n

-- the entries of one directory, and of all, that name a number
abbrev pub name_count_in : List Entry → ℕ → ℕ
name_count_in es n = count (λ e. e.number == n) es

abbrev pub name_count : DirectoryGraph → ℕ → ℕ
name_count s n = sum_below s.next (λ d. name_count_in (s.entries d) n)

abbrev pub subdirectory_count : DirectoryGraph → ℕ → ℕ
subdirectory_count s d = count (λ e. s.dir e.number) (s.entries d)

abbrev pub one_if : Bool → ℕ
one_if b = if b then 1 else 0

-- Between two steps of a change one node may be detached: its entry is taken out and not yet put in, so it counts as named once.
abbrev pub detached_count : Option ℕ → ℕ → ℕ
detached_count None n = 0
detached_count (Some h) n = one_if (h == n)

-- The path leads from the directory n up to top, from each to its parent; it ends at the root and at the detached node.
abbrev pub IsPathUp : DirectoryGraph → Option ℕ → ℕ → List ℕ → ℕ → Type 0
IsPathUp s unlinked n [] top = n ≡ top
IsPathUp s unlinked n (p ∷ path) top = (s.dir n ≡ true) × (n ≢ 1) × (detached_count unlinked n ≡ 0) × (s.parent n ≡ p) × IsPathUp s unlinked p path top

abbrev pub LiesBelow : DirectoryGraph → Option ℕ → ℕ → ℕ → Type 0
LiesBelow s unlinked n top = (path : List ℕ) × IsPathUp s unlinked n path top

-- below the root, or below the detached directory
abbrev pub IsConnected : DirectoryGraph → Option ℕ → ℕ → Type 0
IsConnected s unlinked n = LiesBelow s unlinked n 1 ⊎ ((h : ℕ) × (unlinked ≡ Some h) × (s.dir h ≡ true) × LiesBelow s unlinked n h)

abbrev pub expected_links : DirectoryGraph → Option ℕ → ℕ → ℕ
expected_links s unlinked n = if s.dir n then 2 + subdirectory_count s n else name_count s n + detached_count unlinked n

-- the maximum number of links of a node
abbrev pub links_max : ℕ
links_max = 65535

pub record IsConsistent (s : DirectoryGraph) (unlinked : Option ℕ) : Type 0 where
  pub root : s.dir 1 ≡ true
  pub root_parent : s.parent 1 ≡ 1
  pub root_unnamed : name_count s 1 + detached_count unlinked 1 ≡ 0
  pub numbers : (n : ℕ) → s.live n ≡ true → (0 < n) × (n < s.next)
  pub dirs_live : (n : ℕ) → s.dir n ≡ true → s.live n ≡ true
  pub dirs_alone : (n : ℕ) → s.dir n ≡ false → s.entries n ≡ []
  pub detached_live : (h : ℕ) → unlinked ≡ Some h → s.live h ≡ true
  pub names_live : (d : ℕ) → Each (λ e. s.live e.number ≡ true) (s.entries d)
  pub parents : (d : ℕ) → Each (λ e. s.dir e.number ≡ true → s.parent e.number ≡ d) (s.entries d)
  pub once : (n : ℕ) → s.dir n ≡ true → n ≢ 1 → name_count s n + detached_count unlinked n ≡ 1
  pub below : (n : ℕ) → s.dir n ≡ true → IsConnected s unlinked n
  pub links : (n : ℕ) → s.live n ≡ true → s.links n ≡ expected_links s unlinked n
  pub links_limit : (n : ℕ) → s.live n ≡ true → s.links n ≤ links_max

-- ===== the six steps that every change is made of

-- a function with another value at one number
abbrev pub set : {A : Type 0} → ℕ → A → (ℕ → A) → ℕ → A
set k v f q = if q == k then v else f q

-- a new node, detached
abbrev pub node_added : DirectoryGraph → Bool → ℕ → DirectoryGraph
node_added s is_dir parent = record {
  next = s.next + 1;
  live = set s.next true s.live;
  dir = set s.next is_dir s.dir;
  entries = set s.next [] s.entries;
  parent = set s.next parent s.parent;
  links = set s.next (1 + one_if is_dir) s.links;
}

-- one more link to a file, which is then detached
abbrev pub link_added : DirectoryGraph → ℕ → DirectoryGraph
link_added s h = record s { links = set h (s.links h + 1) s.links }

-- the detached node gets an entry, put last
abbrev pub entry_added : DirectoryGraph → ℕ → Entry → DirectoryGraph
entry_added s d e = record s {
  entries = set d (s.entries d ++ e ∷ []) s.entries;
  parent = set e.number d s.parent;
  links = set d (s.links d + one_if (s.dir e.number)) s.links;
}

-- the entry of a name is taken out, and its node is detached
abbrev pub entry_removed : DirectoryGraph → ℕ → List ℕ → ℕ → DirectoryGraph
entry_removed s d name h = record s {
  entries = set d (list_without name (s.entries d)) s.entries;
  links = set d (s.links d - one_if (s.dir h)) s.links;
}

-- the detached file has a link less
abbrev pub link_dropped : DirectoryGraph → ℕ → DirectoryGraph
link_dropped s h = record s { links = set h (s.links h - 1) s.links }

-- the detached node is removed
abbrev pub node_removed : DirectoryGraph → ℕ → DirectoryGraph
node_removed s h = record s {
  live = set h false s.live;
  dir = set h false s.dir;
  entries = set h [] s.entries;
  parent = set h 0 s.parent;
  links = set h 0 s.links;
}
