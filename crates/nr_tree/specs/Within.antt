-- Whether a directory is another one or lies below it, as a test: a walk from each to its parent, of at most n steps for n numbers.
use Rattle.std.specs.Prelude.{ℕ, zero, suc, ◌==◌, Bool, ◌||◌, ◌&&◌, not}
use Rattle.nr_tree.specs.DirectoryGraph.{DirectoryGraph}

abbrev pub walks_to : ℕ → DirectoryGraph → ℕ → ℕ → Bool
walks_to zero s n top = n == top
walks_to (suc steps) s n top = (n == top) || (not (n == 1) && walks_to steps s (s.parent n) top)

abbrev pub is_within : DirectoryGraph → ℕ → ℕ → Bool
is_within s n top = walks_to s.next s n top
