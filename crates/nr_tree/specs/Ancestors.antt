-- What the walk from parent to parent finds, over sane trees.
use Rattle.std.specs.Prelude.{◌≡◌, ℕ, true, None}
use Rattle.nr_tree.specs.DirectoryGraph.{LiesBelow}
use Rattle.nr_tree.specs.Sane.{IsSane, skeleton}
use Rattle.nr_tree.specs.Steps.{is_dir_at}
use Rattle.nr_tree.specs.Tree.{Tree}
use Rattle.nr_tree.specs.Within.{is_within}

-- it finds a directory if and only if a path leads up to it: that a directory would move into itself or below (RFC 1813 section 3.3.14)
abbrev pub WalksFindAncestors : Type 0
WalksFindAncestors =
    (t : Tree) (dir top : ℕ) → IsSane t → is_dir_at t dir ≡ true
    → (is_within (skeleton t) dir top ≡ true → LiesBelow (skeleton t) None dir top) × (LiesBelow (skeleton t) None dir top → is_within (skeleton t) dir top ≡ true)
