-- What a file has as its parent means nothing.
use Rattle.std.proofs.Common.{◌≡◌, ℕ, true, false, Option, ◌∙◌, inl, inr}
use Rattle.nr_tree.specs.DirectoryGraph.{DirectoryGraph, set, IsConsistent, IsConnected}
use Rattle.nr_tree.proofs.Lists.{set_other, Each_map}
use Rattle.nr_tree.proofs.Paths.{IsPathUp_same, SameSteps, differ}

module _ (s : DirectoryGraph) (unlinked : Option ℕ) (h d : ℕ) (sound : IsConsistent s unlinked) (file : s.dir h ≡ false) where
  abbrev other : DirectoryGraph
  other = record s { parent = set h d s.parent }

  steps : SameSteps s unlinked other unlinked
  steps x dir ne free = (dir, free, set_other h d s.parent x (differ s.dir x h dir file))

  hangs : (n : ℕ) → IsConnected s unlinked n → IsConnected other unlinked n
  hangs n (inl p) = inl (p.0, IsPathUp_same s unlinked other unlinked steps n p.0 1 p.1)
  hangs n (inr p) = inr (p.0, p.1, p.2, (p.3.0, IsPathUp_same s unlinked other unlinked steps n p.3.0 p.0 p.3.1))

  pub parent_free : IsConsistent other unlinked
  parent_free = record {
    root = sound.root;
    root_parent = set_other h d s.parent 1 (differ s.dir 1 h sound.root file) ∙ sound.root_parent;
    root_unnamed = sound.root_unnamed;
    numbers = sound.numbers;
    dirs_live = sound.dirs_live;
    dirs_alone = sound.dirs_alone;
    detached_live = sound.detached_live;
    names_live = sound.names_live;
    parents = λ q. Each_map (λ e. s.dir e.number ≡ true → s.parent e.number ≡ q) (λ e. s.dir e.number ≡ true → other.parent e.number ≡ q) (s.entries q)
        (λ e old dir. set_other h d s.parent e.number (differ s.dir e.number h dir file) ∙ old dir) (sound.parents q);
    once = sound.once;
    below = λ n dir. hangs n (sound.below n dir);
    links = sound.links;
    links_limit = sound.links_limit;
  }
