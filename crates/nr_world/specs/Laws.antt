-- What is done on another link leaves a link.
use Rattle.std.specs.Prelude.{◌≡◌, ◌≢◌, ℕ, ◌≤◌, List, ◌++◌, length}
use Rattle.std.specs.List.{AllByRecursion}
use Rattle.nr_reduce.specs.declared.mark.Mark.{Mark}
use Rattle.nr_drill.specs.Drill.{link_of, Setting, Drill, client_of, pipes_of}
use Rattle.nr_world.specs.DrillLinkState.{DrillLinkState}
use Rattle.nr_world.specs.LinkStands.{LinkStands}

-- marks of this link are added and no others, and what waits in the pipes of other links stays
pub record IsDoneOn (link : ℕ) (old new : Drill) : Type 0 where
  pub added : List Mark
  pub marks : new.marks ≡ old.marks ++ added
  pub own : AllByRecursion (λ (mark : Mark). link_of mark ≡ link) added
  pub pipes : (other : ℕ) → 1 ≤ other → other ≢ link → pipes_of other new ≡ pipes_of other old
  pub room : length new.pipes ≡ length old.pipes

-- a link of another client, which stood for the drill before, stands for the drill after
abbrev pub OtherLinksStand : Type 0
OtherLinksStand = (s : Setting) (link other : ℕ) (old new : Drill) (v : DrillLinkState) → client_of s other ≢ client_of s link → IsDoneOn other old new → LinkStands s link old v → LinkStands s link new v
