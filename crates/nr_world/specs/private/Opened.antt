-- The world of a drill, as its links open.
use Rattle.std.specs.Prelude.{◌≡◌, ℕ, ◌+◌, ◌<◌, []}
use Rattle.std.specs.List.{range_with_len}
use Rattle.nr_tree.specs.Tree.{Tree}
use Rattle.nr_tree.specs.Drill.{IsDrill}
use Rattle.nr_tree.specs.Sane.{IsSane}
use Rattle.nr_plain.specs.Numbered.{RepresentsTagged}
use Rattle.nr_plain.specs.Stands.{PlainServerState}
use Rattle.nr_texts.specs.declared.opening.Opening.{Opening}
use Rattle.nr_drill.specs.Drill.{Drill, start, after_opening}
use Rattle.nr_drill.specs.DrillSetup.{drill_setup, server_of}
use Rattle.nr_drill.specs.Follows.{opened_drill}
use Rattle.nr_world.specs.declared.world.World.{World}
use Rattle.nr_world.specs.Steps.{IsBeforeOpening}
use Rattle.nr_world.specs.private.Stands.{HasOpened, drill_setting}

-- the tree of a drill, which is sane
pub record IsDrillTree (tree : Tree) : Type 0 where
  pub drill : IsDrill tree
  pub sane : IsSane tree

-- the plain server of a drill, over a journal without entries
abbrev pub IsDrillServer : Opening → PlainServerState → Type 0
IsDrillServer opening kept = (tree : Tree) × IsDrillTree tree × RepresentsTagged (drill_setup tree opening) [] kept

-- A world whose first links are open, so many of them: it knows the client of each, which has its number.
pub record HasFirst (tree : Tree) (opening : Opening) (clients : ℕ) (d : Drill) (w : World) : Type 0 where
  pub opened : HasOpened tree opening (drill_setting tree opening) clients d w
  pub owners : w.owners.items ≡ range_with_len 1 clients
  pub last_links : d.last_links ≡ range_with_len 1 opening.clients

-- the world of a drill in which nothing happened yet, and one whose links are open
abbrev pub IsStarted : Opening → World → Type 0
IsStarted opening w = (tree : Tree) × IsDrillTree tree × HasFirst tree opening 0 (start (drill_setting tree opening) opening.clients) w

-- The first link of the next client opens in each drill in which it may.
abbrev pub OpensLink : (client : ℕ) → World → World → Type 0
OpensLink client old new = (tree : Tree) (opening : Opening) (n : ℕ) (d : Drill) → client ≡ n + 1 → n < opening.clients → HasFirst tree opening n d old → ((link : ℕ) → n < link → link < opening.clients + 1 → IsBeforeOpening link d) →
    HasFirst tree opening client (after_opening (drill_setting tree opening) client d) new

abbrev pub OpensAll : Opening → World → World → Type 0
OpensAll opening old new = (tree : Tree) → HasFirst tree opening 0 (start (drill_setting tree opening) opening.clients) old →
    HasFirst tree opening opening.clients (opened_drill (server_of (drill_setup tree opening)) opening) new

abbrev pub HasOpenLinks : Opening → World → Type 0
HasOpenLinks opening w = (tree : Tree) × IsDrillTree tree × HasFirst tree opening opening.clients (opened_drill (server_of (drill_setup tree opening)) opening) w
