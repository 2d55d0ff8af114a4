use Rattle.std.specs.List.{list_all}
use Rattle.std.proofs.Common.{◌≡◌, drop}
use Rattle.nr_tree.specs.Tree.{Tree}
use Rattle.nr_texts.specs.declared.opening.Opening.{Opening}
use Rattle.nr_drill.specs.Drill.{Drill, setting_now}
use Rattle.nr_drill.specs.Follows.{is_still}
use Rattle.nr_world.specs.private.Stands.{WorldStands, drill_setting}
use Rattle.nr_world.proofs.world.World.is_still.Given as goal

abbrev pub invariant-loop-at : goal.invariant-loop-at
invariant-loop-at l = (tree : Tree) (opening : Opening) (d : Drill) → WorldStands tree opening d l.self →
    list_all (is_still (setting_now (drill_setting tree opening) d) d) (drop l.at d.last_links) ≡ list_all (is_still (setting_now (drill_setting tree opening) d) d) d.last_links
