-- What a world reports.
use Rattle.std.specs.Prelude.{◌≡◌, List}
use Rattle.nr_tree.specs.Tree.{Tree}
use Rattle.nr_texts.specs.declared.opening.Opening.{Opening}
use Rattle.nr_script.specs.Script.{ScriptLines, IsScript}
use Rattle.nr_drill.specs.declared.report.LinkEnds.{LinkEnds}
use Rattle.nr_drill.specs.declared.report.Report.{Report}
use Rattle.nr_drill.specs.Drill.{Drill, setting_now}
use Rattle.nr_drill.specs.DrillSetup.{drill_setup, server_of}
use Rattle.nr_drill.specs.Headline.{IsDrillRun, Reports}
use Rattle.nr_drill.specs.LinkEnds.{AreEnds}
use Rattle.nr_world.specs.declared.world.World.{World}
use Rattle.nr_world.specs.private.Stands.{drill_setting, WorldStands}

-- what the last links of each drill that the world stands for came to
abbrev pub AreEndsOf : World → List LinkEnds → Type 0
AreEndsOf w ends = (tree : Tree) (opening : Opening) (d : Drill) → WorldStands tree opening d w → AreEnds (setting_now (drill_setting tree opening) d) d.last_links d.marks ends

-- If a drill that the world stands for is the last one of the run of a script's drill, the report is that of the run.
abbrev pub ReportsWorld : World → Report → Type 0
ReportsWorld w report = (tree : Tree) (script : ScriptLines) (d : Drill) → WorldStands tree script.opening d w → IsScript script → (drill : IsDrillRun (server_of (drill_setup tree script.opening)) script d.marks) → drill.follows.last ≡ d →
    Reports (server_of (drill_setup tree script.opening)) script report
