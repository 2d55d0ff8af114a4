-- The laws of drills.
use Rattle.std.specs.Prelude.{◌≡◌, ℕ, List, ◌++◌, length}
use Rattle.nr_tree.specs.Tree.{Tree}
use Rattle.nr_tree.specs.Sane.{IsSane}
use Rattle.nr_tree.specs.Drill.{IsDrill}
use Rattle.nr_reduce.specs.declared.mark.Mark.{Mark}
use Rattle.nr_texts.specs.declared.opening.Opening.{Opening}
use Rattle.nr_script.specs.declared.script.Line.{Line}
use Rattle.nr_script.specs.Script.{ScriptLines, IsScript}
use Rattle.nr_drill.specs.declared.report.Report.{Report}
use Rattle.nr_drill.specs.Drill.{SerialServer, Setting, Drill, setting_now}
use Rattle.nr_drill.specs.Follows.{Drains, MakeAll, Follows, setting_of, last_setting, opened_drill}
use Rattle.nr_drill.specs.Drains.{AnswersCalls, AnswersInBytes}
use Rattle.nr_drill.specs.Headline.{IsDrillRun, Reports}
use Rattle.nr_drill.specs.Lines.{IsClient, HasNoRaw}
use Rattle.nr_byte_laws.specs.InBytes.{IsInBytes}
use Rattle.nr_drill.specs.InBytes.{RepliedInBytes}
use Rattle.nr_drill.specs.DrillSetup.{drill_setup, server_of}
use Rattle.nr_drill.specs.Shown.{shown, text_of, summary, sums_of}

-- marks that a script makes, over a sane first tree, each of whose replies is bytes, are the run of a drill
abbrev pub DrillsAreRuns : Type 0
DrillsAreRuns = (tree : Tree) (script : ScriptLines) (run : List Mark) → IsSane tree → IsScript script → RepliedInBytes run → Follows (server_of (drill_setup tree script.opening)) script run →
    IsDrillRun (server_of (drill_setup tree script.opening)) script run

-- two runs of a script are the same
abbrev pub OneRun : Type 0
OneRun = (server : SerialServer) (script : ScriptLines) (run other : List Mark) → Follows server script run → Follows server script other → run ≡ other

-- the plain server of a drill has a reply to each call that waits
abbrev pub PlainServersAnswer : Type 0
PlainServersAnswer = (tree : Tree) (opening : Opening) → AnswersCalls (setting_of (server_of (drill_setup tree opening)) opening)

-- over a tree in bytes it replies in bytes
abbrev pub PlainServersAnswerInBytes : Type 0
PlainServersAnswerInBytes = (tree : Tree) (opening : Opening) → IsInBytes tree → AnswersInBytes (setting_of (server_of (drill_setup tree opening)) opening)

-- the first tree of a drill is sane, and in bytes
abbrev pub DrillTreesAreSane : Type 0
DrillTreesAreSane = (tree : Tree) → IsDrill tree → IsSane tree

abbrev pub DrillTreesAreInBytes : Type 0
DrillTreesAreInBytes = (tree : Tree) → IsDrill tree → IsInBytes tree

-- over a tree in bytes each reply of a run is bytes
abbrev pub PlainRunsReplyInBytes : Type 0
PlainRunsReplyInBytes = (tree : Tree) (script : ScriptLines) (run : List Mark) → IsInBytes tree → IsScript script → Follows (server_of (drill_setup tree script.opening)) script run → RepliedInBytes run

-- Over a tree in bytes a drain ends after any of the first lines of a script, if none of these is a `raw` line.
abbrev pub PlainDrainsEnd : Type 0
PlainDrainsEnd = (tree : Tree) (script : ScriptLines) → IsInBytes tree → IsScript script →
    (before after : List Line) → script.lines ≡ before ++ after → ((client : ℕ) → IsClient script client → HasNoRaw before client) → (mid : Drill) →
    MakeAll (setting_of (server_of (drill_setup tree script.opening)) script.opening) script.opening.clients before (opened_drill (server_of (drill_setup tree script.opening)) script.opening) mid →
    (rounds : ℕ) × (new : Drill) × Drains (setting_now (setting_of (server_of (drill_setup tree script.opening)) script.opening) mid) mid.last_links rounds mid new

-- so such a script has a run
abbrev pub ScriptsHaveRuns : Type 0
ScriptsHaveRuns = (tree : Tree) (script : ScriptLines) → IsInBytes tree → IsScript script → ((client : ℕ) → IsClient script client → HasNoRaw script.lines client) →
    (run : List Mark) × Follows (server_of (drill_setup tree script.opening)) script run

-- and over the first tree of a drill it has one, which is that of a drill
abbrev pub DrillsHaveRuns : Type 0
DrillsHaveRuns = (tree : Tree) (script : ScriptLines) → IsDrill tree → IsScript script → ((client : ℕ) → IsClient script client → HasNoRaw script.lines client) →
    (run : List Mark) × IsDrillRun (server_of (drill_setup tree script.opening)) script run

-- what is printed of a run, and its sums, by its report
pub record ReportsRun (s : Setting) (links : List ℕ) (report : Report) : Type 0 where
  pub text : text_of report.calls report.links (length report.journal) ≡ shown s links report.marks
  pub sums : sums_of report.calls (length report.journal) ≡ summary s links report.marks

abbrev pub ReportsTellRuns : Type 0
ReportsTellRuns = (server : SerialServer) (script : ScriptLines) (report : Report) → (r : Reports server script report) → ReportsRun (last_setting r.drill.follows) r.drill.follows.last.last_links report
