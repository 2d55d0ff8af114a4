-- What the server of a drill is opened with, the server as contracts of a drill see it, and what running a script gives.
use Rattle.std.specs.Prelude.{ℕ, length, codes}
use Rattle.nr_tree.specs.Tree.{Tree}
use Rattle.nr_tree.specs.Drill.{IsDrill}
use Rattle.nr_plain.specs.Setup.{Setup}
use Rattle.nr_plain.specs.Replies.{plain_reply}
use Rattle.nr_plain.specs.Added.{entries_of_call}
use Rattle.nr_texts.specs.declared.opening.Opening.{Opening}
use Rattle.nr_drill.specs.declared.report.Report.{Report}
use Rattle.nr_script.specs.Script.{ScriptLines}
use Rattle.nr_drill.specs.Drill.{SerialServer}
use Rattle.nr_drill.specs.Headline.{Reports}

-- the write verifier of a drill, and the path that may be mounted
abbrev pub drill_verifier : ℕ
drill_verifier = 1

-- the first tree is that of a drill (nr_tree Drill); the capacity is that of the first line
abbrev pub drill_setup : Tree → Opening → Setup
drill_setup tree opening = record { tree = tree; parameters = record { capacity = opening.capacity; verifier = record { number = drill_verifier }; export = codes "/" } }

-- a server that was opened with a setup: its reply over a journal, at the journal's end
abbrev pub server_of : Setup → SerialServer
server_of setup = record { reply_to = λ J moment payload. plain_reply setup J (length J) moment payload; adds = entries_of_call }

-- What running a script gives: the report of a drill over the tree of a drill, and the plain server of the first line's capacity.
abbrev pub GivesReport : ScriptLines → Report → Type 0
GivesReport script report = (tree : Tree) × IsDrill tree × Reports (server_of (drill_setup tree script.opening)) script report
