-- The clients of links and what their last links came to, by the marks of a run, and a report that is made of that.
use Rattle.std.specs.Prelude.{◌≡◌, ℕ, List, length, map}
use Rattle.nr_wire.specs.declared.hello.Side.TheVariants.{Initiator, Responder}
use Rattle.nr_reduce.specs.declared.mark.Mark.{Mark}
use Rattle.nr_reduce.specs.History.{is_dropped}
use Rattle.nr_reduce.specs.Run.{end_of_side}
use Rattle.nr_plain.specs.Added.{entries_of_call}
use Rattle.nr_script.specs.Script.{ScriptLines, IsScript}
use Rattle.nr_drill.specs.declared.report.LinkEnds.{LinkEnds}
use Rattle.nr_drill.specs.declared.report.Report.{Report}
use Rattle.nr_drill.specs.Drill.{SerialServer, Setting, Drill, client_of, links_of}
use Rattle.nr_drill.specs.Follows.{last_setting}
use Rattle.nr_drill.specs.Headline.{IsDrillRun, Reports}

abbrev pub ends_of : Setting → List Mark → ℕ → LinkEnds
ends_of s run link = record {
  client = end_of_side (s.opened link) link Initiator run;
  server = end_of_side (s.opened link) link Responder run;
  dropped = is_dropped link run;
}

-- what these links came to, in order
abbrev pub AreEnds : Setting → List ℕ → List Mark → List LinkEnds → Type 0
AreEnds s links run ends = ends ≡ map (ends_of s run) links

-- the client of each link of a drill, in order
abbrev pub AreClients : Setting → Drill → List ℕ → Type 0
AreClients s last clients = clients ≡ map (client_of s) (links_of (length last.opened))

-- Whatever the script, and whatever the server replies: if it adds to the journal what a plain server adds, and if the marks are the run of a drill
-- whose links are of these clients, and whose clients' last links came to these ends, then the report is that of the run.
abbrev pub ReportsRuns : List Mark → List ℕ → List LinkEnds → Report → Type 0
ReportsRuns run clients ends report = (server : SerialServer) (script : ScriptLines) → IsScript script → (drill : IsDrillRun server script run) → server.adds ≡ entries_of_call →
    AreClients (last_setting drill.follows) drill.follows.last clients → AreEnds (last_setting drill.follows) drill.follows.last.last_links run ends → Reports server script report
