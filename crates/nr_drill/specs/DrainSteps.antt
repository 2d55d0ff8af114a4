-- The steps of the drains of a script, and that each that moves something leaves less work.
use Rattle.std.specs.Prelude.{◌≡◌, ◌≢◌, ℕ, zero, suc, ◌<◌, false, List, [], ◌∷◌, ◌++◌, length}
use Rattle.std.specs.List.{list_all}
use Rattle.nr_reduce.specs.Run.{server}
use Rattle.nr_script.specs.declared.script.Line.{Line}
use Rattle.nr_script.specs.declared.script.Line.TheVariants as lines
use Rattle.nr_script.specs.Script.{ScriptLines}
use Rattle.nr_drill.specs.Drill.{SerialServer, Setting, Drill, pipes_of, after_all_up, after_calls, after_all_work, after_work, after_round, client_of, setting_now}
use Rattle.nr_drill.specs.Follows.{is_still, MakeAll, setting_of, opened_drill}
use Rattle.nr_drill.specs.Lines.{HasNoRaw}
use Rattle.nr_drill.specs.WorkLeft.{DrainStep, after_step, work_left, IsLess}
use Rattle.nr_drill.specs.WorkLeft.DrainStep.{AllUp, Work, AllDown}

-- a step moves bytes that wait, or a call is executed
abbrev pub Moves : Setting → ℕ → DrainStep → Drill → Type 0
Moves s link AllUp d = (pipes_of link d).up ≢ []
Moves s link Work d = (after_work s link d).marks ≢ d.marks
Moves s link AllDown d = (pipes_of link d).down ≢ []

-- this number of rounds, before each of which something moves on a link
abbrev pub MakesRounds : Setting → List ℕ → ℕ → Drill → Drill → Type 0
MakesRounds s links zero old new = new ≡ old
MakesRounds s links (suc rounds) old new = (list_all (is_still s old) links ≡ false) × MakesRounds s links rounds (after_round s links old) new

-- The drill before a step of a link in a round, by the drill before the first of them: all up, the complete calls one by one, all down.
abbrev pub IsBeforeStep : Setting → ℕ → Drill → DrainStep → Drill → Type 0
IsBeforeStep s link first AllUp d = d ≡ first
IsBeforeStep s link first Work d =
    (calls : ℕ) × (calls < length (server (s.opened link) link (after_all_up s link first).marks).state.ready) × (d ≡ after_calls s link calls (after_all_up s link first))
IsBeforeStep s link first AllDown d = d ≡ after_all_work s link (after_all_up s link first)

-- A step of a link in a drain of a script, and the drill before it: the lines before the drain are made, then some rounds of the drain, and
-- then, since something still moves, the turns of the links before this one in the next round.
pub record IsDrainStep (server : SerialServer) (script : ScriptLines) (link : ℕ) (step : DrainStep) (d : Drill) : Type 0 where
  pub before : List Line
  pub after : List Line
  pub is_cut : script.lines ≡ before ++ lines.Drain ∷ after
  pub old : Drill
  pub made : MakeAll (setting_of server script.opening) script.opening.clients before (opened_drill server script.opening) old
  pub rounds : ℕ
  pub round : Drill
  pub makes_rounds : MakesRounds (setting_now (setting_of server script.opening) old) old.last_links rounds old round
  pub moves : list_all (is_still (setting_now (setting_of server script.opening) old) round) old.last_links ≡ false
  pub earlier : List ℕ
  pub later : List ℕ
  pub is_turn : old.last_links ≡ earlier ++ link ∷ later
  pub is_before : IsBeforeStep (setting_now (setting_of server script.opening) old) link (after_round (setting_now (setting_of server script.opening) old) earlier round) step d

-- what the links of the drain were opened with
abbrev pub setting_then : {server : SerialServer} {script : ScriptLines} {link : ℕ} {step : DrainStep} {d : Drill} → IsDrainStep server script link step d → Setting
setting_then {server = server} {script = script} x = setting_now (setting_of server script.opening) x.old

-- Each step of the link in a drain of the script leaves less work, if it moves something, and no line before the drain is a `raw` line of the link's
-- client.
abbrev pub DrainStepsLeaveLess : SerialServer → ScriptLines → ℕ → Type 0
DrainStepsLeaveLess server script link = (step : DrainStep) (d : Drill) → (x : IsDrainStep server script link step d) → HasNoRaw x.before (client_of (setting_then x) link) → Moves (setting_then x) link step d →
    IsLess (work_left (setting_then x) (after_step (setting_then x) link step d) link) (work_left (setting_then x) d link)
