-- How a drill ends, and what its status says. Clauses about bytes apply only if the bytes are known;
-- fault counts are always known.
use Rattle.std.specs.Prelude.{◌≡◌, ◌≢◌, Bool, true, false, ℕ, ◌<◌, ◌⊎◌, List, ◌++◌, length, codes, Some, IfSome, Ok, Err}
use Rattle.std.specs.Fmt.{decimal}
use Rattle.nr_outside.specs.Faults.{Rises}
use Rattle.nr_outside.specs.Streams.{SourceAt, SinkAt, ReadsAll, ReadsWithin, ReadsBeyond, Writes, WritesNone, WritesSome}
use Rattle.nr_reduce.specs.declared.mark.Mark.{Mark}
use Rattle.nr_tree.specs.Tree.{Tree}
use Rattle.nr_tree.specs.Drill.{IsDrill}
use Rattle.nr_outside.specs.Whole.{input_max}
use Rattle.nr_script.specs.Script.{ScriptLines, script_of}
use Rattle.nr_capture.specs.Captured.{Captured}
use Rattle.nr_drill.specs.DrillSetup.{drill_setup, server_of}
use Rattle.nr_drill.specs.Follows.{last_setting}
use Rattle.nr_drill.specs.Headline.{IsDrillRun}
use Rattle.nr_drill.specs.Shown.{shown, summary}
use Rattle.nr_top.specs.Statuses as statuses
use Rattle.nr_script.specs.Generator.{made_script}
use Rattle.nr_top.specs.declared.drill.ScriptSource.{ScriptSource}
use Rattle.nr_top.specs.declared.drill.ScriptSource.TheVariants as sources
use Rattle.nr_top.specs.Sources.{due_status}

-- a run of the script over the tree of a drill, which keeps the promise of a drill
pub record IsRunOf (tree : Tree) (script : ScriptLines) (run : List Mark) : Type 0 where
  pub first : IsDrill tree
  pub keeps : IsDrillRun (server_of (drill_setup tree script.opening)) script run

-- What a drill prints of a run of a script: with `log` the capture of the run; without it what is shown of the run, or, of a script that was
-- made from a seed, the line of sums. The links that are shown are the last ones of the clients.
abbrev pub printed : (log : Bool) → ScriptSource → (tree : Tree) (script : ScriptLines) (run : List Mark) → IsRunOf tree script run → List ℕ
printed true source tree script run drill = Captured script.opening run
printed false sources.Input tree script run drill = shown (last_setting drill.keeps.follows) drill.keeps.follows.last.last_links run
printed false (sources.Seed seed clients calls) tree script run drill = summary (last_setting drill.keeps.follows) drill.keeps.follows.last.last_links run

-- the input was read, and it says this script
pub record ReadsScript (input input' : SourceAt) (script : ScriptLines) : Type 0 where
  pub text : List ℕ
  pub whole : ReadsAll input_max input input' text
  pub reads : script_of text ≡ Ok script

-- the script that was run, and what was read for it
abbrev pub IsGiven : ScriptSource → SourceAt → SourceAt → ScriptLines → Type 0
IsGiven sources.Input input input' script = ReadsScript input input' script
IsGiven (sources.Seed seed clients calls) input input' script = (input' ≡ input) × (script ≡ made_script seed clients calls)

-- a script was read or made, and run
pub record Ran (source : ScriptSource) (input input' : SourceAt) : Type 0 where
  pub script : ScriptLines
  pub tree : Tree
  pub run : List Mark
  pub given : IsGiven source input input' script
  pub drill : IsRunOf tree script run

-- and what is printed of the run was written
pub record Done (log : Bool) (source : ScriptSource) (input input' : SourceAt) (out out' : SinkAt) : Type 0 where
  pub ran : Ran source input input'
  pub prints : Writes out out' (printed log source ran.tree ran.script ran.run ran.drill)

-- and a proper prefix of that was written
pub record PrintsSome (log : Bool) (source : ScriptSource) (input input' : SourceAt) (out out' : SinkAt) : Type 0 where
  pub ran : Ran source input input'
  pub cut : WritesSome out out' (printed log source ran.tree ran.script ran.run ran.drill)

-- the input is no script: this is the number of its first invalid line
pub record BadLine (number : ℕ) (source : ScriptSource) (input input' : SourceAt) : Type 0 where
  pub from_input : source ≡ sources.Input
  pub text : List ℕ
  pub whole : ReadsAll input_max input input' text
  pub bad : script_of text ≡ Err number

-- the input is too long
pub record TooLong (source : ScriptSource) (input : SourceAt) : Type 0 where
  pub from_input : source ≡ sources.Input
  pub long : IfSome input.left (λ left. input_max < length left)

-- why a drill isn't done: memory ran out, the input or the output failed, a line of the script is invalid, or the input is
-- too long
pub data Cause : Type 0 where
  NoMemory : Cause
  InputFault : Cause
  OutputFault : Cause
  BadScript : (line : ℕ) → Cause
  OverBudget : Cause

-- what was read if memory ran out: nothing for a script that is made from a seed
abbrev pub ReadsFor : ScriptSource → SourceAt → SourceAt → Type 0
ReadsFor sources.Input input input' = ReadsWithin input_max input input' × (input'.faults ≡ input.faults)
ReadsFor (sources.Seed seed clients calls) input input' = input' ≡ input

-- what holds if a drill wasn't done, by the cause
abbrev pub Stopped : (log : Bool) → Cause → ScriptSource → SourceAt → SourceAt → SinkAt → SinkAt → Type 0
Stopped log NoMemory source input input' out out' = ReadsFor source input input' × WritesNone out out'
Stopped log InputFault source input input' out out' = (source ≡ sources.Input) × ReadsWithin input_max input input' × Rises input.faults input'.faults × WritesNone out out'
Stopped log OutputFault source input input' out out' = PrintsSome log source input input' out out'
Stopped log (BadScript number) source input input' out out' = BadLine number source input input' × WritesNone out out'
Stopped log OverBudget source input input' out out' = TooLong source input × ReadsBeyond input_max input input' × (input'.faults ≡ input.faults) × WritesNone out out'

-- the texts for memory that ran out, for an input that is too long, and for an invalid line
abbrev pub memory_text : List ℕ
memory_text = codes "memory\n"

-- (the number is input_max in decimal digits: a literal text needs no memory)
abbrev pub budget_text : List ℕ
budget_text = codes "budget 16777216\n"

unfoldable pub bad_line_text : ℕ → List ℕ
bad_line_text number = codes "bad line " ++ decimal number ++ codes "\n"

-- this was written with this status; or only a proper prefix of it was written, with the status of a fault
abbrev pub Reported : ℕ → List ℕ → ℕ → SinkAt → SinkAt → Type 0
Reported due text status err err' = ((status ≡ due) × Writes err err' text) ⊎ ((status ≡ statuses.fault) × WritesSome err err' text)

-- what is so if the input was read and gave no script
abbrev pub StoppedReading : Cause → SourceAt → SourceAt → Type 0
StoppedReading NoMemory input input' = ReadsWithin input_max input input' × (input'.faults ≡ input.faults)
StoppedReading InputFault input input' = ReadsWithin input_max input input' × Rises input.faults input'.faults
StoppedReading OutputFault input input' = ⊥
StoppedReading (BadScript number) input input' = (text : List ℕ) × ReadsAll input_max input input' text × (script_of text ≡ Err number)
StoppedReading OverBudget input input' =
    IfSome input.left (λ left. input_max < length left) × ReadsBeyond input_max input input' × (input'.faults ≡ input.faults)

-- the text is what is printed of a run of the script that keeps the promise of a drill
abbrev pub IsPrinted : (log : Bool) → ScriptSource → ScriptLines → List ℕ → Type 0
IsPrinted log source script text = (tree : Tree) × (run : List Mark) × (drill : IsRunOf tree script run) × (text ≡ printed log source tree script run drill)

-- a script was read or made, and this is printed of a run of it
pub record Shown (log : Bool) (source : ScriptSource) (input input' : SourceAt) (text : List ℕ) : Type 0 where
  pub script : ScriptLines
  pub given : IsGiven source input input' script
  pub prints : IsPrinted log source script text

-- no script was had, or memory ran out when it was run
abbrev pub StoppedBefore : ScriptSource → Cause → SourceAt → SourceAt → Type 0
StoppedBefore sources.Input cause input input' = StoppedReading cause input input'
StoppedBefore (sources.Seed seed clients calls) cause input input' = (cause ≡ NoMemory) × (input' ≡ input)

-- What is written for a cause. The text with the number of a line needs memory; if there is none, that is written.
abbrev pub ReportsFailure : Cause → ℕ → SinkAt → SinkAt → Type 0
ReportsFailure NoMemory status err err' = Reported statuses.no_memory memory_text status err err'
ReportsFailure InputFault status err err' = Reported statuses.fault (codes "input fault\n") status err err'
ReportsFailure OutputFault status err err' = Reported statuses.fault (codes "output fault\n") status err err'
ReportsFailure (BadScript number) status err err' = Reported statuses.bad_input (bad_line_text number) status err err' ⊎ Reported statuses.no_memory memory_text status err err'
ReportsFailure OverBudget status err err' = Reported statuses.over_budget budget_text status err err'

-- Why the drill wasn't done, if a fault count rose, and what was written for it: for a fault of the input or of
-- the output the complete text, or a proper prefix, if err failed too; for another cause a proper prefix.
abbrev pub FaultReport : (log : Bool) → ScriptSource → SourceAt → SourceAt → SinkAt → SinkAt → SinkAt → SinkAt → Type 0
FaultReport log source input input' out out' err err' = (cause : Cause) × Stopped log cause source input input' out out' × ReportsFailure cause statuses.fault err err'

-- What the status of a drill says.
pub record Ends (log : Bool) (source : ScriptSource) (status : ℕ) (input input' : SourceAt) (out out' err err' : SinkAt) : Type 0 where
  -- it is one of these
  pub known : statuses.IsStatus status
  -- the script was run, the run keeps the promise, and what is due of it was printed
  pub done : status ≡ statuses.done → Done log source input input' out out' × WritesNone err err'
  -- memory ran out
  pub memory : status ≡ statuses.no_memory → Stopped log NoMemory source input input' out out' × Writes err err' memory_text
  -- the number of the first invalid line
  pub script : status ≡ statuses.bad_input → (number : ℕ) × Stopped log (BadScript number) source input input' out out' × Writes err err' (bad_line_text number)
  -- the input is longer than a script may be
  pub budget : status ≡ statuses.over_budget → Stopped log OverBudget source input input' out out' × Writes err err' budget_text
  -- a fault count rose
  pub fault : status ≡ statuses.fault → FaultReport log source input input' out out' err err'
  -- with any other status no fault count rose
  pub unfailing : status ≢ statuses.fault → (input'.faults ≡ input.faults) × (out'.faults ≡ out.faults) × (err'.faults ≡ err.faults)
  -- the status is the one that is due for the input, unless memory ran out or a fault count rose
  pub due : (text : List ℕ) → input.left ≡ Some text → (status ≡ due_status source text) ⊎ ((status ≡ statuses.no_memory) ⊎ (status ≡ statuses.fault))
