-- The capture of a drill's run is read back as it.
use Rattle.std.specs.Prelude.{◌≡◌, ℕ, ◌≤◌, ◌⊎◌, List, length, Ok}
use Rattle.nr_outside.specs.Whole.{input_max}
use Rattle.nr_reduce.specs.declared.mark.Mark.{Mark}
use Rattle.nr_texts.specs.Limits.{clients_max}
use Rattle.nr_script.specs.Generator.{made_script}
use Rattle.nr_script.specs.Limits.{calls_max}
use Rattle.nr_script.specs.Script.{ScriptLines, script_of}
use Rattle.nr_capture.specs.Capture.{capture_of}
use Rattle.nr_capture.specs.Captured.{Captured, captured}
use Rattle.nr_capture.specs.Writable.{IsWritable}
use Rattle.nr_drill.specs.Drill.{SerialServer}
use Rattle.nr_drill.specs.Headline.{IsDrillRun}
use Rattle.nr_drill.specs.Lines.{IsUnnumbered}

-- a script that a text of at most this many bytes says
abbrev pub IsRead : ScriptLines → Type 0
IsRead script = (text : List ℕ) × (length text ≤ input_max) × (script_of text ≡ Ok script)

-- a script that is made from a seed, for numbers of clients and calls that are in range
abbrev pub IsMade : ScriptLines → Type 0
IsMade script = (seed : ℕ) × (clients : ℕ) × (calls : ℕ) × (1 ≤ clients) × (clients ≤ clients_max) × (calls ≤ calls_max) × (script ≡ made_script seed clients calls)

-- If its clients have no numbers, the capture can be written: its numbers are words, its bytes are bytes, its credentials are those of a drill, each
-- mark is of a link of the first line. A capture has no lines for further links of a client.
abbrev pub RunsAreWritable : Type 0
RunsAreWritable = (server : SerialServer) (script : ScriptLines) (run : List Mark) → IsRead script ⊎ IsMade script → IsUnnumbered script → IsDrillRun server script run →
    IsWritable (captured script.opening run)

-- what its text says is the capture
abbrev pub RunsAreReadBack : Type 0
RunsAreReadBack = (server : SerialServer) (script : ScriptLines) (run : List Mark) → IsRead script ⊎ IsMade script → IsUnnumbered script → IsDrillRun server script run →
    capture_of (Captured script.opening run) ≡ Ok (captured script.opening run)
