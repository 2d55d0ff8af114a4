-- Where the script of a drill comes from, and which status is due for it.
use Rattle.std.specs.Prelude.{ℕ, ◌<◌, ◌≤◌, if◌then◌else◌, List, length, nat_lt, Result, Ok, Err}
use Rattle.nr_outside.specs.Whole.{input_max}
use Rattle.nr_texts.specs.Limits.{clients_max}
use Rattle.nr_script.specs.Limits.{calls_max}
use Rattle.nr_script.specs.Script.{ScriptLines, script_of}
use Rattle.nr_top.specs.declared.drill.ScriptSource.{ScriptSource}
use Rattle.nr_top.specs.declared.drill.ScriptSource.TheVariants as sources
use Rattle.nr_top.specs.Statuses.{done, bad_input, over_budget}

-- the numbers of clients and calls are those that a script may be made for
abbrev pub HasRanges : ScriptSource → Type 0
HasRanges sources.Input = Unit {0}
HasRanges (sources.Seed seed clients calls) = (0 < clients) × (clients ≤ clients_max) × (calls ≤ calls_max)

-- the status for a script, or for its first invalid line
abbrev pub status_of_script : Result ScriptLines ℕ → ℕ
status_of_script (Ok script) = done
status_of_script (Err line) = bad_input

-- the status that is due for this input, if memory lasts and nothing outside fails
abbrev pub due_status : ScriptSource → List ℕ → ℕ
due_status sources.Input text = if nat_lt input_max (length text) then over_budget else status_of_script (script_of text)
due_status (sources.Seed seed clients calls) text = done
