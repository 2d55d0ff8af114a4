-- What each step of reading a script gives.
use Rattle.std.specs.Prelude.{◌≡◌, ℕ, ◌+◌, ◌≤◌, List, [], length, Option, None, Some, Result, Ok, Err}
use Rattle.std.specs.Borrow.{Bor}
use Rattle.nr_texts.specs.declared.opening.Opening.{Opening}
use Rattle.nr_script.specs.declared.script.ScriptFault.{ScriptFault}
use Rattle.nr_script.specs.declared.script.ScriptFault.TheVariants as faults
use Rattle.nr_texts.specs.Limits.{clients_max}
use Rattle.nr_texts.specs.Words.{parts, newline}
use Rattle.nr_script.specs.Script.{ScriptLines, script_from, script_of}

-- a script after its first line
abbrev pub opened : Opening → ScriptLines
opened opening = record { opening = opening; lines = [] }

-- what is read so far, after a line before which nothing was read
abbrev pub with_opening : Option (Option Opening) → Option (Option ScriptLines)
with_opening None = None
with_opening (Some None) = Some None
with_opening (Some (Some opening)) = Some (Some (opened opening))

-- what a text says is what follows the first line, from the line of this number on
pub record IsOpened (text : List ℕ) (opening : Opening) (number : ℕ) (rest : List ℕ) : Type 0 where
  pub says : script_of text ≡ script_from number (Some (opened opening)) (parts newline rest)
  pub few_clients : opening.clients ≤ clients_max
  pub short : number + length rest ≤ length text + 1

abbrev pub GivesOpening : List ℕ → Result (Opening × ℕ × Bor (List ℕ)) ScriptFault → Type 0
GivesOpening text (Ok found) = IsOpened text found.0 found.1 found.2.now
GivesOpening text (Err (faults.BadLine line)) = script_of text ≡ Err line
GivesOpening text (Err faults.Memory) = Unit {0}

abbrev pub GivesLines : Result (Unit {0}) ScriptFault → ScriptLines → Result ScriptLines ℕ → Type 0
GivesLines (Ok done) script read = read ≡ Ok script
GivesLines (Err (faults.BadLine line)) script read = read ≡ Err line
GivesLines (Err faults.Memory) script read = Unit {0}
