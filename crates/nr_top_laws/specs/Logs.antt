-- What a drill with `--log` prints is read back.
use Rattle.std.specs.Prelude.{◌≡◌, ℕ, true, List, Ok}
use Rattle.nr_outside.specs.Streams.{SinkAt, Writes}
use Rattle.nr_reduce.specs.declared.mark.Mark.{Mark}
use Rattle.nr_tree.specs.Tree.{Tree}
use Rattle.nr_script.specs.Generator.{made_script}
use Rattle.nr_script.specs.Script.{ScriptLines}
use Rattle.nr_capture.specs.Capture.{capture_of}
use Rattle.nr_capture.specs.Captured.{Captured, captured}
use Rattle.nr_drill.specs.Lines.{IsUnnumbered}
use Rattle.nr_words.specs.Reads.{is_command}
use Rattle.nr_words.specs.declared.commands.Command.TheVariants as commands
use Rattle.nr_top.specs.Ends.{IsRunOf, ReadsScript}
use Rattle.nr_top.specs.RunEnds.{CommandEnds, Outside}
use Rattle.nr_top.specs.Statuses as statuses

-- A script like this was run, and the output took the text of the capture of the run.
pub record PrintsCapture (IsGiven : ScriptLines → Type 0) (out out' : SinkAt) : Type 0 where
  pub script : ScriptLines
  pub tree : Tree
  pub run : List Mark
  pub given : IsGiven script
  pub drill : IsRunOf tree script run
  pub prints : Writes out out' (Captured script.opening run)

-- the text of the capture of a run of this script says that capture
abbrev pub IsReadBack : ScriptLines → List Mark → Type 0
IsReadBack script run = capture_of (Captured script.opening run) ≡ Ok (captured script.opening run)

-- `O` and `C` are the types of the sink of the dialer's links, and of the rule on the calls of a gateway (nr_top `CommandEnds`).

-- of a script that was read: it is read back if its clients have no numbers, since a capture has no lines for further links of a client
abbrev pub ReadLogs : (O C : Type 0) → Type 0
ReadLogs O C = (status : ℕ) (before after : Outside) → CommandEnds O C (commands.Drill true) status before after → status ≡ statuses.done →
    (p : PrintsCapture (ReadsScript before.input after.input) before.out after.out) × (IsUnnumbered p.script → IsReadBack p.script p.run)

-- of a script that was made from a seed, by a command that a line can ask for
abbrev pub MadeLogs : (O C : Type 0) → Type 0
MadeLogs O C = (seed clients calls status : ℕ) (before after : Outside) → is_command (commands.GeneratedDrill seed clients calls true) ≡ true →
    CommandEnds O C (commands.GeneratedDrill seed clients calls true) status before after → status ≡ statuses.done →
    (p : PrintsCapture (λ script. script ≡ made_script seed clients calls) before.out after.out) × IsReadBack p.script p.run
