-- The text that is printed of a report of a drill.
use Rattle.std.specs.Prelude.{Bool, true, false, ℕ, List, length}
use Rattle.nr_texts.specs.declared.opening.Opening.{Opening}
use Rattle.nr_capture.specs.Captured.{Captured}
use Rattle.nr_drill.specs.declared.report.Report.{Report}
use Rattle.nr_drill.specs.Shown.{sums_of, text_of}
use Rattle.nr_top.specs.declared.drill.ScriptSource.{ScriptSource}
use Rattle.nr_top.specs.declared.drill.ScriptSource.TheVariants as sources

-- with `log` the capture of its marks, by the first line of its script; without it what its calls and links say, or their sums
abbrev pub report_text : (log : Bool) → ScriptSource → Opening → Report → List ℕ
report_text true source opening report = Captured opening report.marks
report_text false sources.Input opening report = text_of report.calls report.links (length report.journal)
report_text false (sources.Seed seed clients calls) opening report = sums_of report.calls (length report.journal)
