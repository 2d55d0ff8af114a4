use Rattle.std.proofs.Common.{◌≡◌, ◌≤◌, ◌*◌, take}
use Rattle.std.specs.Prelude.{sum_by}
use Rattle.nr_drill.specs.declared.report.CallReport.{CallReport}
use Rattle.nr_drill.specs.Shown.{reply_bytes}
use Rattle.nr_drill.proofs.printing.reply_sum.Given as goal

abbrev pub invariant-loop-report : goal.invariant-loop-report
invariant-loop-report l = (l.sum ≡ sum_by (λ (r : CallReport). reply_bytes r.state) (take l.report-index l.calls)) × (l.sum ≤ l.report-index * 18446744073709551616)
