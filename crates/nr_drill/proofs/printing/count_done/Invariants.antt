use Rattle.std.proofs.Common.{◌≡◌, ◌≤◌, take}
use Rattle.std.specs.Prelude.{count_by}
use Rattle.nr_drill.specs.declared.report.CallReport.{CallReport}
use Rattle.nr_drill.specs.Shown.{is_done}
use Rattle.nr_drill.proofs.printing.count_done.Given as goal

abbrev pub invariant-loop-report : goal.invariant-loop-report
invariant-loop-report l = (l.count ≡ count_by (λ (r : CallReport). is_done r.state) (take l.report-index l.calls)) × (l.count ≤ l.report-index)
