use Rattle.std.proofs.Common.{◌≡◌, ◌+◌, ◌++◌, drop}
use Rattle.nr_drill.specs.private.Drafts.{link_reports_from}
use Rattle.nr_drill.proofs.reporting.link_reports.Given as goal

abbrev pub invariant-loop-i : goal.invariant-loop-i
invariant-loop-i l = l.reports.items ++ link_reports_from (l.i + 1) (drop l.i l.ends) ≡ link_reports_from 1 l.ends
