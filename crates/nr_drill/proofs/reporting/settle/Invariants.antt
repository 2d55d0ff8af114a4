use Rattle.std.proofs.Common.{◌≡◌, ◌++◌, take, drop, map}
use Rattle.nr_drill.specs.private.Drafts.{at_last_by}
use Rattle.nr_drill.proofs.reporting.settle.Given as goal

abbrev pub invariant-loop-report : goal.invariant-loop-report
invariant-loop-report l = l.calls ≡ map (at_last_by l.ends) (take l.report-index l.initial.calls) ++ drop l.report-index l.initial.calls
