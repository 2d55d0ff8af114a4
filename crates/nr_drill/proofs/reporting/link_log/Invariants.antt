use Rattle.std.proofs.Common.{◌≡◌, take}
use Rattle.nr_drill.specs.Headline.{log_of}
use Rattle.nr_drill.proofs.reporting.link_log.Given as goal

abbrev pub invariant-loop-at : goal.invariant-loop-at
invariant-loop-at l = l.log ≡ log_of (take l.at l.marks) l.link
