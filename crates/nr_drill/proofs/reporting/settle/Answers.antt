use Rattle.std.proofs.Common.{◌∙◌, ap, sym}
use Rattle.nr_drill.specs.private.Drafts.{at_last_by}
use Rattle.nr_drill.proofs.TellingMarks.{settled_more}
use Rattle.nr_drill.proofs.reporting.settle.Goals as goal

pub loop-report-preserved : goal.loop-report-preserved
loop-report-preserved c =
    settled_more (at_last_by c.args.ends.now) c.args.calls.now c.loop-report.calls c.loop-report.report-index c.report-item.result c.settle_one.new.report c.loop-report-test.true
    c.loop-report.invariant c.report-item.is (c.settle_one.ensures ∙ ap (at_last_by c.args.ends.now) (sym c.report-item.is))
