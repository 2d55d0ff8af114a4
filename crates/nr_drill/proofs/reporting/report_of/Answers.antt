use Rattle.nr_drill.specs.declared.report.Report.{Report}
use Rattle.nr_drill.proofs.TellingMarks.{parts_tell}
use Rattle.nr_drill.proofs.reporting.report_of.Goals as goal

pub returns-in-Ok-report_parts-clause-reports : goal.returns-in-Ok-report_parts-clause-reports
returns-in-Ok-report_parts-clause-reports c =
    let report : Report = record { marks = c.in-Ok.marks; journal = c.from_vec.result; calls = c.from_vec-in-Ok-report_parts.result; links = c.from_vec-in-Ok-report_parts-2.result } in
    parts_tell c.in-Ok.marks c.args.marks c.args.clients.now c.args.ends.now report _ _ _ c.in-Ok.ensures c.in-Ok.ensures c.from_vec-in-Ok-report_parts.ensures c.from_vec.ensures c.from_vec-in-Ok-report_parts-2.ensures
    c.in-Ok-report_parts.ensures.calls c.in-Ok-report_parts.ensures.links
