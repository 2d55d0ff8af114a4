use Rattle.std.proofs.Common.{◌≡◌, IfOk, subst}
use Rattle.nr_texts.specs.declared.opening.Opening.{Opening}
use Rattle.nr_top.specs.private.ReportTexts.{report_text}
use Rattle.nr_top.proofs.Endings.{printed_text}
use Rattle.nr_top.proofs.drill.run_script.Goals as goal

pub returns : goal.returns
returns c =
    let report = c.in_ok-report.report in
    let text = subst (λ (o : Opening). IfOk c.text_of_report.result (λ t. t ≡ report_text c.args.log c.args.source o report)) c.opening.ensures.is c.text_of_report.ensures in
    printed_text c.text_of_report.result c.args.log c.args.source c.args.script.now report c.in_ok-report.ensures text
