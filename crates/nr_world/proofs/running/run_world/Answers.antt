use Rattle.std.proofs.Common.{◌≤◌, sym, subst}
use Rattle.nr_texts.specs.declared.opening.Opening.{Opening}
use Rattle.nr_texts.specs.Limits.{capacity_max}
use Rattle.nr_world.proofs.Scripts.{lines_fit_as, runs_script_as, few_links_as}
use Rattle.nr_world.proofs.Stands.{if_ok}
use Rattle.nr_world.proofs.running.run_world.Goals as goal

pub open-requires : goal.open-requires
open-requires c = subst (λ (o : Opening). o.capacity ≤ capacity_max) (sym c.opening-opening.ensures.is) c.opening-opening.ensures.script.capacity

pub all_lines-requires : goal.all_lines-requires
all_lines-requires c = lines_fit_as c.args.script.now c.opening-opening.result c.lines.result.now c.in_ok-world.world c.opening-opening.ensures.is c.lines.ensures c.opening-opening.ensures.script c.in_ok-world.ensures

pub report-requires : goal.report-requires
report-requires c = few_links_as c.args.script.now c.opening-opening.result c.lines.result.now c.in_ok-world.world c.all_lines.new.self c.opening-opening.ensures.is c.lines.ensures c.opening-opening.ensures.script c.in_ok-world.ensures c.in-Ok.ensures

pub returns-in-Ok : goal.returns-in-Ok
returns-in-Ok c = if_ok c.report.result _ _ c.report.ensures (λ report told. runs_script_as c.args.script.now c.opening-opening.result c.lines.result.now c.in_ok-world.world c.all_lines.new.self report c.opening-opening.ensures.is c.lines.ensures c.opening-opening.ensures.script c.in_ok-world.ensures c.in-Ok.ensures told)
