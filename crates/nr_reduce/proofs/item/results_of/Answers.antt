use Rattle.std.proofs.Common.{sym, ap, ◌∙◌}
use Rattle.nr_reduce.specs.Items.{results_of}
use Rattle.nr_reduce.proofs.Places.{no_results}
use Rattle.nr_reduce.proofs.item.results_of.Goals as goal

pub returns-in-Ok : goal.returns-in-Ok
returns-in-Ok c = c.results_at.ensures ∙ ap results_of (sym c.in-Ok.ensures.exact)

pub returns-in-Err : goal.returns-in-Err
returns-in-Err c = no_results _ _ c.in-Err.ensures.exact
