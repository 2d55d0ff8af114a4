use Rattle.nr_plain.proofs.Fits.{any_ok, link_results_fit}
use Rattle.nr_plain.proofs.changing.LinkArgsChanging.execute.Goals as goal

pub returns-clause-fits : goal.returns-clause-fits
returns-clause-fits c = any_ok c.link.result link_results_fit
