use Rattle.nr_plain.proofs.Fits.{any_ok, rename_results_fit}
use Rattle.nr_plain.proofs.changing.RenameArgsChanging.execute.Goals as goal

pub returns-clause-fits : goal.returns-clause-fits
returns-clause-fits c = any_ok c.rename.result rename_results_fit
