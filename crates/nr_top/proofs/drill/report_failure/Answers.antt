use Rattle.nr_top.proofs.drill.report_failure.Goals as goal

pub returns-in-Output : goal.returns-in-Output
returns-in-Output g c = rw c.in-Output.is c.write_error-in-Output.ensures
