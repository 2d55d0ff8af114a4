use Rattle.nr_top.proofs.serving.report_stop.Goals as goal

pub returns-in-Output : goal.returns-in-Output
returns-in-Output g c = rw c.in-Output.is c.write_error-in-Output.ensures

pub returns-in-Configuration : goal.returns-in-Configuration
returns-in-Configuration g c = rw c.in-Configuration.is c.write_error-in-Configuration.ensures
