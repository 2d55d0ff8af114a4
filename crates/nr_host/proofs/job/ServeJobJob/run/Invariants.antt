use Rattle.nr_host.proofs.job.ServeJobJob.run.Given as goal

abbrev pub ghosts-serve_numbered : goal.ghosts-serve_numbered
ghosts-serve_numbered g a = record { number = g.I.LinkSource.link a.source }
