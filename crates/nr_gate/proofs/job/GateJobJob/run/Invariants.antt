use Rattle.nr_gate.proofs.job.GateJobJob.run.Given as goal

abbrev pub ghosts-gate_numbered : goal.ghosts-gate_numbered
ghosts-gate_numbered g a = record { number = g.I.LinkSource.link a.source }
