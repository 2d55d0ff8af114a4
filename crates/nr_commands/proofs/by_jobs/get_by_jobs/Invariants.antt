use Rattle.nr_commands.proofs.by_jobs.get_by_jobs.Given as goal

-- the number of the next link
abbrev pub ghosts-get_at : goal.ghosts-get_at
ghosts-get_at g a = record { number = g.D.Dialer.next a.dial.now }
