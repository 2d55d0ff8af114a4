use Rattle.nr_commands.proofs.run.run_command.Given as goal

-- the number of the next link
abbrev pub ghosts-run_at : goal.ghosts-run_at
ghosts-run_at g a = record { number = g.D.Dialer.next a.dial.now }
