use Rattle.nr_commands.proofs.numbered.run_numbered.Given as goal

-- the name of the borrow
abbrev pub ghosts-run_lent : goal.ghosts-run_lent
ghosts-run_lent g a = record { name = a.dial.ghost_name }
