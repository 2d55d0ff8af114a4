use Rattle.nr_turnstile_tests.proofs.additions.append.Given as goal

abbrev pub ghosts-note : goal.ghosts-note
ghosts-note g a = record { number = a._x }
