use Rattle.nr_turnstile_tests.proofs.asks.Desk.answer.Given as goal

abbrev pub ghosts-note_answer : goal.ghosts-note_answer
ghosts-note_answer g a = record { number = a._n }
