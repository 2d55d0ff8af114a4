use Rattle.nr_host.proofs.link.look_and_serve.Given as goal

abbrev pub ghosts-serve_looked : goal.ghosts-serve_looked
ghosts-serve_looked g a = record { byte = a.byte; left = g.I.Source.left a.source; given = g.I.Source.given a.source }
