use Rattle.nr_shared.proofs.requester_with_sink.RequesterWithSink.drain.Given as goal

abbrev pub ghosts-drain_numbered : goal.ghosts-drain_numbered
ghosts-drain_numbered g a = record { number = g.O.LinkSink.link a.sink }
