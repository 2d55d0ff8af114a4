use Rattle.std.specs.Prelude.{None}
use Rattle.nr_shared.specs.declared.entry.Entry.TheVariants as entries
use Rattle.nr_bench.proofs.shared.read_over.Given as goal

abbrev pub ghosts-share : goal.ghosts-share
ghosts-share g a = record { entry = entries.Initial (record { requester = a.requester; sink = record { link = g.O.LinkSink.link a.sink; faults = g.O.Sink.faults a.sink; taken = g.O.Sink.taken a.sink }; tries = None }) }
