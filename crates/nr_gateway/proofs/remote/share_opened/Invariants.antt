use Rattle.std.specs.Prelude.{None}
use Rattle.nr_shared.specs.declared.entry.Entry.TheVariants as entries
use Rattle.nr_gateway.proofs.remote.share_opened.Given as goal

abbrev pub ghosts-share_remote : goal.ghosts-share_remote
ghosts-share_remote g a = record { entry = entries.Initial (record { requester = a.requester; sink = record { link = g.K.LinkSink.link a.sink; faults = g.K.Sink.faults a.sink; taken = g.K.Sink.taken a.sink }; tries = None }) }
