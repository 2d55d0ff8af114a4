use Rattle.std.proofs.Common.{Some}
use Rattle.nr_shared.specs.declared.entry.Entry.TheVariants as entries
use Rattle.nr_shared.proofs.shared.SharedRequester.new_numbered.Given as goal

abbrev pub ghosts-share_dialled : goal.ghosts-share_dialled
ghosts-share_dialled g a = record { entry = entries.Initial (record { requester = a.requester; sink = record { link = g.O.LinkSink.link a.sink; faults = g.O.Sink.faults a.sink; taken = g.O.Sink.taken a.sink }; tries = Some a.tries }) }
