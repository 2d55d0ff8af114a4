use Rattle.std.proofs.Common.{◌≡◌, ◌-◌}
use Rattle.nr_client.specs.private.OpenReads.{ReadsAhead, ReadsOn}
use Rattle.nr_client.proofs.read_file.read_pieces.Given as goal

abbrev pub invariant-pieces : goal.invariant-pieces
invariant-pieces g l =
    ReadsAhead g.L.Calls.relations (g.L.Calls.at l.link) l.file.size l.at l.next l.tickets.items
    × (g.L.Calls.relations.faults (g.L.Calls.at l.link) ≡ g.L.Calls.relations.faults (g.L.Calls.at l.initial.link))
    × (g.K.Sink.faults l.out ≡ g.K.Sink.faults l.initial.out)
    × ReadsOn g.L.Calls.relations l.file.uid l.file.gid l.file.handle.now l.file.size 0 0 l.initial.tickets.items l.at l.at l.tickets.items
    (g.L.Calls.at l.initial.link) (g.L.Calls.at l.link) (g.K.Sink.taken l.initial.out) (g.K.Sink.taken l.out)

abbrev pub decreases-pieces : goal.decreases-pieces
decreases-pieces g l = l.file.size - l.at
