use Rattle.std.proofs.Common.{◌≡◌, ◌-◌, List, ℕ}
use Rattle.nr_client.specs.private.OpenReads.{IsInPiece, ReadsOn}
use Rattle.nr_client.specs.Relations.{KeepsTicketsOver}
use Rattle.nr_client.proofs.read_file.read_rest.Given as goal

abbrev pub invariant-rest : goal.invariant-rest
invariant-rest g l =
    IsInPiece l.file.size l.at l.end
    × KeepsTicketsOver g.L.Calls.relations (g.L.Calls.at l.initial.link) (g.L.Calls.at l.link)
    × (g.L.Calls.relations.faults (g.L.Calls.at l.link) ≡ g.L.Calls.relations.faults (g.L.Calls.at l.initial.link))
    × (g.K.Sink.faults l.out ≡ g.K.Sink.faults l.initial.out)
    × ((from : ℕ) (xids : List ℕ) → ReadsOn g.L.Calls.relations l.file.uid l.file.gid l.file.handle.now l.file.size l.initial.at from xids l.at from xids
    (g.L.Calls.at l.initial.link) (g.L.Calls.at l.link) (g.K.Sink.taken l.initial.out) (g.K.Sink.taken l.out))

abbrev pub decreases-rest : goal.decreases-rest
decreases-rest g l = l.end - l.at
