use Rattle.std.proofs.Common.{◌≡◌, ◌-◌, List, ℕ, Option}
use Rattle.nr_client.specs.private.OpenReads.{ReadsAhead, ReadsOn}
use Rattle.nr_client.proofs.reading_ahead.fill.Given as goal

abbrev pub invariant-asked : goal.invariant-asked
invariant-asked g l =
    ReadsAhead g.L.Calls.relations (g.L.Calls.at l.link) l.file.size l.at l.next l.tickets.items
    × (g.L.Calls.relations.faults (g.L.Calls.at l.link) ≡ g.L.Calls.relations.faults (g.L.Calls.at l.initial.link))
    × ((t : Option (List ℕ)) → ReadsOn g.L.Calls.relations l.file.uid l.file.gid l.file.handle.now l.file.size l.at l.at l.initial.tickets.items l.at l.at l.tickets.items
    (g.L.Calls.at l.initial.link) (g.L.Calls.at l.link) t t)

abbrev pub decreases-asked : goal.decreases-asked
decreases-asked g l = l.file.size - l.next
