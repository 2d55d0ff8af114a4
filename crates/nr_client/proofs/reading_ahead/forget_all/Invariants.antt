use Rattle.std.proofs.Common.{◌≡◌}
use Rattle.nr_client.specs.private.OpenReads.{AreOpen}
use Rattle.nr_client.specs.Reading.{ForgetsCallsOver}
use Rattle.nr_client.proofs.reading_ahead.forget_all.Given as goal

abbrev pub invariant-tickets : goal.invariant-tickets
invariant-tickets g l =
    AreOpen g.L.Calls.relations (g.L.Calls.at l.link) l.tickets.items
    × (g.L.Calls.relations.faults (g.L.Calls.at l.link) ≡ g.L.Calls.relations.faults (g.L.Calls.at l.initial.link))
    × ((last : g.L.Calls.View) → ForgetsCallsOver g.L.Calls.relations l.tickets.items (g.L.Calls.at l.link) last → ForgetsCallsOver g.L.Calls.relations l.initial.tickets.items (g.L.Calls.at l.initial.link) last)

abbrev pub decreases-tickets : goal.decreases-tickets
decreases-tickets g l = goal.left-tickets g l
