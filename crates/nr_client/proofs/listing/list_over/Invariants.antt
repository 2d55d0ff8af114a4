use Rattle.std.proofs.Common.{◌≡◌, ◌≤◌, length}
use Rattle.nr_client.specs.Listing.{entries_max, list_from, list_next}
use Rattle.nr_client.proofs.Listings.{calls_left}
use Rattle.nr_client.proofs.Sequences.{LeadsTo}
use Rattle.nr_client.proofs.listing.list_over.Given as goal

abbrev pub invariant-loop-listed : goal.invariant-loop-listed
invariant-loop-listed g l =
    (length l.listed.names ≤ entries_max)
    × (g.L.Calls.relations.faults (g.L.Calls.at l.link) ≡ g.L.Calls.relations.faults (g.L.Calls.at l.fn.link))
    × LeadsTo g.L.Calls.relations (list_next l.fn.uid l.fn.gid l.fn.dir) (g.L.Calls.at l.fn.link)
    (list_from l.fn.uid l.fn.gid l.fn.dir l.listed) (g.L.Calls.at l.link)

abbrev pub decreases-loop-listed : goal.decreases-loop-listed
decreases-loop-listed g l = calls_left l.listed
