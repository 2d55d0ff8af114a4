use Rattle.std.proofs.Common.{◌≡◌, drop}
use Rattle.nr_client.specs.Walking.{walk_from}
use Rattle.nr_client.proofs.Sequences.{LeadsTo}
use Rattle.nr_client.proofs.walking.walk_names.Given as goal

abbrev pub invariant-loop-name : goal.invariant-loop-name
invariant-loop-name g l =
    (g.L.Calls.relations.faults (g.L.Calls.at l.link) ≡ g.L.Calls.relations.faults (g.L.Calls.at l.fn.link))
    × LeadsTo g.L.Calls.relations (walk_from l.fn.uid l.fn.gid l.fn.root l.names) (g.L.Calls.at l.fn.link)
    (walk_from l.fn.uid l.fn.gid l.dir (drop l.name-index l.names)) (g.L.Calls.at l.link)
