use Rattle.std.proofs.Common.{◌≡◌, ◌+◌, ◌-◌, ◌≤◌, length}
use Rattle.nr_accept.specs.Accepting.{BackCount, Serves, between}
use Rattle.nr_accept.proofs.taking.take_links.Given as goal

abbrev pub invariant-links : goal.invariant-links
invariant-links g l =
    g.L.LinkJobs.rests l.jobs
    × ((first : g.row.L.Denot) → g.L.LinkJobs.same first l.initial.jobs → g.L.LinkJobs.same first l.jobs)
    × (l.started + length l.ends.items ≤ l.initial.connections)
    × (g.P.Spawner.started l.spawner ≡ g.P.Spawner.started l.initial.spawner + l.started)
    × (g.P.Spawner.faults l.initial.spawner ≤ g.P.Spawner.faults l.spawner)
    × BackCount l.ends.items (g.P.Spawner.faults l.initial.spawner) (g.P.Spawner.faults l.spawner)
    × (g.A.Acceptor.faults l.acceptor ≡ g.A.Acceptor.faults l.initial.acceptor)
    × (g.A.Acceptor.asked l.acceptor ≡ g.A.Acceptor.asked l.initial.acceptor)
    × (g.A.Acceptor.listens l.acceptor ≡ g.A.Acceptor.listens l.initial.acceptor)
    × Serves g.L.LinkJobs.makes g.L.LinkJobs.serves (between (g.A.Acceptor.ended l.initial.acceptor) (g.A.Acceptor.lost l.initial.acceptor) (g.P.Spawner.started l.initial.spawner) l.initial.jobs) l.ends.items
    (between (g.A.Acceptor.ended l.acceptor) (g.A.Acceptor.lost l.acceptor) (g.P.Spawner.started l.spawner) l.jobs)

abbrev pub decreases-links : goal.decreases-links
decreases-links g l = l.initial.connections - (l.started + length l.ends.items)
