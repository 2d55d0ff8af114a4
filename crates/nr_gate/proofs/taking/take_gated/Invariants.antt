use Rattle.std.proofs.Common.{◌≡◌, ◌+◌, ◌-◌, ◌≤◌, length}
use Rattle.std.specs.Arc.{arc_value}
use Rattle.nr_turnstile.specs.Passes.{seen_by}
use Rattle.nr_accept.specs.Accepting.{BackCount, between}
use Rattle.nr_shared.specs.Sharing.{SharedRests}
use Rattle.nr_gate.specs.GateLinks.{GatesLinks}
use Rattle.nr_gate.proofs.taking.take_gated.Given as goal

abbrev pub invariant-links : goal.invariant-links
invariant-links g l =
    SharedRests (arc_value l.jobs.remote.now) l.jobs.pass.now
    × (l.jobs.remote.now ≡ l.initial.jobs.remote.now)
    × (l.jobs.pass.ghost_name ≡ l.initial.jobs.pass.ghost_name)
    × (seen_by l.jobs.pass.now.source ≡ seen_by l.initial.jobs.pass.now.source)
    × (l.started + length l.ends.items ≤ l.initial.connections)
    × (g.P.Spawner.started l.spawner ≡ g.P.Spawner.started l.initial.spawner + l.started)
    × (g.P.Spawner.faults l.initial.spawner ≤ g.P.Spawner.faults l.spawner)
    × BackCount l.ends.items (g.P.Spawner.faults l.initial.spawner) (g.P.Spawner.faults l.spawner)
    × (g.A.Acceptor.faults l.acceptor ≡ g.A.Acceptor.faults l.initial.acceptor)
    × (g.A.Acceptor.asked l.acceptor ≡ g.A.Acceptor.asked l.initial.acceptor)
    × (g.A.Acceptor.listens l.acceptor ≡ g.A.Acceptor.listens l.initial.acceptor)
    × GatesLinks (between (g.A.Acceptor.ended l.initial.acceptor) (g.A.Acceptor.lost l.initial.acceptor) (g.P.Spawner.started l.initial.spawner) l.initial.jobs.pass.now.main) l.ends.items
    (between (g.A.Acceptor.ended l.acceptor) (g.A.Acceptor.lost l.acceptor) (g.P.Spawner.started l.spawner) l.jobs.pass.now.main)

abbrev pub decreases-links : goal.decreases-links
decreases-links g l = l.initial.connections - (l.started + length l.ends.items)
