use Rattle.std.proofs.Common.{◌≡◌, arith}
use Rattle.nr_accept.specs.Accepting.{between}
use Rattle.nr_accept.proofs.Links.{back_served, back_started, served_by, started_by, takes_served, takes_started}
use Rattle.nr_gate.specs.GateLinks.{GatesByPass, KeepsKnown}
use Rattle.nr_gate.proofs.taking.take_one.Goals as goal

pub returns-in-None-clause-served : goal.returns-in-None-clause-served
returns-in-None-clause-served g c =
    let same : c.reserve.new.self.items ≡ c.args.ends.now.items = grind (arith, c.reserve.ensures) in
    takes_started KeepsKnown GatesByPass
    (between (g.A.Acceptor.ended c.args.acceptor.now) (g.A.Acceptor.lost c.args.acceptor.now) (g.P.Spawner.started c.args.spawner.now) c.args.jobs.now.pass.now.main)
    (between (g.A.Acceptor.ended c.take_next.new.acceptor) (g.A.Acceptor.lost c.take_next.new.acceptor) (g.P.Spawner.started c.take_next.new.spawner) c.take_next.new.jobs.pass.now.main)
    c.in-Ok.link c.args.ends.now.items c.reserve.new.self.items c.in-None.is same c.in-Ok.ensures.served

pub returns-in-None-clause-started : goal.returns-in-None-clause-started
returns-in-None-clause-started g c =
    let s = started_by KeepsKnown GatesByPass
    (between (g.A.Acceptor.ended c.args.acceptor.now) (g.A.Acceptor.lost c.args.acceptor.now) (g.P.Spawner.started c.args.spawner.now) c.args.jobs.now.pass.now.main)
    (between (g.A.Acceptor.ended c.take_next.new.acceptor) (g.A.Acceptor.lost c.take_next.new.acceptor) (g.P.Spawner.started c.take_next.new.spawner) c.take_next.new.jobs.pass.now.main)
    c.in-Ok.link c.in-None.is c.in-Ok.ensures.served in
    let one = s.started in
    omega (arith, one)

pub returns-in-None-clause-back : goal.returns-in-None-clause-back
returns-in-None-clause-back g c first low count =
    let same : c.reserve.new.self.items ≡ c.args.ends.now.items = grind (arith, c.reserve.ensures) in
    back_started c.in-Ok.link c.args.ends.now.items c.reserve.new.self.items first (g.P.Spawner.faults c.args.spawner.now) (g.P.Spawner.faults c.take_next.new.spawner) c.in-None.is same c.in-Ok.ensures.back count

pub returns-in-Some-clause-served : goal.returns-in-Some-clause-served
returns-in-Some-clause-served g c =
    takes_served KeepsKnown GatesByPass
    (between (g.A.Acceptor.ended c.args.acceptor.now) (g.A.Acceptor.lost c.args.acceptor.now) (g.P.Spawner.started c.args.spawner.now) c.args.jobs.now.pass.now.main)
    (between (g.A.Acceptor.ended c.take_next.new.acceptor) (g.A.Acceptor.lost c.take_next.new.acceptor) (g.P.Spawner.started c.take_next.new.spawner) c.take_next.new.jobs.pass.now.main)
    c.in-Ok.link c.in-Some.end c.args.ends.now.items c.push_reserved.new.self.items c.in-Some.is (grind (arith, c.push_reserved.ensures, c.reserve.ensures)) c.in-Ok.ensures.served

pub returns-in-Some-clause-started : goal.returns-in-Some-clause-started
returns-in-Some-clause-started g c =
    let s = served_by KeepsKnown GatesByPass
    (between (g.A.Acceptor.ended c.args.acceptor.now) (g.A.Acceptor.lost c.args.acceptor.now) (g.P.Spawner.started c.args.spawner.now) c.args.jobs.now.pass.now.main)
    (between (g.A.Acceptor.ended c.take_next.new.acceptor) (g.A.Acceptor.lost c.take_next.new.acceptor) (g.P.Spawner.started c.take_next.new.spawner) c.take_next.new.jobs.pass.now.main)
    c.in-Ok.link c.in-Some.end c.in-Some.is c.in-Ok.ensures.served in
    let same = s.started in
    omega (arith, same)

pub returns-in-Some-clause-back : goal.returns-in-Some-clause-back
returns-in-Some-clause-back g c first low count =
    back_served c.in-Ok.link c.in-Some.end c.push_reserved.new.self.items first (g.P.Spawner.faults c.args.spawner.now) (g.P.Spawner.faults c.take_next.new.spawner) c.in-Some.is c.in-Ok.ensures.back low
