use Rattle.std.proofs.Common.{◌≡◌, ◌∙◌, length, arith, ap, inl, refl}
use Rattle.nr_accept.specs.Accepting.{between}
use Rattle.nr_accept.proofs.Links.{serves_kept, serves_more, serves_none}
use Rattle.nr_gate.specs.GateLinks.{GatesByPass, KeepsKnown}
use Rattle.nr_gate.proofs.taking.take_gated.Goals as goal

pub links-init : goal.links-init
links-init g c =
    let none : length c.args.ends.now.items ≡ 0 = ap length c.requires.none in (
      c.requires.rests,
      refl,
      refl,
      refl,
      omega (arith, none),
      omega arith,
      omega arith,
      inl c.requires.none,
      refl,
      refl,
      refl,
      serves_none KeepsKnown GatesByPass
          (between (g.A.Acceptor.ended c.args.acceptor.now) (g.A.Acceptor.lost c.args.acceptor.now) (g.P.Spawner.started c.args.spawner.now) c.args.jobs.now.pass.now.main)
          c.args.ends.now.items c.requires.none,
    )

pub links-preserved : goal.links-preserved
links-preserved g c =
    let (rests, remote, pass, source, most, started, rises, back, faults, asked, listens, all) = c.links.invariant in
    let less = c.links-test.true in
    let one = c.in-Ok.ensures.one in
    let more = c.in-Ok.ensures.started in
    let never = c.take_one.ensures.never_falls in (
      c.take_one.ensures.rests,
      c.take_one.ensures.remote ∙ remote,
      c.take_one.ensures.pass ∙ pass,
      c.take_one.ensures.remote_source ∙ source,
      omega (arith, one, less),
      omega (arith, more, started),
      omega (arith, rises, never),
      c.in-Ok.ensures.back (g.P.Spawner.faults c.args.spawner.now) rises back,
      c.in-Ok.ensures.counted ∙ faults,
      c.take_one.ensures.asked ∙ asked,
      c.take_one.ensures.listens ∙ listens,
      serves_more KeepsKnown GatesByPass
          (between (g.A.Acceptor.ended c.args.acceptor.now) (g.A.Acceptor.lost c.args.acceptor.now) (g.P.Spawner.started c.args.spawner.now) c.args.jobs.now.pass.now.main)
          (between (g.A.Acceptor.ended c.links.acceptor) (g.A.Acceptor.lost c.links.acceptor) (g.P.Spawner.started c.links.spawner) c.links.jobs.pass.now.main)
          (between (g.A.Acceptor.ended c.take_one.new.acceptor) (g.A.Acceptor.lost c.take_one.new.acceptor) (g.P.Spawner.started c.take_one.new.spawner) c.take_one.new.jobs.pass.now.main)
          c.links.ends.items c.take_one.new.ends.items all c.in-Ok.ensures.served,
    )

pub returns-in-Err-clause-gated : goal.returns-in-Err-clause-gated
returns-in-Err-clause-gated g c =
    let (rests, remote, pass, source, most, started, rises, back, faults, asked, listens, all) = c.links.invariant in
    serves_kept KeepsKnown GatesByPass
    (between (g.A.Acceptor.ended c.args.acceptor.now) (g.A.Acceptor.lost c.args.acceptor.now) (g.P.Spawner.started c.args.spawner.now) c.args.jobs.now.pass.now.main)
    (between (g.A.Acceptor.ended c.links.acceptor) (g.A.Acceptor.lost c.links.acceptor) (g.P.Spawner.started c.links.spawner) c.links.jobs.pass.now.main)
    (between (g.A.Acceptor.ended c.take_one.new.acceptor) (g.A.Acceptor.lost c.take_one.new.acceptor) (g.P.Spawner.started c.take_one.new.spawner) c.take_one.new.jobs.pass.now.main)
    c.links.ends.items c.take_one.new.ends.items c.in-Err.ensures.kept c.in-Err.ensures.err all

pub returns-in-Err-clause-remote : goal.returns-in-Err-clause-remote
returns-in-Err-clause-remote g c =
    let (rests, remote, pass, source, most, started, rises, back, faults, asked, listens, all) = c.links.invariant in
    c.take_one.ensures.remote ∙ remote

pub returns-in-Err-clause-pass : goal.returns-in-Err-clause-pass
returns-in-Err-clause-pass g c =
    let (rests, remote, pass, source, most, started, rises, back, faults, asked, listens, all) = c.links.invariant in
    c.take_one.ensures.pass ∙ pass

pub returns-in-Err-clause-remote_source : goal.returns-in-Err-clause-remote_source
returns-in-Err-clause-remote_source g c =
    let (rests, remote, pass, source, most, started, rises, back, faults, asked, listens, all) = c.links.invariant in
    c.take_one.ensures.remote_source ∙ source

pub returns-in-Err-clause-fewer : goal.returns-in-Err-clause-fewer
returns-in-Err-clause-fewer g c =
    let (rests, remote, pass, source, most, started, rises, back, faults, asked, listens, all) = c.links.invariant in
    let less = c.links-test.true in
    let count : g.P.Spawner.started c.take_one.new.spawner ≡ g.P.Spawner.started c.links.spawner = ap (λ b. b.started) c.in-Err.ensures.err in
    let kept : length c.take_one.new.ends.items ≡ length c.links.ends.items = ap length c.in-Err.ensures.kept in
    omega (arith, less, count, kept, started)
