use Rattle.std.proofs.Common.{◌≡◌, ◌∙◌, length, arith, ap, inl, refl}
use Rattle.nr_accept.specs.Accepting.{Between, between}
use Rattle.nr_accept.proofs.Links.{serves_kept, serves_more, serves_none}
use Rattle.nr_accept.proofs.taking.take_links.Goals as goal

pub links-init : goal.links-init
links-init g c =
    let none : length c.args.ends.now.items ≡ 0 = ap length c.requires.none in (
      c.requires.rests,
      λ first same. same,
      omega (arith, none),
      omega arith,
      omega arith,
      inl c.requires.none,
      refl,
      refl,
      refl,
      serves_none g.L.LinkJobs.makes g.L.LinkJobs.serves
          (between (g.A.Acceptor.ended c.args.acceptor.now) (g.A.Acceptor.lost c.args.acceptor.now) (g.P.Spawner.started c.args.spawner.now) c.args.jobs.now)
          c.args.ends.now.items c.requires.none,
    )

pub links-preserved : goal.links-preserved
links-preserved g c =
    let (rests, same, most, started, rises, back, faults, asked, listens, all) = c.links.invariant in
    let less = c.links-test.true in
    let one = c.in-Ok.ensures.one in
    let more = c.in-Ok.ensures.started in
    let never = c.take_one.ensures.never_falls in (
      c.take_one.ensures.rests,
      λ first is. c.take_one.ensures.same first (same first is),
      omega (arith, one, less),
      omega (arith, more, started),
      omega (arith, rises, never),
      c.in-Ok.ensures.back (g.P.Spawner.faults c.args.spawner.now) rises back,
      c.in-Ok.ensures.counted ∙ faults,
      c.take_one.ensures.asked ∙ asked,
      c.take_one.ensures.listens ∙ listens,
      serves_more g.L.LinkJobs.makes g.L.LinkJobs.serves
          (between (g.A.Acceptor.ended c.args.acceptor.now) (g.A.Acceptor.lost c.args.acceptor.now) (g.P.Spawner.started c.args.spawner.now) c.args.jobs.now)
          (between (g.A.Acceptor.ended c.links.acceptor) (g.A.Acceptor.lost c.links.acceptor) (g.P.Spawner.started c.links.spawner) c.links.jobs)
          (between (g.A.Acceptor.ended c.take_one.new.acceptor) (g.A.Acceptor.lost c.take_one.new.acceptor) (g.P.Spawner.started c.take_one.new.spawner) c.take_one.new.jobs)
          c.links.ends.items c.take_one.new.ends.items all c.in-Ok.ensures.served,
    )

pub returns-in-Err-clause-served : goal.returns-in-Err-clause-served
returns-in-Err-clause-served g c =
    let (rests, same, most, started, rises, back, faults, asked, listens, all) = c.links.invariant in
    serves_kept g.L.LinkJobs.makes g.L.LinkJobs.serves
    (between (g.A.Acceptor.ended c.args.acceptor.now) (g.A.Acceptor.lost c.args.acceptor.now) (g.P.Spawner.started c.args.spawner.now) c.args.jobs.now)
    (between (g.A.Acceptor.ended c.links.acceptor) (g.A.Acceptor.lost c.links.acceptor) (g.P.Spawner.started c.links.spawner) c.links.jobs)
    (between (g.A.Acceptor.ended c.take_one.new.acceptor) (g.A.Acceptor.lost c.take_one.new.acceptor) (g.P.Spawner.started c.take_one.new.spawner) c.take_one.new.jobs)
    c.links.ends.items c.take_one.new.ends.items c.in-Err.ensures.kept c.in-Err.ensures.err all

pub returns-in-Err-clause-same : goal.returns-in-Err-clause-same
returns-in-Err-clause-same g c first is =
    let (rests, same, most, started, rises, back, faults, asked, listens, all) = c.links.invariant in
    c.take_one.ensures.same first (same first is)

pub returns-in-Err-clause-fewer : goal.returns-in-Err-clause-fewer
returns-in-Err-clause-fewer g c =
    let (rests, same, most, started, rises, back, faults, asked, listens, all) = c.links.invariant in
    let less = c.links-test.true in
    let count : g.P.Spawner.started c.take_one.new.spawner ≡ g.P.Spawner.started c.links.spawner = ap (λ (b : Between g.row.L.Denot). b.started) c.in-Err.ensures.err in
    let kept : length c.take_one.new.ends.items ≡ length c.links.ends.items = ap length c.in-Err.ensures.kept in
    omega (arith, less, count, kept, started)
