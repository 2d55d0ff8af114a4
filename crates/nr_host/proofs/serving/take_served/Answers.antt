use Rattle.std.proofs.Common.{refl}
use Rattle.nr_plain.specs.History.{pass_view}
use Rattle.nr_accept.specs.Accepting.{between}
use Rattle.nr_host.proofs.Links.{links_served}
use Rattle.nr_host.proofs.serving.take_served.Goals as goal

pub returns-clause-served : goal.returns-clause-served
returns-clause-served g c =
    links_served (λ s. s.limits) (λ s. s.records) (λ s. pass_view s.pass.now) c.args.jobs.now.limits c.args.jobs.now.records
    (between (g.A.Acceptor.ended c.args.acceptor.now) (g.A.Acceptor.lost c.args.acceptor.now) (g.P.Spawner.started c.args.spawner.now) c.args.jobs.now)
    (between (g.A.Acceptor.ended c.take_links.new.acceptor) (g.A.Acceptor.lost c.take_links.new.acceptor) (g.P.Spawner.started c.take_links.new.spawner) c.take_links.new.jobs)
    c.take_links.new.ends.items (refl, refl) c.take_links.ensures.served

pub returns-clause-shared : goal.returns-clause-shared
returns-clause-shared g c = (c.take_links.ensures.same c.args.jobs.now (refl, (refl, (refl, refl)))).0

pub returns-clause-pass : goal.returns-clause-pass
returns-clause-pass g c = (c.take_links.ensures.same c.args.jobs.now (refl, (refl, (refl, refl)))).1.0
