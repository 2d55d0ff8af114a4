use Rattle.std.proofs.Common.{inl, refl}
use Rattle.nr_words.specs.Settings.{config_settings}
use Rattle.nr_outside.specs.Streams.{sink_at}
use Rattle.nr_plain.specs.History.{pass_view}
use Rattle.nr_serve.specs.Serving.{acceptor_at, spawner_at}
use Rattle.nr_serve.specs.Stops.StopsServing.{AtServing}
use Rattle.nr_serve.proofs.Servers.{printed, serves_all, serves_fewer}
use Rattle.nr_serve.proofs.serving.serve_by.Goals as goal

pub open_shared-requires : goal.open_shared-requires
open_shared-requires g c = c.requires.0

pub returns-in-Err : goal.returns-in-Err
returns-in-Err g c = AtServing (inl ((refl, (refl, refl)), (refl, c.open_shared.ensures.gave)), refl) refl

pub returns-in-Err-serve_links : goal.returns-in-Err-serve_links
returns-in-Err-serve_links g c =
    AtServing (serves_fewer (config_settings c.args.config.now) (acceptor_at (g.A.Acceptor.asked c.args.accept.now) (g.A.Acceptor.ended c.args.accept.now) (g.A.Acceptor.lost c.args.accept.now) (g.A.Acceptor.faults c.args.accept.now)) (acceptor_at (g.A.Acceptor.asked c.serve_links.new.accept) (g.A.Acceptor.ended c.serve_links.new.accept) (g.A.Acceptor.lost c.serve_links.new.accept) (g.A.Acceptor.faults c.serve_links.new.accept)) (spawner_at (g.P.Spawner.started c.args.spawn.now) (g.P.Spawner.ended c.args.spawn.now) (g.P.Spawner.faults c.args.spawn.now)) (spawner_at (g.P.Spawner.started c.serve_links.new.spawn) (g.P.Spawner.ended c.serve_links.new.spawn) (g.P.Spawner.faults c.serve_links.new.spawn)) (g.C.Clock.gave c.args.clock.now) (g.C.Clock.gave c.open_shared.new.clock) (pass_view c.in-Ok.opened.1) (pass_view c.serve_links.new.pass) c.in-Ok.ensures.opens c.in-Err-serve_links.stop c.in-Err-serve_links.ensures.served) refl

pub returns : goal.returns
returns g c =
    let (served, saw) = serves_all (config_settings c.args.config.now) (acceptor_at (g.A.Acceptor.asked c.args.accept.now) (g.A.Acceptor.ended c.args.accept.now) (g.A.Acceptor.lost c.args.accept.now) (g.A.Acceptor.faults c.args.accept.now)) (acceptor_at (g.A.Acceptor.asked c.serve_links.new.accept) (g.A.Acceptor.ended c.serve_links.new.accept) (g.A.Acceptor.lost c.serve_links.new.accept) (g.A.Acceptor.faults c.serve_links.new.accept)) (spawner_at (g.P.Spawner.started c.args.spawn.now) (g.P.Spawner.ended c.args.spawn.now) (g.P.Spawner.faults c.args.spawn.now)) (spawner_at (g.P.Spawner.started c.serve_links.new.spawn) (g.P.Spawner.ended c.serve_links.new.spawn) (g.P.Spawner.faults c.serve_links.new.spawn)) (g.C.Clock.gave c.args.clock.now) (g.C.Clock.gave c.open_shared.new.clock) (pass_view c.in-Ok.opened.1) (pass_view c.serve_links.new.pass) c.in-Ok.ensures.opens (pass_view c.journal_len-journal.new.pass) c.in-Ok-serve_links.ensures.served c.journal_len-journal.ensures.found in
    printed (config_settings c.args.config.now) (sink_at (g.O.Sink.taken c.args.out.now) (g.O.Sink.faults c.args.out.now)) (sink_at (g.O.Sink.taken c.print_served.new.out) (g.O.Sink.faults c.print_served.new.out))
    (acceptor_at (g.A.Acceptor.asked c.args.accept.now) (g.A.Acceptor.ended c.args.accept.now) (g.A.Acceptor.lost c.args.accept.now) (g.A.Acceptor.faults c.args.accept.now)) (acceptor_at (g.A.Acceptor.asked c.serve_links.new.accept) (g.A.Acceptor.ended c.serve_links.new.accept) (g.A.Acceptor.lost c.serve_links.new.accept) (g.A.Acceptor.faults c.serve_links.new.accept)) (spawner_at (g.P.Spawner.started c.args.spawn.now) (g.P.Spawner.ended c.args.spawn.now) (g.P.Spawner.faults c.args.spawn.now)) (spawner_at (g.P.Spawner.started c.serve_links.new.spawn) (g.P.Spawner.ended c.serve_links.new.spawn) (g.P.Spawner.faults c.serve_links.new.spawn)) (g.C.Clock.gave c.args.clock.now) (g.C.Clock.gave c.open_shared.new.clock) c.print_served.result served c.journal_len-journal.result (c.journal_len-journal.ensures.len served.first served.journal saw) c.print_served.ensures
