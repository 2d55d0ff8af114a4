use Rattle.std.proofs.Common.{inl, inr, refl, sym, subst, ◌∙◌, arith}
use Rattle.nr_links.specs.Asked.{Asks}
use Rattle.nr_plain.specs.History.{pass_view}
use Rattle.nr_serve.specs.Stops.{LinksStopped}
use Rattle.nr_serve.specs.declared.stop.ServeStop.{ServeStop}
use Rattle.nr_words.specs.Settings.{config_settings}
use Rattle.nr_serve.specs.Serving.{acceptor_at, spawner_at}
use Rattle.nr_serve.proofs.Servers.{links_served, serve_fault}
use Rattle.nr_serve.proofs.serving.serve_links.Goals as goal

pub returns-in-Err-clause-served : goal.returns-in-Err-clause-served
returns-in-Err-clause-served g c = (inl ((c.in-Err.ensures.err_asked, (c.listen.ensures.ended, c.listen.ensures.lost)), refl), c.in-Err.ensures.counted)

pub returns-in-Ok-serve-clause-served : goal.returns-in-Ok-serve-clause-served
returns-in-Ok-serve-clause-served g c =
    let all = c.in-Ok-serve.ensures.all.0 in
    let rise = c.in-Ok-serve.ensures.all.1 in
    record {
      ends = c.in-Ok-serve.ran.ends;
      all = omega (arith, all, rise);
      back = c.in-Ok-serve.ensures.back;
      serves = links_served (config_settings c.args.config.now) (acceptor_at (g.A.Acceptor.asked c.args.accept.now) (g.A.Acceptor.ended c.args.accept.now) (g.A.Acceptor.lost c.args.accept.now) (g.A.Acceptor.faults c.args.accept.now)) (acceptor_at (g.A.Acceptor.asked c.listen.new.self) (g.A.Acceptor.ended c.listen.new.self) (g.A.Acceptor.lost c.listen.new.self) (g.A.Acceptor.faults c.listen.new.self)) (acceptor_at (g.A.Acceptor.asked c.serve.new.acceptor) (g.A.Acceptor.ended c.serve.new.acceptor) (g.A.Acceptor.lost c.serve.new.acceptor) (g.A.Acceptor.faults c.serve.new.acceptor)) (spawner_at (g.P.Spawner.started c.args.spawn.now) (g.P.Spawner.ended c.args.spawn.now) (g.P.Spawner.faults c.args.spawn.now)) (spawner_at (g.P.Spawner.started c.serve.new.spawner) (g.P.Spawner.ended c.serve.new.spawner) (g.P.Spawner.faults c.serve.new.spawner)) (pass_view c.args.pass.now) (pass_view c.serve.new.pass) c.in-Ok-serve.ran.ends
          (subst (Asks (g.A.Acceptor.asked c.args.accept.now) (g.A.Acceptor.asked c.listen.new.self)) c.as_str.ensures.value c.in-Ok.ensures.asked) c.listen.ensures.ended c.listen.ensures.lost c.serve.ensures.asked c.in-Ok-serve.ensures.served c.serve.ensures.ended;
      unfailing = c.in-Ok-serve.ensures.counted ∙ c.in-Ok.ensures.counted;
    }

pub returns-in-Err-serve-clause-served : goal.returns-in-Err-serve-clause-served
returns-in-Err-serve-clause-served g c =
    let (ends, (less, (all, back))) = c.in-Err-serve.ensures.err in
    subst (λ (stop : ServeStop). LinksStopped stop (config_settings c.args.config.now) (acceptor_at (g.A.Acceptor.asked c.args.accept.now) (g.A.Acceptor.ended c.args.accept.now) (g.A.Acceptor.lost c.args.accept.now) (g.A.Acceptor.faults c.args.accept.now)) (acceptor_at (g.A.Acceptor.asked c.serve.new.acceptor) (g.A.Acceptor.ended c.serve.new.acceptor) (g.A.Acceptor.lost c.serve.new.acceptor) (g.A.Acceptor.faults c.serve.new.acceptor)) (spawner_at (g.P.Spawner.started c.args.spawn.now) (g.P.Spawner.ended c.args.spawn.now) (g.P.Spawner.faults c.args.spawn.now)) (spawner_at (g.P.Spawner.started c.serve.new.spawner) (g.P.Spawner.ended c.serve.new.spawner) (g.P.Spawner.faults c.serve.new.spawner)) (pass_view c.args.pass.now) (pass_view c.serve.new.pass)) (sym c.stop_of_serve.ensures) (
      inr (
        ends,
        (
          less,
          (
            back,
            links_served (config_settings c.args.config.now) (acceptor_at (g.A.Acceptor.asked c.args.accept.now) (g.A.Acceptor.ended c.args.accept.now) (g.A.Acceptor.lost c.args.accept.now) (g.A.Acceptor.faults c.args.accept.now)) (acceptor_at (g.A.Acceptor.asked c.listen.new.self) (g.A.Acceptor.ended c.listen.new.self) (g.A.Acceptor.lost c.listen.new.self) (g.A.Acceptor.faults c.listen.new.self)) (acceptor_at (g.A.Acceptor.asked c.serve.new.acceptor) (g.A.Acceptor.ended c.serve.new.acceptor) (g.A.Acceptor.lost c.serve.new.acceptor) (g.A.Acceptor.faults c.serve.new.acceptor)) (spawner_at (g.P.Spawner.started c.args.spawn.now) (g.P.Spawner.ended c.args.spawn.now) (g.P.Spawner.faults c.args.spawn.now)) (spawner_at (g.P.Spawner.started c.serve.new.spawner) (g.P.Spawner.ended c.serve.new.spawner) (g.P.Spawner.faults c.serve.new.spawner)) (pass_view c.args.pass.now) (pass_view c.serve.new.pass) ends
                (subst (Asks (g.A.Acceptor.asked c.args.accept.now) (g.A.Acceptor.asked c.listen.new.self)) c.as_str.ensures.value c.in-Ok.ensures.asked) c.listen.ensures.ended c.listen.ensures.lost c.serve.ensures.asked all c.serve.ensures.ended,
          ),
        ),
      ),
      serve_fault c.in-Err-serve.fault (g.A.Acceptor.faults c.args.accept.now) (g.A.Acceptor.faults c.listen.new.self) (g.A.Acceptor.faults c.serve.new.acceptor) c.in-Ok.ensures.counted c.in-Err-serve.ensures.counted,
    )
