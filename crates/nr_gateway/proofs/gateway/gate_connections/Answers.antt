use Rattle.std.proofs.Common.{ℕ, List, refl, subst}
use Rattle.nr_links.specs.Asked.{Asks}
use Rattle.nr_words.specs.GateSettings.{gate_config_settings}
use Rattle.nr_client.specs.Dialing.{dialer_at}
use Rattle.nr_serve.specs.Serving.{acceptor_at, spawner_at}
use Rattle.nr_gateway.specs.Gateways.{Dials, around}
use Rattle.nr_gateway.specs.Stops.{NotOpened}
use Rattle.nr_gateway.specs.Stops.StoppedGating.{AtDialling, AtListening}
use Rattle.nr_gateway.proofs.Completing.{takes_all, takes_fewer}
use Rattle.nr_gateway.proofs.gateway.gate_connections.Goals as goal

pub returns-in-Err : goal.returns-in-Err
returns-in-Err g c = AtListening refl (record { asked = c.in-Err.ensures.err_asked; ended = c.listen.ensures.ended; lost = c.listen.ensures.lost; failed = c.in-Err.ensures.counted }) refl refl

pub returns-in-Err-open_remote : goal.returns-in-Err-open_remote
returns-in-Err-open_remote g c =
    AtDialling (record { asked = subst (Asks (g.A.Acceptor.asked c.args.accept.now) (g.A.Acceptor.asked c.listen.new.self)) c.as_str.ensures.value c.in-Ok.ensures.asked; ended = c.listen.ensures.ended; lost = c.listen.ensures.lost; unfailing = c.in-Ok.ensures.counted })
    (subst (λ (addr : List ℕ). NotOpened c.in-Err-open_remote.stop addr (dialer_at (g.D.Dialer.asked c.args.dial.now) (g.D.Dialer.ended c.args.dial.now) (g.D.Dialer.lost c.args.dial.now) (g.D.Dialer.faults c.args.dial.now)) (dialer_at (g.D.Dialer.asked c.open_remote.new.dial) (g.D.Dialer.ended c.open_remote.new.dial) (g.D.Dialer.lost c.open_remote.new.dial) (g.D.Dialer.faults c.open_remote.new.dial))) c.as_str-2.ensures.value c.in-Err-open_remote.ensures.dials) refl

pub returns-in-Ok-gate_links : goal.returns-in-Ok-gate_links
returns-in-Ok-gate_links g c =
    takes_all (gate_config_settings c.args.config.now)
    (around (acceptor_at (g.A.Acceptor.asked c.args.accept.now) (g.A.Acceptor.ended c.args.accept.now) (g.A.Acceptor.lost c.args.accept.now) (g.A.Acceptor.faults c.args.accept.now)) (dialer_at (g.D.Dialer.asked c.args.dial.now) (g.D.Dialer.ended c.args.dial.now) (g.D.Dialer.lost c.args.dial.now) (g.D.Dialer.faults c.args.dial.now)) (spawner_at (g.P.Spawner.started c.args.spawn.now) (g.P.Spawner.ended c.args.spawn.now) (g.P.Spawner.faults c.args.spawn.now)))
    (acceptor_at (g.A.Acceptor.asked c.listen.new.self) (g.A.Acceptor.ended c.listen.new.self) (g.A.Acceptor.lost c.listen.new.self) (g.A.Acceptor.faults c.listen.new.self)) (acceptor_at (g.A.Acceptor.asked c.gate_links.new.accept) (g.A.Acceptor.ended c.gate_links.new.accept) (g.A.Acceptor.lost c.gate_links.new.accept) (g.A.Acceptor.faults c.gate_links.new.accept))
    (dialer_at (g.D.Dialer.asked c.open_remote.new.dial) (g.D.Dialer.ended c.open_remote.new.dial) (g.D.Dialer.lost c.open_remote.new.dial) (g.D.Dialer.faults c.open_remote.new.dial)) (spawner_at (g.P.Spawner.started c.gate_links.new.spawn) (g.P.Spawner.ended c.gate_links.new.spawn) (g.P.Spawner.faults c.gate_links.new.spawn)) c.in-Ok-open_remote.opened.1.main
    (record { asked = subst (Asks (g.A.Acceptor.asked c.args.accept.now) (g.A.Acceptor.asked c.listen.new.self)) c.as_str.ensures.value c.in-Ok.ensures.asked; ended = c.listen.ensures.ended; lost = c.listen.ensures.lost; unfailing = c.in-Ok.ensures.counted })
    (subst (λ (addr : List ℕ). Dials addr (dialer_at (g.D.Dialer.asked c.args.dial.now) (g.D.Dialer.ended c.args.dial.now) (g.D.Dialer.lost c.args.dial.now) (g.D.Dialer.faults c.args.dial.now)) (dialer_at (g.D.Dialer.asked c.open_remote.new.dial) (g.D.Dialer.ended c.open_remote.new.dial) (g.D.Dialer.lost c.open_remote.new.dial) (g.D.Dialer.faults c.open_remote.new.dial))) c.as_str-2.ensures.value c.in-Ok-open_remote.ensures.dials)
    c.in-Ok-open_remote.ensures.opens
    c.in-Ok-gate_links.ensures

pub returns-in-Err-gate_links : goal.returns-in-Err-gate_links
returns-in-Err-gate_links g c =
    takes_fewer (gate_config_settings c.args.config.now)
    (around (acceptor_at (g.A.Acceptor.asked c.args.accept.now) (g.A.Acceptor.ended c.args.accept.now) (g.A.Acceptor.lost c.args.accept.now) (g.A.Acceptor.faults c.args.accept.now)) (dialer_at (g.D.Dialer.asked c.args.dial.now) (g.D.Dialer.ended c.args.dial.now) (g.D.Dialer.lost c.args.dial.now) (g.D.Dialer.faults c.args.dial.now)) (spawner_at (g.P.Spawner.started c.args.spawn.now) (g.P.Spawner.ended c.args.spawn.now) (g.P.Spawner.faults c.args.spawn.now)))
    (acceptor_at (g.A.Acceptor.asked c.listen.new.self) (g.A.Acceptor.ended c.listen.new.self) (g.A.Acceptor.lost c.listen.new.self) (g.A.Acceptor.faults c.listen.new.self)) (acceptor_at (g.A.Acceptor.asked c.gate_links.new.accept) (g.A.Acceptor.ended c.gate_links.new.accept) (g.A.Acceptor.lost c.gate_links.new.accept) (g.A.Acceptor.faults c.gate_links.new.accept))
    (dialer_at (g.D.Dialer.asked c.open_remote.new.dial) (g.D.Dialer.ended c.open_remote.new.dial) (g.D.Dialer.lost c.open_remote.new.dial) (g.D.Dialer.faults c.open_remote.new.dial)) (spawner_at (g.P.Spawner.started c.gate_links.new.spawn) (g.P.Spawner.ended c.gate_links.new.spawn) (g.P.Spawner.faults c.gate_links.new.spawn)) c.in-Ok-open_remote.opened.1.main
    (record { asked = subst (Asks (g.A.Acceptor.asked c.args.accept.now) (g.A.Acceptor.asked c.listen.new.self)) c.as_str.ensures.value c.in-Ok.ensures.asked; ended = c.listen.ensures.ended; lost = c.listen.ensures.lost; unfailing = c.in-Ok.ensures.counted })
    (subst (λ (addr : List ℕ). Dials addr (dialer_at (g.D.Dialer.asked c.args.dial.now) (g.D.Dialer.ended c.args.dial.now) (g.D.Dialer.lost c.args.dial.now) (g.D.Dialer.faults c.args.dial.now)) (dialer_at (g.D.Dialer.asked c.open_remote.new.dial) (g.D.Dialer.ended c.open_remote.new.dial) (g.D.Dialer.lost c.open_remote.new.dial) (g.D.Dialer.faults c.open_remote.new.dial))) c.as_str-2.ensures.value c.in-Ok-open_remote.ensures.dials)
    c.in-Ok-open_remote.ensures.opens
    c.in-Err-gate_links.stop c.in-Err-gate_links.ensures
