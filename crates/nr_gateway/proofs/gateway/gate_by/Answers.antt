use Rattle.std.proofs.Common.{refl}
use Rattle.nr_outside.specs.Streams.{sink_at}
use Rattle.nr_words.specs.GateSettings.{gate_config_settings}
use Rattle.nr_gateway.specs.Stops.StopsGating.{AtGating}
use Rattle.nr_gateway.proofs.Completing.{printed}
use Rattle.nr_gateway.proofs.gateway.gate_by.Goals as goal

pub returns-in-Err : goal.returns-in-Err
returns-in-Err g c = AtGating c.in-Err.ensures refl

pub returns : goal.returns
returns g c =
    printed (gate_config_settings c.args.config.now) (sink_at (g.O.Sink.taken c.args.out.now) (g.O.Sink.faults c.args.out.now)) (sink_at (g.O.Sink.taken c.print_gated.new.out) (g.O.Sink.faults c.print_gated.new.out)) _ _ c.print_gated.result c.in-Ok.ensures c.print_gated.ensures
