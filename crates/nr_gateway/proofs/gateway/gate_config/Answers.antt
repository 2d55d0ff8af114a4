use Rattle.std.proofs.Common.{refl}
use Rattle.nr_words.specs.GateSettings.{gate_config_settings}
use Rattle.nr_gateway.specs.Stops.Stopped.{AfterReading, AtReading}
use Rattle.nr_gateway.proofs.gateway.gate_config.Goals as goal

pub returns-in-Err : goal.returns-in-Err
returns-in-Err g c = AtReading c.in-Err.ensures.read refl refl

pub returns-in-Ok-gate_by : goal.returns-in-Ok-gate_by
returns-in-Ok-gate_by g c = record { settings = gate_config_settings c.in-Ok.config; reads = c.in-Ok.ensures.read; gated = c.in-Ok-gate_by.ensures }

pub returns : goal.returns
returns g c = AfterReading (gate_config_settings c.in-Ok.config) c.in-Ok.ensures.read c.in-Err-gate_by.ensures
