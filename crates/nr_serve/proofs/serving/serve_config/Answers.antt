use Rattle.std.proofs.Common.{refl}
use Rattle.nr_words.specs.Settings.{config_settings}
use Rattle.nr_serve.specs.Stops.Stopped.{AfterReading, AtReading}
use Rattle.nr_serve.proofs.serving.serve_config.Goals as goal

pub returns-in-Err : goal.returns-in-Err
returns-in-Err g c = AtReading c.in-Err.ensures.read refl refl refl refl

pub returns-in-Ok-serve_by : goal.returns-in-Ok-serve_by
returns-in-Ok-serve_by g c = record { settings = config_settings c.in-Ok.config; reads = c.in-Ok.ensures.read; served = c.in-Ok-serve_by.ensures }

pub returns : goal.returns
returns g c = AfterReading (config_settings c.in-Ok.config) c.in-Ok.ensures.read c.in-Err-serve_by.ensures
