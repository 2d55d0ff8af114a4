use Rattle.std.proofs.Common.{refl}
use Rattle.nr_top.specs.Gating.GatewayEnds.{Gated, NotGated}
use Rattle.nr_top.proofs.gating.run_gateway.Goals as goal

pub returns-in-Ok : goal.returns-in-Ok
returns-in-Ok g c = Gated refl c.in-Ok.ensures refl

pub returns-in-Err : goal.returns-in-Err
returns-in-Err g c = NotGated c.in-Err.stop c.in-Err.ensures c.report_stop.ensures
