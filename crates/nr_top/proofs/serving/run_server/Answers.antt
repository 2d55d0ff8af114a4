use Rattle.std.proofs.Common.{refl}
use Rattle.nr_top.specs.Serving.ServeEnds.{NotServed, Served}
use Rattle.nr_top.proofs.serving.run_server.Goals as goal

pub returns-in-Ok : goal.returns-in-Ok
returns-in-Ok g c = Served refl c.in-Ok.ensures refl

pub returns-in-Err : goal.returns-in-Err
returns-in-Err g c = NotServed c.in-Err.stop c.in-Err.ensures c.report_stop.ensures
