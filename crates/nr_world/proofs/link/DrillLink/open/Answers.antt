use Rattle.nr_world.proofs.LinkOpening.{opens}
use Rattle.nr_world.proofs.link.DrillLink.open.Goals as goal

pub returns-in-Ok : goal.returns-in-Ok
returns-in-Ok c = opens c.args.number c.args.opening _ _ c.args.marks.now _ c.in_ok-link.ensures c.in-Ok.ensures
