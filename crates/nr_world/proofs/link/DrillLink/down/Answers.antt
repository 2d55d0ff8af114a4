use Rattle.nr_world.proofs.Standing.{on_ok}
use Rattle.nr_world.proofs.FeedingDown.{downs}
use Rattle.nr_world.proofs.link.DrillLink.down.Goals as goal

pub returns-in-Ok : goal.returns-in-Ok
returns-in-Ok c = on_ok c.settle.result _ _ (λ writes. downs c.args.most _ _ _ _ _ _ c.in-Ok.ensures writes) c.settle.ensures
