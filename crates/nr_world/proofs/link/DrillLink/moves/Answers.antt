use Rattle.nr_world.proofs.Standing.{on_ok}
use Rattle.nr_world.proofs.ReadyCalls.{moves_go}
use Rattle.nr_world.proofs.link.DrillLink.moves.Goals as goal

pub returns-in-Ok-all_work : goal.returns-in-Ok-all_work
returns-in-Ok-all_work c =
    on_ok c.all_down.result _ _ (λ falls. moves_go c.args.seconds _ _ _ _ _ _ _ _ _ _ c.in-Ok.ensures c.in-Ok-all_work.ensures falls) c.all_down.ensures
