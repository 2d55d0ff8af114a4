use Rattle.nr_drill.specs.Drill.{after_feeding_up, after_up, settled}
use Rattle.nr_world.proofs.Standing.{steps_compose, on_ok}
use Rattle.nr_world.proofs.Feeding.{up_is}
use Rattle.nr_world.proofs.link.DrillLink.up.Goals as goal

pub returns-in-Ok : goal.returns-in-Ok
returns-in-Ok c =
    on_ok c.settle.result _ _
    (λ writes. steps_compose (λ s link. after_feeding_up link c.args.most) settled (λ s link. after_up s link c.args.most) _ _ _ _ _ _ (up_is c.args.most) c.in-Ok.ensures writes)
    c.settle.ensures
