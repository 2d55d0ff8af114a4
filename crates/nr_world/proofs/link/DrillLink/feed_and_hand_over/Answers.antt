use Rattle.std.proofs.Common.{refl}
use Rattle.nr_drill.specs.Drill.{after_feeding_down, after_outcomes, after_resends}
use Rattle.nr_world.proofs.Standing.{steps_compose, on_ok}
use Rattle.nr_world.proofs.link.DrillLink.feed_and_hand_over.Goals as goal

pub returns-in-Ok : goal.returns-in-Ok
returns-in-Ok c =
    on_ok c.hand_over.result _ _
    (λ hands. steps_compose (λ s link d. after_resends s link (after_feeding_down link c.args.most d)) after_outcomes (λ s link d. after_outcomes s link (after_resends s link (after_feeding_down link c.args.most d))) _ _ _ _ _ _
    (λ s link d. refl) c.in-Ok.ensures hands)
    c.hand_over.ensures
