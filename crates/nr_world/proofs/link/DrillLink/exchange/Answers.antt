use Rattle.std.proofs.Common.{refl}
use Rattle.nr_drill.specs.Drill.{settled, after_all_up, after_all_down, after_opening}
use Rattle.nr_world.proofs.LinkOpening.{opening_is}
use Rattle.nr_world.proofs.Standing.{steps_compose, on_ok}
use Rattle.nr_world.proofs.link.DrillLink.exchange.Goals as goal

pub returns-in-Ok-all_up : goal.returns-in-Ok-all_up
returns-in-Ok-all_up c =
    on_ok c.all_down.result _ _
    (λ down. steps_compose (λ s link d. after_all_up s link (settled s link d)) after_all_down after_opening _ _ _ _ _ _ opening_is
    (steps_compose settled after_all_up (λ s link d. after_all_up s link (settled s link d)) _ _ _ _ _ _ (λ s link d. refl) c.in-Ok.ensures c.in-Ok-all_up.ensures) down)
    c.all_down.ensures
