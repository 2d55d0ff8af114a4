use Rattle.nr_world.proofs.Standing.{steps_compose, on_ok}
use Rattle.nr_world.proofs.Writes.{settled_is}
use Rattle.nr_wire.specs.declared.hello.Side.TheVariants.{Initiator, Responder}
use Rattle.nr_drill.specs.Drill.{after_all_output, settled}
use Rattle.nr_world.proofs.link.DrillLink.settle.Goals as goal

pub returns-in-Ok : goal.returns-in-Ok
returns-in-Ok c =
    on_ok c.write_down.result _ _
    (λ writes. steps_compose (λ s link. after_all_output s link Initiator) (λ s link. after_all_output s link Responder) settled _ _ _ _ _ _ settled_is c.in-Ok.ensures writes)
    c.write_down.ensures
