use Rattle.std.proofs.Common.{◌∙◌, length, refl, ap}
use Rattle.nr_world.specs.DrillLinkState.{DrillLinkState}
use Rattle.nr_world.proofs.Standing.{on_ok}
use Rattle.nr_world.proofs.LinkOpening.{all_down_goes}
use Rattle.nr_world.proofs.link.DrillLink.all_down.Goals as goal

pub returns : goal.returns
returns c =
    on_ok c.down.result _ _
    (λ goes. all_down_goes c.args.self.now c.down.new.self c.args.marks.now c.down.new.marks c.waiting-most.result
    (c.waiting-most.ensures ∙ ap (λ (v : DrillLinkState). length v.pipes.down) c.self.view_is) goes)
    c.down.ensures

pub same-self : goal.same-self
same-self c = refl
