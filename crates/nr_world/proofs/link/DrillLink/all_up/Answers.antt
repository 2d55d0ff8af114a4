use Rattle.std.proofs.Common.{◌∙◌, length, refl, ap}
use Rattle.nr_world.specs.DrillLinkState.{DrillLinkState}
use Rattle.nr_world.proofs.Standing.{on_ok}
use Rattle.nr_world.proofs.LinkOpening.{all_up_goes}
use Rattle.nr_world.proofs.link.DrillLink.all_up.Goals as goal

pub returns : goal.returns
returns c =
    on_ok c.up.result _ _
    (λ goes. all_up_goes c.args.self.now c.up.new.self c.args.marks.now c.up.new.marks c.waiting-most.result
    (c.waiting-most.ensures ∙ ap (λ (v : DrillLinkState). length v.pipes.up) c.self.view_is) goes)
    c.up.ensures

pub same-self : goal.same-self
same-self c = refl
