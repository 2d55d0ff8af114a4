use Rattle.std.proofs.Common.{◌∙◌, ap}
use Rattle.nr_world.specs.DrillLinkState.{DrillLinkState}
use Rattle.nr_world.proofs.link.DrillLink.is_dropped.Goals as goal

pub returns : goal.returns
returns c s link d h = ap (λ (v : DrillLinkState). v.is_dropped) c.self.view_is ∙ h.dropped
