use Rattle.std.proofs.Common.{◌∙◌, ap}
use Rattle.nr_world.specs.DrillLinkState.{DrillLinkState}
use Rattle.nr_world.proofs.Reading.{client_end_is}
use Rattle.nr_world.proofs.link.DrillLink.client_end.Goals as goal

pub returns : goal.returns
returns c s link d h = c.end.ensures ∙ ap (λ (v : DrillLinkState). v.client.state.side.ended) c.self.view_is ∙ client_end_is s link d c.args.self.now h
