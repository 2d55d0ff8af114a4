use Rattle.std.proofs.Common.{◌∙◌, ap}
use Rattle.nr_responder.specs.ResponderState.{end_of}
use Rattle.nr_world.specs.DrillLinkState.{DrillLinkState}
use Rattle.nr_world.proofs.Reading.{server_end_is}
use Rattle.nr_world.proofs.link.DrillLink.server_end.Goals as goal

pub returns : goal.returns
returns c s link d h = c.end.ensures ∙ ap (λ (v : DrillLinkState). end_of v.server) c.self.view_is ∙ server_end_is s link d c.args.self.now h
