use Rattle.std.proofs.Common.{◌≡◌, arith, length, ap}
use Rattle.nr_world.specs.DrillLinkState.{DrillLinkState}
use Rattle.nr_world.proofs.link.DrillLink.held.Goals as goal

pub returns : goal.returns
returns c =
    let up : length c.self.inside.up.waiting ≡ length c.args.self.now.pipes.up = ap (λ (v : DrillLinkState). length v.pipes.up) c.self.view_is in
    let down : length c.self.inside.down.waiting ≡ length c.args.self.now.pipes.down = ap (λ (v : DrillLinkState). length v.pipes.down) c.self.view_is in
    omega (arith, c.kept.ensures.few, c.kept-2.ensures.few, up, down)
