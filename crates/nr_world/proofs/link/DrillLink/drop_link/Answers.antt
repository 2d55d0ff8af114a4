use Rattle.std.proofs.Common.{ap}
use Rattle.nr_world.specs.Transits.{TransitState}
use Rattle.nr_world.specs.DrillLinkState.{DrillLinkState}
use Rattle.nr_world.specs.Views.{link_view}
use Rattle.nr_world.proofs.Standing.{on_ok}
use Rattle.nr_world.proofs.Outputs.{drops_to}
use Rattle.nr_world.proofs.link.DrillLink.drop_link.Goals as goal

pub invariant_of-self : goal.invariant_of-self
invariant_of-self c = c.self.invariant

pub returns : goal.returns
returns c =
    let v : DrillLinkState = link_view c.self.inside.number c.self.inside.client c.self.inside.server.side c.self.inside.up c.self.inside.down c.self.inside.dropped c.self.inside.lines c.self.inside.awaited.items c.self.inside.held.items in
    on_ok c.add_mark.result _ _
    (λ more. drops_to v c.args.self.now c.new.result c.new-2.result c.args.marks.now _ c.self.view_is (ap (λ (t : TransitState). t.waiting) c.new.ensures) (ap (λ (t : TransitState). t.waiting) c.new-2.ensures) more)
    c.add_mark.ensures
