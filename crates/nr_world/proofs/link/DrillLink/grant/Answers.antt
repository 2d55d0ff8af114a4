use Rattle.std.proofs.Common.{◌≤◌, sym, subst}
use Rattle.nr_world.specs.DrillLinkState.{DrillLinkState}
use Rattle.nr_world.specs.Views.{link_view}
use Rattle.nr_world.proofs.Granting.{grants_to}
use Rattle.nr_world.proofs.Outputs.{server_kept}
use Rattle.nr_world.proofs.Standing.{on_ok}
use Rattle.nr_world.proofs.link.DrillLink.grant.Goals as goal

pub set_credits-requires-clause-some : goal.set_credits-requires-clause-some
set_credits-requires-clause-some c = c.requires.some

pub set_credits-requires-clause-few : goal.set_credits-requires-clause-few
set_credits-requires-clause-few c = subst (λ (v : DrillLinkState). c.args.credits ≤ v.server.credits.receives) (sym c.self.view_is) c.requires.few

pub invariant_of-self : goal.invariant_of-self
invariant_of-self c = server_kept _ c.self.inside.server.side.link c.set_credits.new.self.side.link _ c.set_credits.ensures.fed c.self.invariant

pub returns : goal.returns
returns c =
    let v : DrillLinkState = link_view c.self.inside.number c.self.inside.client c.self.inside.server.side c.self.inside.up c.self.inside.down c.self.inside.dropped c.self.inside.lines c.self.inside.awaited.items c.self.inside.held.items in
    on_ok c.add_mark.result _ _
    (λ more. grants_to v c.args.self.now c.set_credits.new.self.side c.args.credits c.args.marks.now _ c.self.view_is c.set_credits.ensures.stands c.set_credits.ensures.end more)
    c.add_mark.ensures
