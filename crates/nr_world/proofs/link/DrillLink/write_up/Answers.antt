use Rattle.std.proofs.Common.{refl}
use Rattle.nr_world.specs.DrillLinkState.{DrillLinkState}
use Rattle.nr_world.specs.Views.{link_view}
use Rattle.nr_world.proofs.Standing.{on_ok}
use Rattle.nr_world.proofs.Outputs.{some_bytes, client_kept, wrote_no_bytes_up, wrote_bytes_up}
use Rattle.nr_world.proofs.link.DrillLink.write_up.Goals as goal

pub invariant_of-self : goal.invariant_of-self
invariant_of-self c = client_kept _ _ _ c.self.inside.client c.client_output.new.client _ _ c.client_output.ensures.fed c.client_output.ensures.tickets c.self.invariant

pub invariant_of-self-then-is_empty : goal.invariant_of-self-then-is_empty
invariant_of-self-then-is_empty c = client_kept _ _ _ c.self.inside.client c.client_output.new.client _ _ c.client_output.ensures.fed c.client_output.ensures.tickets c.self.invariant

pub returns-then-is_empty : goal.returns-then-is_empty
returns-then-is_empty c =
    let v : DrillLinkState = link_view c.self.inside.number c.self.inside.client c.self.inside.server.side c.self.inside.up c.self.inside.down c.self.inside.dropped c.self.inside.lines c.self.inside.awaited.items c.self.inside.held.items in
    wrote_no_bytes_up v c.args.self.now c.client_output.new.client _ c.args.marks.now c.self.view_is c.in-Ok.ensures.writes (c.is_empty.ensures.0 c.if-is_empty.true)

pub same-bytes : goal.same-bytes
same-bytes c = refl

pub invariant_of-self-2 : goal.invariant_of-self-2
invariant_of-self-2 c = client_kept _ _ _ c.self.inside.client c.client_output.new.client _ _ c.client_output.ensures.fed c.client_output.ensures.tickets c.self.invariant

pub returns : goal.returns
returns c =
    let v : DrillLinkState = link_view c.self.inside.number c.self.inside.client c.self.inside.server.side c.self.inside.up c.self.inside.down c.self.inside.dropped c.self.inside.lines c.self.inside.awaited.items c.self.inside.held.items in
    on_ok c.put_output.result _ _
    (λ put. wrote_bytes_up v c.args.self.now c.client_output.new.client _ _ c.put_output.new.pipe.waiting c.args.marks.now _ c.self.view_is c.in-Ok.ensures.writes (some_bytes _ _ c.is_empty.ensures c.if-is_empty.false) refl put.0 put.1)
    c.put_output.ensures
