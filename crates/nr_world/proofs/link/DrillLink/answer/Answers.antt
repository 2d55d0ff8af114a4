use Rattle.std.proofs.Common.{arith, map, refl}
use Rattle.nr_world.specs.DrillLinkState.{DrillLinkState}
use Rattle.nr_world.specs.Views.{call_view, line_view, link_view}
use Rattle.nr_world.proofs.GivenCalls.{dropped_call, client_call, answered}
use Rattle.nr_world.proofs.OpenLines.{calls_open, lines_open}
use Rattle.nr_world.proofs.link.DrillLink.answer.Goals as goal

pub same-self : goal.same-self
same-self c = refl

pub overflow_add-self : goal.overflow_add-self
overflow_add-self c = omega (arith, c.if-self.false, c.self.ranges)

pub invariant_of-self : goal.invariant_of-self
invariant_of-self c = c.self.invariant

pub returns-then-self-2 : goal.returns-then-self-2
returns-then-self-2 c =
    let v : DrillLinkState = link_view c.self.inside.number c.self.inside.client c.self.inside.server.side c.self.inside.up c.self.inside.down c.self.inside.dropped c.self.inside.lines c.self.inside.awaited.items c.self.inside.held.items in
    dropped_call v c.args.self.now _ c.args.call.now c.args.form.now c.self.view_is c.if-self-2.true refl

pub overflow_add-self-2 : goal.overflow_add-self-2
overflow_add-self-2 c = omega (arith, c.if-self.false, c.self.ranges)

pub submit_line-requires : goal.submit_line-requires
submit_line-requires c = c.requires

pub invariant_of-self-2 : goal.invariant_of-self-2
invariant_of-self-2 c = (
  c.self.invariant.0,
  (
    c.self.invariant.1.0,
    (
      omega (arith, c.submit_line.ensures.fed, c.self.invariant.1.1.0),
      (
        c.self.invariant.1.1.1.0,
        calls_open c.submit_line.new.client.state c.submit_line.new.awaited.items
            (c.submit_line.ensures.tickets (lines_open c.self.inside.client.state c.self.inside.awaited.items c.self.invariant.1.1.1.1)),
      ),
    ),
  ),
)

pub returns : goal.returns
returns c =
    let v : DrillLinkState = link_view c.self.inside.number c.self.inside.client c.self.inside.server.side c.self.inside.up c.self.inside.down c.self.inside.dropped c.self.inside.lines c.self.inside.awaited.items c.self.inside.held.items in
    answered c.submit_line.result _ _
    (λ answer done. client_call v c.args.self.now _ c.submit_line.new.client (map line_view c.submit_line.new.awaited.items) (map call_view c.submit_line.new.awaited.items) c.args.call.now c.args.form.now answer c.self.view_is c.if-self-2.false done refl)
    c.submit_line.ensures.submits
