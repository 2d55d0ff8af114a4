use Rattle.std.proofs.Common.{◌∙◌, map, refl, ap}
use Rattle.nr_world.specs.DrillLinkState.{DrillLinkState}
use Rattle.nr_world.specs.Views.{held_view, link_view}
use Rattle.nr_world.proofs.GivenUp.{none_of, some_of}
use Rattle.nr_world.proofs.NotedCalls.{noted_ended, notes_live}
use Rattle.nr_world.proofs.Standing.{on_ok}
use Rattle.nr_world.proofs.link.DrillLink.note_resends.Goals as goal

pub returns-then-is_some : goal.returns-then-is_some
returns-then-is_some c =
    noted_ended c.args.self.now c.args.marks.now
    (some_of c.args.self.now.client.state.side.ended c.end.result c.is_some.result (c.end.ensures ∙ ap (λ (v : DrillLinkState). v.client.state.side.ended) c.self.view_is) c.is_some.ensures c.if-is_some.true)

pub same-self : goal.same-self
same-self c = refl

pub invariant_of-self : goal.invariant_of-self
invariant_of-self c = c.self.invariant

pub returns : goal.returns
returns c =
    let v : DrillLinkState = link_view c.self.inside.number c.self.inside.client c.self.inside.server.side c.self.inside.up c.self.inside.down c.self.inside.dropped c.self.inside.lines c.self.inside.awaited.items c.self.inside.held.items in
    on_ok c.add_resends.result _ _
    (λ notes. notes_live v c.args.self.now c.waiting-waiting.result (map held_view c.add_resends.new.held.items) c.args.marks.now c.add_resends.new.marks c.self.view_is
    (none_of c.self.inside.client.state.side.ended c.end.result c.is_some.result c.end.ensures c.is_some.ensures c.if-is_some.false) c.waiting-waiting.ensures notes)
    c.add_resends.ensures
