use Rattle.std.proofs.Common.{◌≡◌, ◌∙◌, length, sym, ap, subst, inl}
use Rattle.nr_responder.specs.ResponderState.{ResponderSide, end_of}
use Rattle.nr_responder.specs.Standing.{ResponderRepresents}
use Rattle.nr_world.specs.DrillLinkState.{DrillLinkState}
use Rattle.nr_world.proofs.Reading.{moves_up, moves_down, none_wait, still_dropped, still_by_call, none_by}
use Rattle.nr_world.proofs.link.DrillLink.is_still.Goals as goal

pub returns-then-waiting-gt0 : goal.returns-then-waiting-gt0
returns-then-waiting-gt0 c s link d h =
    moves_up s link d c.args.self.now h c.waiting.result (c.waiting.ensures ∙ ap (λ (v : DrillLinkState). length v.pipes.up) c.self.view_is) c.if-waiting-gt0.true

pub returns-then-waiting-gt0-2 : goal.returns-then-waiting-gt0-2
returns-then-waiting-gt0-2 c s link d h =
    moves_down s link d c.args.self.now h c.waiting-2.result
    (none_wait c.args.self.now.pipes.up c.waiting.result (c.waiting.ensures ∙ ap (λ (v : DrillLinkState). length v.pipes.up) c.self.view_is) c.if-waiting-gt0.false)
    (c.waiting-2.ensures ∙ ap (λ (v : DrillLinkState). length v.pipes.down) c.self.view_is) c.if-waiting-gt0-2.true

pub returns-then-self : goal.returns-then-self
returns-then-self c s link d h =
    still_dropped s link d c.args.self.now h
    (none_wait c.args.self.now.pipes.up c.waiting.result (c.waiting.ensures ∙ ap (λ (v : DrillLinkState). length v.pipes.up) c.self.view_is) c.if-waiting-gt0.false)
    (none_wait c.args.self.now.pipes.down c.waiting-2.result (c.waiting-2.ensures ∙ ap (λ (v : DrillLinkState). length v.pipes.down) c.self.view_is) c.if-waiting-gt0-2.false)
    (ap (λ (v : DrillLinkState). v.is_dropped) (sym c.self.view_is) ∙ c.if-self.true)

pub returns : goal.returns
returns c s link d h =
    let is : c.self.inside.server.side ≡ c.args.self.now.server = ap (λ (v : DrillLinkState). v.server) c.self.view_is in
    none_by c.next_ready.result c.is_none.result c.is_none.ensures
    ∙ still_by_call s link d c.args.self.now h
    (none_wait c.args.self.now.pipes.up c.waiting.result (c.waiting.ensures ∙ ap (λ (v : DrillLinkState). length v.pipes.up) c.self.view_is) c.if-waiting-gt0.false)
    (none_wait c.args.self.now.pipes.down c.waiting-2.result (c.waiting-2.ensures ∙ ap (λ (v : DrillLinkState). length v.pipes.down) c.self.view_is) c.if-waiting-gt0-2.false)
    (ap (λ (v : DrillLinkState). v.is_dropped) (sym c.self.view_is) ∙ c.if-self.false) c.next_ready.result
    (c.next_ready.ensures.exact (λ e. h.server_memory (ap end_of (sym is) ∙ e)) (s.opened link) link d.marks (subst (λ (v : ResponderSide). ResponderRepresents (s.opened link) link d.marks v) (sym is) (inl h.server)))
