use Rattle.std.specs.Prelude.{◌-◌}
use Rattle.std.proofs.Common.{◌∙◌, arith, ℕ, List, [], ◌∷◌, ◌++◌, map, sym, ap}
use Rattle.nr_reduce.specs.declared.mark.Mark.TheVariants as marks
use Rattle.nr_reduce.specs.History.{AcceptedCall}
use Rattle.nr_world.specs.DrillLinkState.{AwaitedLine, DrillLinkState}
use Rattle.nr_world.specs.Views.{call_view, line_view, link_view}
use Rattle.nr_drill.specs.Drill.{after_revoke}
use Rattle.nr_world.proofs.GivenLines.{open_ticket, left_open, none_left}
use Rattle.nr_world.proofs.GivenUp.{revoke_idle, stays, stays_absent, none_if_dropped, none_if_ended, TookOut, revokes, none_of, some_of}
use Rattle.nr_world.proofs.OpenLines.{calls_open, lines_open}
use Rattle.nr_world.proofs.Standing.{on_ok, from_view}
use Rattle.nr_world.proofs.link.DrillLink.revoke.Goals as goal

pub returns-then-self : goal.returns-then-self
returns-then-self c =
    stays c.args.number (λ s link. after_revoke s link c.args.number) c.args.self.now c.args.marks.now (revoke_idle c.args.number)
    (none_if_dropped c.args.number c.args.self.now (ap (λ (v : DrillLinkState). v.is_dropped) (sym c.self.view_is) ∙ c.if-self.true))

pub returns-then-is_some : goal.returns-then-is_some
returns-then-is_some c =
    stays c.args.number (λ s link. after_revoke s link c.args.number) c.args.self.now c.args.marks.now (revoke_idle c.args.number)
    (none_if_ended c.args.number c.args.self.now
    (some_of c.args.self.now.client.state.side.ended c.end.result c.is_some.result (c.end.ensures ∙ ap (λ (v : DrillLinkState). v.client.state.side.ended) c.self.view_is) c.is_some.ensures c.if-is_some.true))

pub invariant_of-self : goal.invariant_of-self
invariant_of-self c = (
  c.self.invariant.0,
  (
    c.self.invariant.1.0,
    (
      c.self.invariant.1.1.0,
      (
        c.self.invariant.1.1.1.0,
        calls_open c.self.inside.client.state c.take_line.new.awaited.items
            (none_left c.self.inside.client.state (c.args.number - 1) c.take_line.result (map line_view c.self.inside.awaited.items) (map line_view c.take_line.new.awaited.items) c.in_default.is c.take_line.ensures.lines (lines_open c.self.inside.client.state c.self.inside.awaited.items c.self.invariant.1.1.1.1)),
      ),
    ),
  ),
)

pub returns-in_default : goal.returns-in_default
returns-in_default c =
    stays_absent c.args.number (λ s link. after_revoke s link c.args.number) _ c.args.self.now c.take_line.result (map line_view c.take_line.new.awaited.items) (map call_view c.take_line.new.awaited.items) c.args.marks.now (revoke_idle c.args.number) c.self.view_is c.in_default.is c.take_line.ensures.lines (c.take_line.ensures.calls c.self.invariant.1.1.1.1.apart)

pub revoke_call-requires : goal.revoke_call-requires
revoke_call-requires c = open_ticket c.self.inside.client.state (c.args.number - 1) c.in-Some.ticket (map line_view c.self.inside.awaited.items) (map line_view c.take_line.new.awaited.items) c.in-Some.ensures.lines (lines_open c.self.inside.client.state c.self.inside.awaited.items c.self.invariant.1.1.1.1)

pub invariant_of-self-in-Err : goal.invariant_of-self-in-Err
invariant_of-self-in-Err c = (
  c.self.invariant.0,
  (
    c.self.invariant.1.0,
    (
      omega (arith, c.revoke_call.ensures.fed, c.self.invariant.1.1.0),
      (
        c.self.invariant.1.1.1.0,
        calls_open c.revoke_call.new.client.state c.take_line.new.awaited.items
            (left_open c.self.inside.client.state c.revoke_call.new.client.state (c.args.number - 1) c.in-Some.ticket (map line_view c.self.inside.awaited.items) (map line_view c.take_line.new.awaited.items) c.in-Some.ensures.lines
            c.revoke_call.ensures.others (lines_open c.self.inside.client.state c.self.inside.awaited.items c.self.invariant.1.1.1.1)),
      ),
    ),
  ),
)

pub invariant_of-self-in-Ok-add_mark : goal.invariant_of-self-in-Ok-add_mark
invariant_of-self-in-Ok-add_mark c = (
  c.self.invariant.0,
  (
    c.self.invariant.1.0,
    (
      omega (arith, c.revoke_call.ensures.fed, c.self.invariant.1.1.0),
      (
        c.self.invariant.1.1.1.0,
        calls_open c.revoke_call.new.client.state c.take_line.new.awaited.items
            (left_open c.self.inside.client.state c.revoke_call.new.client.state (c.args.number - 1) c.in-Some.ticket (map line_view c.self.inside.awaited.items) (map line_view c.take_line.new.awaited.items) c.in-Some.ensures.lines
            c.revoke_call.ensures.others (lines_open c.self.inside.client.state c.self.inside.awaited.items c.self.invariant.1.1.1.1)),
      ),
    ),
  ),
)

pub invariant_of-self-in-Err-add_mark : goal.invariant_of-self-in-Err-add_mark
invariant_of-self-in-Err-add_mark c = (
  c.self.invariant.0,
  (
    c.self.invariant.1.0,
    (
      omega (arith, c.revoke_call.ensures.fed, c.self.invariant.1.1.0),
      (
        c.self.invariant.1.1.1.0,
        calls_open c.revoke_call.new.client.state c.take_line.new.awaited.items
            (left_open c.self.inside.client.state c.revoke_call.new.client.state (c.args.number - 1) c.in-Some.ticket (map line_view c.self.inside.awaited.items) (map line_view c.take_line.new.awaited.items) c.in-Some.ensures.lines
            c.revoke_call.ensures.others (lines_open c.self.inside.client.state c.self.inside.awaited.items c.self.invariant.1.1.1.1)),
      ),
    ),
  ),
)

pub returns-in-Ok-add_mark : goal.returns-in-Ok-add_mark
returns-in-Ok-add_mark c =
    let v : DrillLinkState = link_view c.self.inside.number c.self.inside.client c.self.inside.server.side c.self.inside.up c.self.inside.down c.self.inside.dropped c.self.inside.lines c.self.inside.awaited.items c.self.inside.held.items in
    let left : List AwaitedLine = map line_view c.take_line.new.awaited.items in
    let calls : List AcceptedCall = map call_view c.take_line.new.awaited.items in
    let took : TookOut v c.args.number c.in-Some.ticket left calls = record {
      stands = c.if-self.false;
      live = none_of c.self.inside.client.state.side.ended c.end.result c.is_some.result c.end.ensures c.is_some.ensures c.if-is_some.false;
      tickets = (lines_open c.self.inside.client.state c.self.inside.awaited.items c.self.invariant.1.1.1.1);
      taken = c.in-Some.ensures.lines;
      call = c.in-Some.ensures.calls c.self.invariant.1.1.1.1.apart;
    } in
    on_ok c.settle.result _ _
    (λ settles. from_view (λ s link. after_revoke s link c.args.number) v c.args.self.now c.settle.new.self c.args.marks.now c.settle.new.marks c.self.view_is
    (revokes v c.settle.new.self c.revoke_call.new.client c.args.number c.in-Some.ticket c.in-Ok.bytes left calls c.args.marks.now c.add_mark.new.marks c.settle.new.marks took
    (open_ticket c.self.inside.client.state (c.args.number - 1) c.in-Some.ticket (map line_view c.self.inside.awaited.items) (map line_view c.take_line.new.awaited.items) c.in-Some.ensures.lines (lines_open c.self.inside.client.state c.self.inside.awaited.items c.self.invariant.1.1.1.1)) c.in-Ok.ensures.bytes c.in-Ok.ensures.state c.in-Ok.ensures.stands
    (c.in-Ok-add_mark.ensures ∙ ap (λ (x : ℕ). c.args.marks.now ++ marks.Revoke c.self.inside.number x c.in-Ok.bytes ∷ []) c.xid-xid.ensures) settles))
    c.settle.ensures
