use Rattle.std.proofs.Common.{◌≡◌, ◌∙◌, arith, false, map, ap}
use Rattle.nr_requester.specs.Fed.{fed_bytes}
use Rattle.nr_world.specs.DrillLinkState.{DrillLinkState}
use Rattle.nr_world.specs.Views.{call_view, held_view, line_view}
use Rattle.nr_world.specs.private.Working.{begun_link}
use Rattle.nr_world.proofs.link.DrillLink.begin.Goals as goal

pub invariant_of-self : goal.invariant_of-self
invariant_of-self c =
    let asks : fed_bytes c.self.inside.client ≡ 0 = ap (λ (v : DrillLinkState). fed_bytes v.client) c.self.view_is ∙ c.requires.asks in
    (omega (arith, c.requires.serves), (omega arith, (omega (arith, asks), (omega arith, c.self.invariant.1.1.1.1))))

pub returns : goal.returns
returns c =
    let held = map held_view c.args.held.items in
    let own : DrillLinkState = record {
      number = c.args.number;
      client = c.self.inside.client;
      server = c.args.server.side;
      pipes = record { up = c.new.result.waiting; down = c.new-2.result.waiting };
      is_dropped = false;
      lines = c.self.inside.lines;
      awaited = map line_view c.self.inside.awaited.items;
      calls = map call_view c.self.inside.awaited.items;
      waiting = held;
    } in
    (λ i. record own { pipes = record { up = (c.new.ensures i).waiting; down = (c.new-2.ensures i).waiting } })
    ∙ ap (λ (v : DrillLinkState). begun_link v c.args.number c.args.server.side held) c.self.view_is
