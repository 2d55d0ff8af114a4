use Rattle.std.proofs.Common.{◌<◌, length, arith, ◌∙◌}
use Rattle.nr_client.proofs.Tickets.{forgets_first, front, rest_open}
use Rattle.nr_client.proofs.reading_ahead.forget_all.Goals as goal

pub tickets-preserved : goal.tickets-preserved
tickets-preserved g c =
    let (are, faults, forgets) = c.tickets.invariant in
    let some : 0 < length c.tickets.tickets.items = grind (arith, c.tickets-test.true, c.len.ensures) in
    let is = front c.tickets.tickets.items c.remove.new.self.items c.remove.result some c.remove.ensures.value c.remove.ensures.items in (
      rest_open g.L.Calls.relations c.remove.result (g.L.Calls.at c.tickets.link) (g.L.Calls.at c.forget.new.self) c.tickets.tickets.items c.remove.new.self.items is c.forget.ensures.tickets are,
      c.forget.ensures.faults ∙ faults,
      λ last rest. forgets last (forgets_first g.L.Calls.relations c.remove.result c.tickets.tickets.items c.remove.new.self.items (g.L.Calls.at c.tickets.link) (g.L.Calls.at c.forget.new.self) last is c.forget.ensures.forgets rest),
    )
