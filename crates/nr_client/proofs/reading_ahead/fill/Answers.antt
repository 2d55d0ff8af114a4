use Rattle.std.proofs.Common.{◌∙◌}
use Rattle.nr_client.proofs.FileReading.{looked_ahead, looked_on}
use Rattle.nr_client.proofs.Tickets.{still_open}
use Rattle.nr_client.proofs.reading_ahead.fill.Goals as goal

pub ask-requires-clause-open : goal.ask-requires-clause-open
ask-requires-clause-open g c =
    let (ahead, faults, on) = c.asked.invariant in
    still_open g.L.Calls.relations (g.L.Calls.at c.asked.link) (g.L.Calls.at c.may_ask.new.link) c.asked.tickets.items c.may_ask.ensures.tickets ahead.open_all

pub asked-preserved : goal.asked-preserved
asked-preserved g c =
    let (ahead, faults, on) = c.asked.invariant in
    let after = looked_ahead g.L.Calls.relations (g.L.Calls.at c.asked.link) (g.L.Calls.at c.may_ask.new.link) c.args.file.now.size c.args.at c.asked.next c.asked.tickets.items c.may_ask.ensures.tickets ahead in (
      c.in-Ok.ensures.ahead c.args.at after,
      c.in-Ok.ensures.faults ∙ (c.may_ask.ensures.faults ∙ faults),
      λ t first taken so_far. c.in-Ok.ensures.ok c.args.at t c.requires.below after first taken
          (looked_on g.L.Calls.relations c.args.file.now.uid c.args.file.now.gid c.args.file.now.handle.now c.args.file.now.size c.args.at c.args.at c.asked.tickets.items first taken t
          (g.L.Calls.at c.asked.link) (g.L.Calls.at c.may_ask.new.link) c.may_ask.ensures.looked (on t first taken so_far)),
    )

pub returns-in-Err-clause-err : goal.returns-in-Err-clause-err
returns-in-Err-clause-err g c t first taken so_far =
    let (ahead, faults, on) = c.asked.invariant in
    let after = looked_ahead g.L.Calls.relations (g.L.Calls.at c.asked.link) (g.L.Calls.at c.may_ask.new.link) c.args.file.now.size c.args.at c.asked.next c.asked.tickets.items c.may_ask.ensures.tickets ahead in
    c.in-Err.ensures.err c.args.at t c.requires.below after first taken
    (looked_on g.L.Calls.relations c.args.file.now.uid c.args.file.now.gid c.args.file.now.handle.now c.args.file.now.size c.args.at c.args.at c.asked.tickets.items first taken t
    (g.L.Calls.at c.asked.link) (g.L.Calls.at c.may_ask.new.link) c.may_ask.ensures.looked (on t first taken so_far))

pub returns-clause-open : goal.returns-clause-open
returns-clause-open g c =
    let (ahead, faults, on) = c.asked.invariant in
    still_open g.L.Calls.relations (g.L.Calls.at c.asked.link) (g.L.Calls.at c.may_ask.new.link) c.asked.tickets.items c.may_ask.ensures.tickets ahead.open_all

pub returns-clause-ahead : goal.returns-clause-ahead
returns-clause-ahead g c =
    let (ahead, faults, on) = c.asked.invariant in
    looked_ahead g.L.Calls.relations (g.L.Calls.at c.asked.link) (g.L.Calls.at c.may_ask.new.link) c.args.file.now.size c.args.at c.asked.next c.asked.tickets.items c.may_ask.ensures.tickets ahead

pub returns-clause-ok : goal.returns-clause-ok
returns-clause-ok g c t first taken so_far =
    let (ahead, faults, on) = c.asked.invariant in
    looked_on g.L.Calls.relations c.args.file.now.uid c.args.file.now.gid c.args.file.now.handle.now c.args.file.now.size c.args.at c.args.at c.asked.tickets.items first taken t
    (g.L.Calls.at c.asked.link) (g.L.Calls.at c.may_ask.new.link) c.may_ask.ensures.looked (on t first taken so_far)
